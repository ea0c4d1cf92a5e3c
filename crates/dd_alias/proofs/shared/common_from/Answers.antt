use Rattle.std.proofs.Common.{◌≡◌, arith, sym, subst, ℕ}
use Rattle.dd_alias.specs.Runs.{IsAhead}
use Rattle.dd_alias.proofs.SharedLemmas.{common_on, on_common, only_first}
use Rattle.dd_alias.proofs.shared.common_from.Goals as goal

pub returns-in_default : goal.returns-in_default
returns-in_default c = λ x.
    let a = c.args.a.now in
    let b = c.args.b.now in (
      (λ has.
          let same : x ≡ c.args.first = omega (arith, has.0.1, has.1, c.min.ensures) in (
            (subst (λ (y : ℕ). IsAhead a y) (sym same) c.requires.of_a, omega (arith, has.1, c.min.ensures, c.min-limit.ensures)),
            (subst (λ (y : ℕ). IsAhead b y) (sym same) c.requires.of_b, omega (arith, has.1, c.min.ensures, c.min-limit.ensures)),
          )),
      (λ both.
          let same = only_first a b c.args.first x a.moves b.moves c.requires c.in_default.ensures both.0.0 both.1.0 (omega (arith, both.0.1, a.small)) in
          ((0, omega (arith, same)), omega (arith, both.0.1, both.1.1, same, c.min.ensures, c.min-limit.ensures))),
    )

pub returns : goal.returns
returns c = λ x.
    let a = c.args.a.now in
    let b = c.args.b.now in (
      (λ has.
          let on = common_on a b c.args.first c.in-Some.stride x c.requires c.in-Some.ensures has.0 in
          ((on.0, omega (arith, has.1, c.min-limit.ensures)), (on.1, omega (arith, has.1, c.min-limit.ensures)))),
      (λ both.
          (on_common a b c.args.first c.in-Some.stride x a.moves b.moves c.requires c.in-Some.ensures both.0.0 both.1.0, omega (arith, both.0.1, both.1.1, c.min-limit.ensures))),
    )
