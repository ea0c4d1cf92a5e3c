use Rattle.std.proofs.Common.{◌≡◌, ◌+◌, sym, subst, ⊎_elim, arith}
use Rattle.std.proofs.lemmas.Bool.{cases_eq}
use Rattle.dd_legal.specs.Homes.{IsAtHome}
use Rattle.dd_tables.specs.Tables.{state_of}
use Rattle.dd_legal.proofs.closing.are_at_home.Goals as goal

pub loop-i-preserved : goal.loop-i-preserved
loop-i-preserved c = λ b is le. ⊎_elim
    (λ (e : b ≡ c.loop-i.i + 1). subst (IsAtHome c.args.plan.now (state_of c.args.plan.now c.args.tables.now) c.args.space) (sym e) (c.is_at_home.ensures.0 c.if-not-is_at_home.false))
    (λ (ne : b ≡ c.loop-i.i + 1 → ⊥). c.loop-i.invariant b is (omega (arith, le, ne)))
    (cases_eq b (c.loop-i.i + 1))
