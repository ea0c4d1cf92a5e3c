use Rattle.std.proofs.Common.{◌≡◌, ◌+◌, ℕ, sym, subst, ⊎_elim, arith}
use Rattle.std.proofs.lemmas.Bool.{cases_eq}
use Rattle.dd_legal.specs.Homes.{IsAtHome}
use Rattle.dd_tables.specs.Tables.{state_of}
use Rattle.dd_legal.proofs.closing.all_at_home.Goals as goal

pub loop-i-preserved : goal.loop-i-preserved
loop-i-preserved c = λ s b s_is b_is le. ⊎_elim
    (λ (e : s ≡ c.loop-i.i + 1). subst (λ (k : ℕ). IsAtHome c.args.plan.now (state_of c.args.plan.now c.args.tables.now) k b) (sym e) (c.are_at_home.ensures.0 c.if-not-are_at_home.false b b_is))
    (λ (ne : s ≡ c.loop-i.i + 1 → ⊥). c.loop-i.invariant s b s_is b_is (omega (arith, le, ne)))
    (cases_eq s (c.loop-i.i + 1))
