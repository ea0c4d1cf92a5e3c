use Rattle.std.proofs.Common.{arith}
use Rattle.std.proofs.lemmas.Int.{ints}
use Rattle.dd_alias.proofs.BandLemmas.{falling_order, keeps_by_order, rising_order}
use Rattle.dd_alias.proofs.PlaceLemmas.{is_down}
use Rattle.dd_alias.proofs.band.facing.Goals as goal

pub returns-then-pattern-gt0-clause-facing : goal.returns-then-pattern-gt0-clause-facing
returns-then-pattern-gt0-clause-facing c = λ x y i j at_x at_y.
    let s = c.args.pattern.now.rows in
    keeps_by_order c.args.pattern.now.part i j x y (rising_order s x y i j (omega (arith, ints, c.if-pattern-gt0.true)) c.requires.rows at_x at_y) (rising_order s y x j i (omega (arith, ints, c.if-pattern-gt0.true)) c.requires.rows at_y at_x)

pub returns-else-pattern-gt0-clause-facing : goal.returns-else-pattern-gt0-clause-facing
returns-else-pattern-gt0-clause-facing c = λ x y i j at_x at_y.
    let s = c.args.pattern.now.rows in
    let down = is_down s c.requires.rows (λ up. absurd (omega (arith, ints, c.if-pattern-gt0.false, up))) in
    rw c.flip.ensures.keeps (keeps_by_order c.args.pattern.now.part i j y x (falling_order s x y i j down c.requires.rows at_x at_y) (falling_order s y x j i down c.requires.rows at_y at_x))
