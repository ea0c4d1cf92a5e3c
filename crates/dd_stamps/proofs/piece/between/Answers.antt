use Rattle.std.proofs.Common.{◌≤◌, ℕ, ap, arith}
use Rattle.dd_stamps.proofs.PieceLemmas.{steps_le}
use Rattle.dd_stamps.proofs.piece.between.Goals as goal
use Rattle.dd_stamps.proofs.piece.between.Goals.{then-column-gt0, else-column-gt0}

pub returns-clause-order : goal.returns-clause-order
returns-clause-order c =
    let order : c.if-column-gt0.before.0 ≤ c.if-column-gt0.before.1 = elim c.if-column-gt0.branch [
      | then-column-gt0 w ↦ omega (arith, ap (λ (p : ℕ × ℕ). p.0) w.before-is, ap (λ (p : ℕ × ℕ). p.1) w.before-is, c.requires.order)
      | else-column-gt0 w ↦ omega (arith, ap (λ (p : ℕ × ℕ). p.0) w.before-is, ap (λ (p : ℕ × ℕ). p.1) w.before-is, c.requires.order)
    ] in
    let few : c.steps_within.result ≤ c.steps_within-2.result = steps_le c.if-column-gt0.before.0 c.if-column-gt0.before.1 c.unsigned_abs-step.result c.steps_within.result c.steps_within-2.result c.steps_within.ensures c.steps_within-2.ensures order in
    omega (arith, few)
