-- One block more has no slot, and the store took the one that it had.
use Rattle.std.proofs.Common.{◌≡◌, ◌≤◌, List, length, ap, ◌∙◌, arith}
use Rattle.dd_blocks.specs.declared.block_row.BlockRow.{BlockRow}
use Rattle.dd_pool.proofs.PlanLemmas.{few_blocks}
use Rattle.dd_table.proofs.EndedLemmas.{ended_next}
use Rattle.dd_table.proofs.ending.end_slots_of.Goals.{in-Some, in_default}
use Rattle.dd_table.proofs.ending.end_slots_of.Goals as goal

pub overflow_cast-i-end : goal.overflow_cast-i-end
overflow_cast-i-end g c =
    let few = few_blocks c.args.plan.now c.requires.well in
    let same : length c.as_slice.result.now ≡ length c.args.plan.now.blocks = ap (λ (rows : List BlockRow). length rows) c.as_slice.ensures in
    omega (arith, few, same)

pub loop-i-preserved : goal.loop-i-preserved
loop-i-preserved g c =
    let was = c.loop-i.invariant in
    let counts : (g.D.Store.made c.match-take_slot.store ≡ g.D.Store.made c.loop-i.store) × (g.D.Store.faults c.loop-i.store ≤ g.D.Store.faults c.match-take_slot.store) = elim c.match-take_slot.branch [
      | in-Some w ↦ (ap g.D.Store.made w.store-is ∙ w.end.ensures.made, omega (arith, ap g.D.Store.faults w.store-is, w.end.ensures.later))
      | in_default w ↦ (ap g.D.Store.made w.store-is, omega (arith, ap g.D.Store.faults w.store-is))
    ] in
    (ended_next c.args.plan.now c.args.holding.now c.loop-i.holding c.take_slot.new.self c.args.space c.loop-i.i c.requires.plan was.0 c.take_slot.ensures.kept c.take_slot.ensures.left, counts.0 ∙ was.1, omega (arith, was.2, counts.1))
