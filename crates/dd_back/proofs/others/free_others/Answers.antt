-- One block more stands at home alone.
use Rattle.std.proofs.Common.{◌≡◌, Bor, List, length, ap, ◌∙◌, arith}
use Rattle.dd_blocks.specs.declared.block_row.BlockRow.{BlockRow}
use Rattle.dd_blocks.specs.declared.plan.Plan.{Plan}
use Rattle.dd_pool.proofs.PlanLemmas.{few_blocks}
use Rattle.dd_back.proofs.FreeingLemmas.{all_next}
use Rattle.dd_back.proofs.others.free_others.Goals as goal

pub overflow_cast-i-end : goal.overflow_cast-i-end
overflow_cast-i-end g c =
    let plan = c.args.table.now.holding.ledger.plan.now in
    let few = few_blocks plan c.requires.well in
    let same : length c.as_slice.result.now ≡ length plan.blocks = ap (λ (rows : List BlockRow). length rows) c.as_slice.ensures ∙ ap (λ (p : Bor Plan). length p.now.blocks) c.plan.ensures in
    omega (arith, few, same)

pub loop-i-preserved : goal.loop-i-preserved
loop-i-preserved g c = all_next c.args.table.now c.loop-i.table c.free_others_of.new.table c.loop-i.i c.loop-i.invariant c.free_others_of.ensures
