use Rattle.std.proofs.Common.{◌-◌, ℕ, sym, ap, ◌∙◌}
use Rattle.dd_blocks.specs.declared.array_row.ArrayRow.{ArrayRow}
use Rattle.dd_blocks.specs.declared.block_row.BlockRow.{BlockRow}
use Rattle.dd_blocks.specs.PlanElements.{block_in_grid, grid_of}
use Rattle.dd_stamps.proofs.InBlocksLemmas.{gathered_by, gathered_from, gathered_none}
use Rattle.dd_stamps.proofs.stamped.Stamped.gather.Goals as goal

pub returns-then-view-block_row : goal.returns-then-view-block_row
returns-then-view-block_row c =
    let plan = c.args.self.now.plan.now in
    let block : ℕ = c.args.self.now.block in
    gathered_from plan block c.args.self.now.values.items c.args.view.now c.args.into.now c.gather.new.into c.requires.well.layout c.args.self.now.known
    (c.if-view-block_row.true ∙ ap (λ (r : BlockRow). r.array) c.block_row.ensures)
    (gathered_by c.array_with-array.result.grid (grid_of plan block) c.from-block.result (block_in_grid plan block) c.deref.result.now c.args.self.now.values.items c.args.view.now c.args.into.now c.gather.new.into
    (ap (λ (a : ArrayRow). a.grid) c.array_with-array.ensures.row)
    (c.from-block.ensures ∙ ap (λ (a : ArrayRow). c.args.self.now.block - a.first_block) c.array_with-array.ensures.row)
    c.deref.ensures.value c.gather.ensures)

pub returns-else-view-block_row : goal.returns-else-view-block_row
returns-else-view-block_row c =
    gathered_none c.args.self.now.plan.now c.args.self.now.block c.args.self.now.values.items c.args.view.now c.args.into.now c.requires.well.layout c.requires.named c.requires.view
    (λ e. c.if-view-block_row.false (e ∙ sym (ap (λ (r : BlockRow). r.array) c.block_row.ensures))) c.requires.long
