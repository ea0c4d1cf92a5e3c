use Rattle.std.proofs.Common.{ap, ◌∙◌, length, arith}
use Rattle.dd_blocks.specs.declared.task_row.TaskRow.{TaskRow}
use Rattle.dd_stamps.proofs.FoundLemmas.{accesses_views}
use Rattle.copy_bench.proofs.tiles.tile_of.Goals as goal

pub returns-clause-view : goal.returns-clause-view
returns-clause-view c =
    let same = c.as_slice.ensures ∙ ap (λ (t : TaskRow). t.accesses) c.task.ensures in
    rw (c.as_slice.ensures, c.task.ensures) (accesses_views c.args.plan.now 1 c.requires.well c.requires.first 0 _ (omega (arith, ap length same, c.in-len1.len_at_least)))
