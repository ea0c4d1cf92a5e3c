use Rattle.std.proofs.Common.{◌≡◌, ◌<◌, ◌^◌, drop, max, map}
use Rattle.std.specs.List.{fold}
use Rattle.dd_blocks.specs.Charges.{scratch_elements}
use Rattle.dd_blocks.specs.Numbered.{block_row, task_row}
use Rattle.dd_tables.proofs.rows.scratch.Given as goal

abbrev pub invariant-loop-block : goal.invariant-loop-block
invariant-loop-block l = (l.most < 2 ^ 32) × (fold max l.most (map (λ b. (block_row l.plan b).size) (drop l.block-index (task_row l.plan l.task).blocks)) ≡ scratch_elements l.plan (task_row l.plan l.task))
