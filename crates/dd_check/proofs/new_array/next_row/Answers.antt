use Rattle.std.proofs.Common.{◌+◌, ◌≤◌, length, ap, ◌∙◌, arith}
use Rattle.dd_blocks.specs.Limits.{blocks_limit}
use Rattle.dd_check.proofs.BlocksLemmas.{length_blocks}
use Rattle.dd_check.proofs.TaskLemmas.{few_blocks}
use Rattle.dd_check.proofs.new_array.next_row.Goals as goal

pub overflow_cast-before : goal.overflow_cast-before
overflow_cast-before c = omega (arith, ap length c.as_slice.ensures, few_blocks c.args.draft.now c.requires)

pub overflow_add-result : goal.overflow_add-result
overflow_add-result c = omega (arith, ap length c.as_slice.ensures, few_blocks c.args.draft.now c.requires)

pub returns-clause-value : goal.returns-clause-value
returns-clause-value c =
    let first = ap length c.as_slice.ensures ∙ length_blocks c.args.draft.now.plan c.requires.above.layout in
    λ i. record { grid = c.args.grid; fill = c.args.fill; first_block = first i + 1; first_element = c.requires.counts.elements i }

pub returns-clause-first : goal.returns-clause-first
returns-clause-first c =
    let few : length c.as_slice.result.now ≤ blocks_limit = omega (arith, ap length c.as_slice.ensures, few_blocks c.args.draft.now c.requires) in
    (omega arith, omega arith)
