use Rattle.std.proofs.Common.{sym, ◌∙◌, arith}
use Rattle.std.specs.List.{range_with_len}
use Rattle.dd_kernels.proofs.ListsLemmas.{ap2}
use Rattle.dd_plain.proofs.TaskLemmas.{last_position, run_positions}
use Rattle.dd_plain.proofs.runs.run_of.Goals as goal

pub overflow_sub-result : goal.overflow_sub-result
overflow_sub-result c =
    let run = run_positions c.requires.view.0 c.args.view.now c.requires.view.1 c.requires.run in
    omega (arith, c.len-count.ensures.value, last_position run.0 c.args.view.now c.at-last.result (c.len-count.result) c.len-count.ensures.value c.if-count-eq0.false run.1 c.at-last.ensures.value)

pub returns-clause-positions : goal.returns-clause-positions
returns-clause-positions c =
    let run = run_positions c.requires.view.0 c.args.view.now c.requires.view.1 c.requires.run in
    let last = last_position run.0 c.args.view.now c.at-last.result (c.len-count.result) c.len-count.ensures.value c.if-count-eq0.false run.1 c.at-last.ensures.value in
    run.1 ∙ ap2 range_with_len (omega (arith, last)) (sym c.len-count.ensures.value)
