use Rattle.std.proofs.Common.{◌∷◌, [], ℕ, arith}
use Rattle.std.proofs.lemmas.List.{length-append}
use Rattle.std.proofs.lemmas.List.Elements.{All-push}
use Rattle.dd_blocks.specs.declared.task_row.TaskRow.{TaskRow}
use Rattle.alias_bench.specs.Tiles.{AreInArray}
use Rattle.alias_bench.proofs.elements.tasks_on.Goals as goal

pub loop-number-preserved : goal.loop-number-preserved
loop-number-preserved c =
    let tasks = c.loop-number.tasks.items in
    let task = c.in_ok-task_on.field-0 in
    rw c.in_ok-push.ensures.items (
      omega (arith, length-append tasks (task ∷ []), c.loop-number.invariant.0),
      All-push (λ (t : TaskRow). AreInArray c.column-shape.result t.accesses) tasks task c.loop-number.invariant.1 c.in_ok-task_on.ensures,
    )

pub returns-clause-shapes : goal.returns-clause-shapes
returns-clause-shapes c = ((λ (n : ℕ). c.column-shape.result), c.loop-number.invariant.1)
