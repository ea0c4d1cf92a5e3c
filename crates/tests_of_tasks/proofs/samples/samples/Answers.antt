use Rattle.std.proofs.Common.{ℕ}
use Rattle.std.proofs.lemmas.List.Elements.{All-push}
use Rattle.dd_blocks.specs.declared.task_row.TaskRow.{TaskRow}
use Rattle.dd_alias.specs.Shapes.{AreViewsBy}
use Rattle.tests_of_tasks.proofs.samples.samples.Goals as goal

pub loop-accesses-preserved : goal.loop-accesses-preserved
loop-accesses-preserved c =
    rw c.in_ok-push.ensures.items (All-push (λ (t : TaskRow). AreViewsBy (λ (n : ℕ). record { rows = 16; cols = 1 }) t.accesses) c.loop-accesses.rows.items c.in_ok-sample.field-0 c.loop-accesses.invariant c.in_ok-sample.ensures)

pub returns : goal.returns
returns c = ((λ (n : ℕ). record { rows = 16; cols = 1 }), c.loop-accesses.invariant)
