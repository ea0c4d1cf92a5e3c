use Rattle.std.proofs.Common.{ℕ}
use Rattle.std.proofs.lemmas.List.Elements.{All-push}
use Rattle.dd_blocks.specs.declared.task_row.TaskRow.{TaskRow}
use Rattle.dd_alias.specs.Shapes.{AreViewsBy}
use Rattle.tests_of_tasks.proofs.pairs.drawn_tasks.Goals as goal

pub loop-preserved : goal.loop-preserved
loop-preserved c =
    rw c.in_ok-push.ensures.items (All-push (λ (t : TaskRow). AreViewsBy (λ (n : ℕ). record { rows = 12; cols = 12 }) t.accesses) c.loop.tasks.items c.task_with.result c.loop.invariant (rw c.task_with.ensures c.in_ok-accesses.ensures))

pub returns : goal.returns
returns c = ((λ (n : ℕ). record { rows = 12; cols = 12 }), c.loop.invariant)
