use Rattle.std.proofs.Common.{◌+◌, ◌∷◌, drop, sym, ap, ◌∙◌}
use Rattle.std.specs.List.{fold}
use Rattle.std.proofs.lemmas.List.{drop_more}
use Rattle.dd_meaning.specs.Steps.{step}
use Rattle.dd_plain.specs.Lists.{lists_of}
use Rattle.dd_plain.proofs.task.run_tasks.Goals as goal

pub loop-task-preserved : goal.loop-task-preserved
loop-task-preserved c =
    let next = drop_more c.args.tasks.now c.loop-task.task-index c.task-item.result c.loop-task-test.true ∙ ap (λ t. t ∷ drop (c.loop-task.task-index + 1) c.args.tasks.now) (sym c.task-item.is) in
    record {
      left = ap (λ w. fold step w (drop (c.loop-task.task-index + 1) c.args.tasks.now)) c.in_ok-run_task.ensures.stepped ∙ sym (ap (fold step (lists_of c.loop-task.world)) next) ∙ c.loop-task.invariant.left;
      sizes = c.in_ok-run_task.ensures.sizes;
    }
