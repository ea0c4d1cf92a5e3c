use Rattle.std.proofs.Common.{◌≡◌, false, true, sym, ◌∙◌}
use Rattle.dd_task_steps.proofs.StepsLemmas.{active_known}
use Rattle.dd_task_steps.proofs.holding.hold.Goals as goal

pub set_task-requires-clause-alone : goal.set_task-requires-clause-alone
set_task-requires-clause-alone c = λ _ t on same.
    let off = c.requires.may.alone t (active_known c.args.plan.now c.args.tables.now t c.requires.sized on) same in
    absurd (let f : true ≡ false = sym on ∙ off in cc)
