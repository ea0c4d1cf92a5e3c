-- The blocks of the task are Here, with the room that they kept for it.
use Rattle.std.proofs.Common.{◌≡◌, ℕ, Bor, ap, ◌∙◌}
use Rattle.dd_blocks.specs.declared.plan.Plan.{Plan}
use Rattle.dd_blocks.specs.Numbered.{task_row}
use Rattle.dd_holding.proofs.FinishLemmas.{IsFinish, finished_all, stores_all}
use Rattle.dd_machine.specs.Words.{place}
use Rattle.dd_holding.proofs.holding.Holding.finish.Goals as goal

-- the space and the blocks by other spellings
at_plan : {A : Type 0} (f : Plan → ℕ → A) (plan l : Bor Plan) (task t : ℕ) → plan ≡ l → task ≡ t → f plan.now task ≡ f l.now t
at_plan f plan l task t same is = ap (λ (p : Bor Plan). f p.now task) same ∙ ap (f l.now) is

pub store_all-requires-clause-there : goal.store_all-requires-clause-there
store_all-requires-clause-there g c = λ _ _.
    let x = c.args.self.now in
    let finish : IsFinish x.ledger c.args.entry c.args.work.now = record { well = c.requires.well; legal = c.requires.legal; event = c.requires.event; plan = c.requires.plan; ran = c.requires.ran } in
    (stores_all x.ledger x.pool c.args.entry c.args.work.now c.place-space.result _ finish x.facts x.spare
    (c.place-space.ensures.value ∙ at_plan place c.plan-plan.result x.ledger.plan c.task-task.result c.args.work.now.task c.plan-plan.ensures c.task-task.ensures)
    (c.as_slice-blocks.ensures ∙ ap (λ r. r.blocks) c.task_row.ensures ∙ at_plan (λ p t. (task_row p t).blocks) c.plan-plan.result x.ledger.plan c.task-task.result c.args.work.now.task c.plan-plan.ensures c.task-task.ensures)).2

pub invariant_of-self : goal.invariant_of-self
invariant_of-self g c =
    let x = c.args.self.now in
    let finish : IsFinish x.ledger c.args.entry c.args.work.now = record { well = c.requires.well; legal = c.requires.legal; event = c.requires.event; plan = c.requires.plan; ran = c.requires.ran } in
    let done = finished_all x.ledger c.finish.new.self x.pool c.store_all.new.pool c.args.entry c.args.work.now c.place-space.result _ finish c.requires.told c.finish.ensures
    (c.place-space.ensures.value ∙ at_plan place c.plan-plan.result x.ledger.plan c.task-task.result c.args.work.now.task c.plan-plan.ensures c.task-task.ensures)
    (c.as_slice-blocks.ensures ∙ ap (λ r. r.blocks) c.task_row.ensures ∙ at_plan (λ p t. (task_row p t).blocks) c.plan-plan.result x.ledger.plan c.task-task.result c.args.work.now.task c.plan-plan.ensures c.task-task.ensures)
    c.store_all.ensures x.facts x.spare in
    record { facts = done.0; spare = done.1 }
