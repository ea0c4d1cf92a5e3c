-- Each event leads the task on, which stays Held; where there is none nothing does but its Claim.
use Rattle.std.proofs.Common.{◌≡◌, Bool, Result, rules}
use Rattle.dd_blocks.specs.declared.plan.Plan.{Plan}
use Rattle.dd_machine.specs.declared.task_state.TaskState.TheVariants.{Held}
use Rattle.dd_machine.specs.States.{State}
use Rattle.dd_table.specs.declared.fault.RunFault.{RunFault}
use Rattle.dd_table.specs.Leading.{ServeGives}
use Rattle.dd_table.specs.Tables.{state_now}
use Rattle.dd_table.proofs.FactsLemmas.{core_of}
use Rattle.dd_table.proofs.PreparesLemmas.{at_core, cost_less, left_lead}
use Rattle.dd_table.proofs.RoundsLemmas.{failed, lead_served, served_fails, served_first, served_less, served_next}
use Rattle.dd_table.proofs.ServesLemmas.{served_now, served_some, serves_now}
use Rattle.dd_table.proofs.table.Table.serve_all.Goals as goal

pub loop-event-init : goal.loop-event-init
loop-event-init g c = served_first c.args.self.now c.args.task c.requires.lead.running c.requires.held

pub next_for-requires-clause-core : goal.next_for-requires-clause-core
next_for-requires-clause-core g c =
    let lead = lead_served c.args.self.now c.loop-event.self c.args.task c.loop-event.served c.requires.lead c.loop-event.invariant in
    core_of c.loop-event.self.holding.ledger c.plan.result c.core.result.now lead.well c.plan.ensures c.core.ensures

pub next_for-requires-clause-held : goal.next_for-requires-clause-held
next_for-requires-clause-held g c =
    at_core (λ (p : Plan) (st : State). st.tasks c.args.task ≡ Held) c.loop-event.self.holding.ledger c.plan.result c.core.result.now c.plan.ensures c.core.ensures c.loop-event.invariant.held

pub serve-requires-clause-well : goal.serve-requires-clause-well
serve-requires-clause-well g c = λ _ _.
    let lead = lead_served c.args.self.now c.loop-event.self c.args.task c.loop-event.served c.requires.lead c.loop-event.invariant in lead.well

pub serve-requires-clause-left : goal.serve-requires-clause-left
serve-requires-clause-left g c = λ _ _.
    left_lead c.loop-event.self (lead_served c.args.self.now c.loop-event.self c.args.task c.loop-event.served c.requires.lead c.loop-event.invariant)

pub serve-requires-clause-serves : goal.serve-requires-clause-serves
serve-requires-clause-serves g c = λ _ _.
    let lead = lead_served c.args.self.now c.loop-event.self c.args.task c.loop-event.served c.requires.lead c.loop-event.invariant in
    serves_now c.loop-event.self.holding.ledger c.plan.result c.core.result.now c.args.task c.in-Some.event lead.well c.plan.ensures c.core.ensures c.loop-event.invariant.held c.in-Some.ensures.first
    c.in-Some.ensures.leads

pub loop-event-smaller : goal.loop-event-smaller
loop-event-smaller g c =
    let m = c.loop-event.self in
    let lead = lead_served c.args.self.now m c.args.task c.loop-event.served c.requires.lead c.loop-event.invariant in
    let serves = serves_now m.holding.ledger c.plan.result c.core.result.now c.args.task c.in-Some.event lead.well c.plan.ensures c.core.ensures c.loop-event.invariant.held c.in-Some.ensures.first
    c.in-Some.ensures.leads in
    cost_less m c.serve.new.self _ (served_less m c.serve.new.self c.in-Some.event serves c.in_ok-serve.ensures) lead (served_some m.holding.ledger.plan.now (state_now m) c.in-Some.event)

pub loop-event-preserved : goal.loop-event-preserved
loop-event-preserved g c =
    let m = c.loop-event.self in
    let lead = lead_served c.args.self.now m c.args.task c.loop-event.served c.requires.lead c.loop-event.invariant in
    let serves = serves_now m.holding.ledger c.plan.result c.core.result.now c.args.task c.in-Some.event lead.well c.plan.ensures c.core.ensures c.loop-event.invariant.held c.in-Some.ensures.first
    c.in-Some.ensures.leads in
    served_next c.args.self.now m c.serve.new.self c.args.task c.loop-event.served c.in-Some.event c.loop-event.invariant serves c.in_ok-serve.ensures

pub returns-in_err-serve : goal.returns-in_err-serve
returns-in_err-serve g c =
    let m = c.loop-event.self in
    let lead = lead_served c.args.self.now m c.args.task c.loop-event.served c.requires.lead c.loop-event.invariant in
    let serves = serves_now m.holding.ledger c.plan.result c.core.result.now c.args.task c.in-Some.event lead.well c.plan.ensures c.core.ensures c.loop-event.invariant.held c.in-Some.ensures.first
    c.in-Some.ensures.leads in
    failed (λ (r : Result Bool RunFault). ServeGives c.args.self.now c.serve.new.self c.args.task r) c.from_residual.result c.in_err-serve.field-0.0 c.from_residual.ensures.1
    (served_fails c.args.self.now m c.serve.new.self c.args.task c.loop-event.served c.in-Some.event c.in_err-serve.field-0.0 c.loop-event.invariant serves c.in_err-serve.ensures)

pub returns : goal.returns
returns g c =
    let a = c.in_default.not-Some in
    let b = c.in_default.is in
    let none = c.in_default.ensures.none in
    (c.loop-event.invariant, served_now c.loop-event.self.holding.ledger c.plan.result c.core.result.now c.args.task c.plan.ensures c.core.ensures (none (search rules)))
