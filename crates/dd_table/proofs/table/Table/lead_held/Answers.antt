-- Behind the events that lead it on the task is claimed, or it stands.
use Rattle.std.proofs.Common.{◌≡◌, Bool, true, false, Result, rules, sym, ◌∙◌, subst}
use Rattle.dd_blocks.specs.declared.plan.Plan.{Plan}
use Rattle.dd_legal.specs.Starts.{MayStart}
use Rattle.dd_machine.specs.States.{State}
use Rattle.dd_table.specs.declared.fault.RunFault.{RunFault}
use Rattle.dd_table.specs.declared.turns.Step.{Step}
use Rattle.dd_table.specs.Leading.{HasServed, Stands, StepGives}
use Rattle.dd_table.specs.Tables.{state_now}
use Rattle.dd_table.proofs.ClaimedLemmas.{hands_then}
use Rattle.dd_table.proofs.FactsLemmas.{core_of}
use Rattle.dd_table.proofs.PreparesLemmas.{at_core, fails_then, from_core, later}
use Rattle.dd_table.proofs.RoundsLemmas.{failed, lead_served, moved_by, stood_by}
use Rattle.dd_table.proofs.ServesLemmas.{stands_held}
use Rattle.dd_table.proofs.table.Table.lead_held.Goals as goal

pub claimable-requires-clause-core : goal.claimable-requires-clause-core
claimable-requires-clause-core g c =
    let lead = lead_served c.args.self.now c.serve_all.new.self c.args.task c.in_ok-moved.moved c.requires.lead c.in_ok-moved.ensures.0 in
    core_of c.serve_all.new.self.holding.ledger c.plan.result c.core.result.now lead.well c.plan.ensures c.core.ensures

pub claim-requires-clause-lead : goal.claim-requires-clause-lead
claim-requires-clause-lead g c = λ _ _. lead_served c.args.self.now c.serve_all.new.self c.args.task c.in_ok-moved.moved c.requires.lead c.in_ok-moved.ensures.0

pub claim-requires-clause-free : goal.claim-requires-clause-free
claim-requires-clause-free g c = λ _ _. let so_far = c.in_ok-moved.ensures.0 in (later c.args.self.now c.serve_all.new.self so_far.prior so_far.prepares).free c.args.worker c.requires.free

pub claim-requires-clause-start : goal.claim-requires-clause-start
claim-requires-clause-start g c = λ _ _.
    from_core (λ (p : Plan) (st : State). MayStart p st c.args.task) c.serve_all.new.self.holding.ledger c.plan.result c.core.result.now c.plan.ensures c.core.ensures (search rules)

pub returns-in_err-moved : goal.returns-in_err-moved
returns-in_err-moved g c =
    failed (λ (r : Result Step RunFault). StepGives c.args.self.now c.serve_all.new.self c.args.worker (Stands c.args.task) r) c.from_residual.result c.in_err-moved.field-0.0 c.from_residual.ensures.1
    c.in_err-moved.ensures

pub returns-in_err-claim : goal.returns-in_err-claim
returns-in_err-claim g c =
    let so_far = c.in_ok-moved.ensures.0 in
    failed (λ (r : Result Step RunFault). StepGives c.args.self.now c.claim.new.self c.args.worker (Stands c.args.task) r) c.from_residual-in_err-claim.result c.in_err-claim.field-0.0
    c.from_residual-in_err-claim.ensures.1
    (fails_then c.args.self.now c.serve_all.new.self c.claim.new.self so_far.prior c.in_err-claim.field-0.0 so_far.prepares so_far.cause c.in_err-claim.ensures)

pub returns-then-claimable : goal.returns-then-claimable
returns-then-claimable g c =
    let so_far = c.in_ok-moved.ensures.0 in
    hands_then c.args.self.now c.serve_all.new.self c.claim.new.self so_far.prior c.args.worker c.in_ok-claim.field-0 so_far.prepares c.requires.lead.running c.in_ok-claim.ensures

pub returns-then-moved : goal.returns-then-moved
returns-then-moved g c =
    moved_by c.args.self.now c.serve_all.new.self c.args.task
    (subst (λ (b : Bool). HasServed c.args.self.now c.serve_all.new.self c.args.task b) c.if-moved.true c.in_ok-moved.ensures.0)

pub returns-else-moved : goal.returns-else-moved
returns-else-moved g c =
    let u = c.serve_all.new.self in
    let so_far = subst (λ (b : Bool). HasServed c.args.self.now u c.args.task b) c.if-moved.false c.in_ok-moved.ensures.0 in (
      stood_by c.args.self.now u c.args.task so_far,
      stands_held u.holding.ledger.plan.now (state_now u) c.args.task so_far.held
          (λ start.
          let at = at_core (λ (p : Plan) (st : State). MayStart p st c.args.task) u.holding.ledger c.plan.result c.core.result.now c.plan.ensures c.core.ensures start in
          let both : false ≡ true = sym c.if-claimable.false ∙ c.claimable.ensures.1 at in absurd cc)
          c.in_ok-moved.ensures.1,
    )
