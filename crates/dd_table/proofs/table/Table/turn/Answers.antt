-- A task of the region that is led on leaves another state; where none is, each was asked in the state that stands.
use Rattle.std.proofs.Common.{◌+◌, Bool, Bor, Result, sym, ◌∙◌, subst}
use Rattle.dd_blocks.specs.declared.plan.Plan.{Plan}
use Rattle.dd_machine.specs.Words.{IsOf}
use Rattle.dd_table.specs.declared.fault.RunFault.{RunFault}
use Rattle.dd_table.specs.declared.turns.Step.{Step}
use Rattle.dd_table.specs.Leading.{AllStand, Stands, StepGives}
use Rattle.dd_table.specs.Tables.{state_now}
use Rattle.dd_table.proofs.ClaimedLemmas.{hands_then}
use Rattle.dd_table.proofs.PreparesLemmas.{fails_then, later, may_lead_then, not_shut, region_of}
use Rattle.dd_table.proofs.RoundsLemmas.{IsRound, failed, gives_hands, gives_moves, gives_stays, round_first, round_moved, round_moves, round_stands, round_stays, round_stood}
use Rattle.dd_table.proofs.table.Table.turn.Goals.{in-Moved, in-Stood}
use Rattle.dd_table.proofs.table.Table.turn.Goals as goal

pub unreachable-requires : goal.unreachable-requires
unreachable-requires g c =
    let t = c.args.self.now in
    not_shut (state_now t).region c.region.result c.requires.lead.open_is (region_of t.holding.ledger c.core.result.now c.region.result c.core.ensures c.region.ensures) c.in_default.is

pub loop-i-init : goal.loop-i-init
loop-i-init g c = round_first c.args.self.now c.tasks_of-before.result.0 c.requires.lead.running

pub lead-requires-clause-lead : goal.lead-requires-clause-lead
lead-requires-clause-lead g c = λ _ _. let round = c.loop-i.invariant in may_lead_then c.args.self.now c.loop-i.self round.prior round.prepares c.requires.lead round.cause

pub lead-requires-clause-free : goal.lead-requires-clause-free
lead-requires-clause-free g c = λ _ _. let round = c.loop-i.invariant in (later c.args.self.now c.loop-i.self round.prior round.prepares).free c.args.worker c.requires.free

pub returns-in_err-work : goal.returns-in_err-work
returns-in_err-work g c =
    let round = c.loop-i.invariant in
    failed (λ (r : Result Step RunFault). StepGives c.args.self.now c.lead.new.self c.args.worker AllStand r) c.from_residual.result c.in_err-work.field-0.0 c.from_residual.ensures.1
    (fails_then c.args.self.now c.loop-i.self c.lead.new.self round.prior c.in_err-work.field-0.0 round.prepares round.cause c.in_err-work.ensures)

pub returns-in-Claimed : goal.returns-in-Claimed
returns-in-Claimed g c =
    let round = c.loop-i.invariant in
    hands_then c.args.self.now c.loop-i.self c.lead.new.self round.prior c.args.worker c.in-Claimed.work round.prepares c.requires.lead.running
    (gives_hands c.loop-i.self c.lead.new.self c.args.worker (Stands (c.loop-i.i + 1)) c.in_ok-work.field-0 c.in-Claimed.work c.in-Claimed.is c.in_ok-work.ensures)

pub loop-i-preserved : goal.loop-i-preserved
loop-i-preserved g c =
    let t = c.args.self.now in
    let m = c.loop-i.self in
    let u = c.lead.new.self in
    let before = c.tasks_of-before.result.0 in
    let i = c.loop-i.i in
    elim c.match-branch-2.branch [
      | in-Moved w ↦ subst (λ (b : Bool). IsRound t u before (i + 1) b) (sym w.moved-is)
          (round_moved t m u before i c.loop-i.moved c.loop-i.invariant (gives_moves m u c.args.worker (Stands (i + 1)) c.in_ok-work.field-0 w.in-Moved.is c.in_ok-work.ensures))
      | in-Stood w ↦ subst (λ (b : Bool). IsRound t u before (i + 1) b) (sym w.moved-is)
          (let gives = gives_stays m u c.args.worker (Stands (i + 1)) c.in_ok-work.field-0 w.in-Stood.is c.in_ok-work.ensures in
          round_stood t m u before i c.loop-i.moved c.loop-i.invariant gives.0 gives.1)
    ]

pub returns-then-moved : goal.returns-then-moved
returns-then-moved g c =
    let before = c.tasks_of-before.result.0 in
    round_moves c.args.self.now c.loop-i.self before c.loop-i.i (subst (λ (b : Bool). IsRound c.args.self.now c.loop-i.self before c.loop-i.i b) c.if-moved.true c.loop-i.invariant)

pub returns-else-moved : goal.returns-else-moved
returns-else-moved g c =
    let t = c.args.self.now in
    let u = c.loop-i.self in
    let before = c.tasks_of-before.result.0 in
    let region = c.in-Some.region in
    let round = subst (λ (b : Bool). IsRound t u before c.loop-i.i b) c.if-moved.false c.loop-i.invariant in
    let open_in = region_of t.holding.ledger c.core.result.now c.region.result c.core.ensures c.region.ensures ∙ c.in-Some.is in (
      round_stays t u before c.loop-i.i round,
      round_stands t u region before c.tasks_of-before.result.1 c.loop-i.i round open_in
          (λ task of_region. (c.tasks_of-before.ensures.tasks task).0 (subst (λ (p : Bor Plan). IsOf p.now region task) (sym c.plan.ensures) of_region)) c.loop-i-test.false,
    )
