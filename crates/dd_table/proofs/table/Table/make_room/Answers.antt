-- The spills so far are a front of those that make room; each leaves less of the load.
use Rattle.std.proofs.Common.{◌<◌, ◌≤◌, ◌∙◌, sym, subst}
use Rattle.dd_blocks.specs.declared.plan.Plan.{Plan}
use Rattle.dd_blocks.specs.WellFormed.{IsWellFormed}
use Rattle.dd_machine.specs.Bytes.{load}
use Rattle.dd_machine.specs.Words.{IsOneOf, limit, spaces}
use Rattle.dd_table.specs.Tables.{state_now}
use Rattle.dd_table.proofs.FactsLemmas.{core_of}
use Rattle.dd_table.proofs.GivesLemmas.{err_as}
use Rattle.dd_table.proofs.RoomLemmas.{SpillsGive, limit_is, load_is, over_by, plan_is, some_victim, spill_falls, spilled_next, spilled_none, spills_end, spills_stop, victim_is, within_by}
use Rattle.dd_table.proofs.table.Table.make_room.Goals as goal

pub loop-self-init : goal.loop-self-init
loop-self-init g c = spilled_none c.args.self.now c.args.space c.requires.running

pub load-requires-clause-core : goal.load-requires-clause-core
load-requires-clause-core g c =
    let m = c.loop-self.self in
    let well = subst IsWellFormed (sym (plan_is c.args.self.now m c.args.space c.loop-self.invariant)) c.requires.well in
    core_of m.holding.ledger c.plan.result c.core.result.now well c.plan.ensures c.core.ensures

pub victim-requires-clause-core : goal.victim-requires-clause-core
victim-requires-clause-core g c =
    let m = c.loop-self.self in
    let well = subst IsWellFormed (sym (plan_is c.args.self.now m c.args.space c.loop-self.invariant)) c.requires.well in
    core_of m.holding.ledger c.plan-in-loop-self-2.result c.core-in-loop-self.result.now well c.plan-in-loop-self-2.ensures c.core-in-loop-self.ensures

pub unreachable-requires : goal.unreachable-requires
unreachable-requires g c =
    let t = c.args.self.now in
    let m = c.loop-self.self in
    let s = c.loop-self.invariant in
    let space = c.args.space in
    let same = sym (plan_is t m space s) in
    let over : limit m.holding.ledger.plan.now space < load m.holding.ledger.plan.now (state_now m) space =
    over_by m space c.load.result c.space.result.now.limit (load_is m c.plan.result c.core.result.now space c.load.result c.plan.ensures c.core.ensures c.load.ensures)
    (limit_is m c.plan-in-loop-self.result c.space.result.now space c.plan-in-loop-self.ensures c.space.ensures) c.loop-self-test.true in
    some_victim m space (subst IsWellFormed same c.requires.well) (subst (λ (p : Plan). IsOneOf (spaces p) space) same c.requires.space) (s.ends.enters.cause ∙ s.ends.none) over
    (victim_is m c.plan-in-loop-self-2.result c.core-in-loop-self.result.now space c.victim.result c.plan-in-loop-self-2.ensures c.core-in-loop-self.ensures c.victim.ensures ∙ c.in_default.is)

pub loop-self-smaller : goal.loop-self-smaller
loop-self-smaller g c =
    let t = c.args.self.now in
    let m = c.loop-self.self in
    let s = c.loop-self.invariant in
    let space = c.args.space in
    spill_falls t m c.spill.new.self space c.in-Some.block (subst IsWellFormed (sym (plan_is t m space s)) c.requires.well) s
    (victim_is m c.plan-in-loop-self-2.result c.core-in-loop-self.result.now space c.victim.result c.plan-in-loop-self-2.ensures c.core-in-loop-self.ensures c.victim.ensures ∙ c.in-Some.is)
    c.in_ok-spill.ensures

pub loop-self-preserved : goal.loop-self-preserved
loop-self-preserved g c =
    let t = c.args.self.now in
    let m = c.loop-self.self in
    let space = c.args.space in
    let over : limit m.holding.ledger.plan.now space < load m.holding.ledger.plan.now (state_now m) space =
    over_by m space c.load.result c.space.result.now.limit (load_is m c.plan.result c.core.result.now space c.load.result c.plan.ensures c.core.ensures c.load.ensures)
    (limit_is m c.plan-in-loop-self.result c.space.result.now space c.plan-in-loop-self.ensures c.space.ensures) c.loop-self-test.true in
    spilled_next t m c.spill.new.self space c.in-Some.block c.loop-self.invariant over c.in_ok-spill.ensures

pub returns-in_err-spill : goal.returns-in_err-spill
returns-in_err-spill g c =
    let t = c.args.self.now in
    let m = c.loop-self.self in
    let space = c.args.space in
    let over : limit m.holding.ledger.plan.now space < load m.holding.ledger.plan.now (state_now m) space =
    over_by m space c.load.result c.space.result.now.limit (load_is m c.plan.result c.core.result.now space c.load.result c.plan.ensures c.core.ensures c.load.ensures)
    (limit_is m c.plan-in-loop-self.result c.space.result.now space c.plan-in-loop-self.ensures c.space.ensures) c.loop-self-test.true in
    err_as (SpillsGive t c.spill.new.self space) c.from_residual.result _ c.from_residual.ensures.1 (spills_stop t m c.spill.new.self space c.in-Some.block _ c.loop-self.invariant over c.in_err-spill.ensures)

pub returns : goal.returns
returns g c =
    let m = c.loop-self.self in
    let space = c.args.space in
    let low : load m.holding.ledger.plan.now (state_now m) space ≤ limit m.holding.ledger.plan.now space =
    within_by m space c.load.result c.space.result.now.limit (load_is m c.plan.result c.core.result.now space c.load.result c.plan.ensures c.core.ensures c.load.ensures)
    (limit_is m c.plan-in-loop-self.result c.space.result.now space c.plan-in-loop-self.ensures c.space.ensures) c.loop-self-test.false in
    spills_end c.args.self.now m space c.loop-self.invariant low
