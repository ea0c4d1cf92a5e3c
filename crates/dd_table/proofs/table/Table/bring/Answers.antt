-- The block was Out before it was asked for where it is Out behind the spills, since they leave what is pinned.
use Rattle.std.proofs.Common.{◌∷◌, [], true, cond, sym, ◌∙◌, subst, Result, Ok, Err}
use Rattle.std.specs.Prelude.{OnOk}
use Rattle.dd_blocks.specs.WellFormed.{IsWellFormed}
use Rattle.dd_machine.specs.declared.event.Event.TheVariants.{Call, Come}
use Rattle.dd_machine.specs.Tests.{Has, is_any, is_here, is_in_state, is_out}
use Rattle.dd_table.specs.declared.fault.RunFault.{RunFault}
use Rattle.dd_table.specs.Tables.{Gives, state_now}
use Rattle.dd_table.proofs.AskedLemmas.{AskedGives, asked, asked_before, asked_more, asked_stops, brings, brings_none, call_legal, came_here, stayed_here}
use Rattle.dd_table.proofs.GivesLemmas.{err_as}
use Rattle.dd_table.proofs.table.Table.bring.Goals as goal

pub returns-in-Some-clause-gives : goal.returns-in-Some-clause-gives
returns-in-Some-clause-gives g c =
    let t = c.args.self.now in
    asked_before t c.args.space c.args.block (cond (is_in_state is_out ((state_now t).copies c.args.space c.args.block)) (Call c.args.space c.args.block ∷ (Come c.args.space c.args.block ∷ [])) []) _ c.in-Some.is

pub returns-in_err-ask-clause-gives : goal.returns-in_err-ask-clause-gives
returns-in_err-ask-clause-gives g c =
    let t = c.args.self.now in
    let events = cond (is_in_state is_out ((state_now t).copies c.args.space c.args.block)) (Call c.args.space c.args.block ∷ (Come c.args.space c.args.block ∷ [])) [] in
    err_as (AskedGives t c.ask.new.self c.args.space c.args.block events) c.from_residual.result c.in_err-ask.field-0.0 c.from_residual.ensures.1
    (asked_stops t c.ask.new.self c.args.space c.args.block events c.in_err-ask.field-0.0 c.in_err-ask.ensures)

pub call-requires-clause-well : goal.call-requires-clause-well
call-requires-clause-well g c = λ _ _.
    let t = c.args.self.now in
    let u = c.ask.new.self in
    let a = asked t u c.args.space c.args.block c.requires.well (c.requires.legal c.in_default.is) c.in_ok-ask.ensures in
    subst IsWellFormed (sym a.plan) c.requires.well

pub call-requires-clause-left : goal.call-requires-clause-left
call-requires-clause-left g c = λ _ _.
    let t = c.args.self.now in
    let u = c.ask.new.self in
    let a = asked t u c.args.space c.args.block c.requires.well (c.requires.legal c.in_default.is) c.in_ok-ask.ensures in
    a.left

pub call-requires-clause-running : goal.call-requires-clause-running
call-requires-clause-running g c = λ _ _.
    let t = c.args.self.now in
    let u = c.ask.new.self in
    let a = asked t u c.args.space c.args.block c.requires.well (c.requires.legal c.in_default.is) c.in_ok-ask.ensures in
    a.none

pub call-requires-clause-legal : goal.call-requires-clause-legal
call-requires-clause-legal g c = λ _ _.
    let t = c.args.self.now in
    let u = c.ask.new.self in
    let a = asked t u c.args.space c.args.block c.requires.well (c.requires.legal c.in_default.is) c.in_ok-ask.ensures in
    call_legal t u c.args.space c.args.block a (sym c.is_out.ensures ∙ c.if-is_out.true)

pub returns-then-is_out-clause-gives : goal.returns-then-is_out-clause-gives
returns-then-is_out-clause-gives g c =
    let t = c.args.self.now in
    let u = c.ask.new.self in
    let a = asked t u c.args.space c.args.block c.requires.well (c.requires.legal c.in_default.is) c.in_ok-ask.ensures in
    brings t u c.call.new.self c.args.space c.args.block true c.call.result a (sym c.is_out.ensures ∙ c.if-is_out.true)
    (asked_more t u c.call.new.self c.args.space c.args.block (Call c.args.space c.args.block ∷ (Come c.args.space c.args.block ∷ [])) c.call.result a c.call.ensures)

pub returns-else-is_out-clause-gives : goal.returns-else-is_out-clause-gives
returns-else-is_out-clause-gives g c =
    let t = c.args.self.now in
    let u = c.ask.new.self in
    let a = asked t u c.args.space c.args.block c.requires.well (c.requires.legal c.in_default.is) c.in_ok-ask.ensures in
    brings_none t u c.args.space c.args.block a (sym c.is_out.ensures ∙ c.if-is_out.false)

pub returns-then-is_out-clause-here : goal.returns-then-is_out-clause-here
returns-then-is_out-clause-here g c = by c.call.result c.call.ensures
  where
    by : (result : Result (Unit {0}) RunFault) → Gives c.ask.new.self c.call.new.self (Call c.args.space c.args.block ∷ (Come c.args.space c.args.block ∷ [])) result
        → OnOk result (Has (state_now c.args.self.now) c.args.space c.args.block is_any → Has (state_now c.call.new.self) c.args.space c.args.block is_here)
    by (Ok done) q = λ any. came_here c.ask.new.self c.call.new.self c.args.space c.args.block (sym c.is_out.ensures ∙ c.if-is_out.true) q.enters
    by (Err fault) q = tt

pub returns-else-is_out-clause-here : goal.returns-else-is_out-clause-here
returns-else-is_out-clause-here g c = λ any.
    let t = c.args.self.now in
    let u = c.ask.new.self in
    let a = asked t u c.args.space c.args.block c.requires.well (c.requires.legal c.in_default.is) c.in_ok-ask.ensures in
    stayed_here t u c.args.space c.args.block a (sym c.is_out.ensures ∙ c.if-is_out.false) any
