-- The Shift that is due is legal once there is room, and so is the Rest behind it.
use Rattle.std.proofs.Common.{◌∷◌, [], sym, ◌∙◌, subst}
use Rattle.dd_blocks.specs.WellFormed.{IsWellFormed}
use Rattle.dd_machine.specs.declared.event.Event.TheVariants.{Rest, Shift}
use Rattle.dd_table.proofs.AskedLemmas.{AskedGives, asked, asked_before, asked_stops, asked_then, plan_one, shift_ends, shift_legal, shift_then_rest}
use Rattle.dd_table.proofs.GivesLemmas.{err_as}
use Rattle.dd_table.proofs.table.Table.shift.Goals as goal

pub returns-in-Some : goal.returns-in-Some
returns-in-Some g c = asked_before c.args.self.now c.args.space c.args.block (Shift c.args.block c.args.space ∷ (Rest ∷ [])) _ c.in-Some.is

pub returns-in_err-ask : goal.returns-in_err-ask
returns-in_err-ask g c =
    let t = c.args.self.now in
    err_as (AskedGives t c.ask.new.self c.args.space c.args.block (Shift c.args.block c.args.space ∷ (Rest ∷ []))) c.from_residual.result c.in_err-ask.field-0.0 c.from_residual.ensures.1
    (asked_stops t c.ask.new.self c.args.space c.args.block (Shift c.args.block c.args.space ∷ (Rest ∷ [])) c.in_err-ask.field-0.0 c.in_err-ask.ensures)

pub move_home-requires-clause-well : goal.move_home-requires-clause-well
move_home-requires-clause-well g c = λ _ _.
    let t = c.args.self.now in
    let u = c.ask.new.self in
    let a = asked t u c.args.space c.args.block c.requires.well (c.requires.legal c.in_default.is) c.in_ok-ask.ensures in
    subst IsWellFormed (sym a.plan) c.requires.well

pub move_home-requires-clause-left : goal.move_home-requires-clause-left
move_home-requires-clause-left g c = λ _ _.
    let t = c.args.self.now in
    let u = c.ask.new.self in
    let a = asked t u c.args.space c.args.block c.requires.well (c.requires.legal c.in_default.is) c.in_ok-ask.ensures in
    a.left

pub move_home-requires-clause-running : goal.move_home-requires-clause-running
move_home-requires-clause-running g c = λ _ _.
    let t = c.args.self.now in
    let u = c.ask.new.self in
    let a = asked t u c.args.space c.args.block c.requires.well (c.requires.legal c.in_default.is) c.in_ok-ask.ensures in
    a.none

pub move_home-requires-clause-legal : goal.move_home-requires-clause-legal
move_home-requires-clause-legal g c = λ _ _.
    let t = c.args.self.now in
    let u = c.ask.new.self in
    let a = asked t u c.args.space c.args.block c.requires.well (c.requires.legal c.in_default.is) c.in_ok-ask.ensures in
    shift_legal t u c.args.space c.args.block a (c.requires.due c.in_default.is)

pub returns-in_err-move_home : goal.returns-in_err-move_home
returns-in_err-move_home g c =
    let t = c.args.self.now in
    let u = c.ask.new.self in
    let a = asked t u c.args.space c.args.block c.requires.well (c.requires.legal c.in_default.is) c.in_ok-ask.ensures in
    err_as (AskedGives t c.move_home.new.self c.args.space c.args.block (Shift c.args.block c.args.space ∷ (Rest ∷ []))) c.from_residual-in_err-move_home.result c.in_err-move_home.field-0.0 c.from_residual-in_err-move_home.ensures.1
    (asked_then t u c.move_home.new.self c.args.space c.args.block (Shift c.args.block c.args.space ∷ []) (Rest ∷ []) c.in_err-move_home.field-0.0 a c.in_err-move_home.ensures)

pub rest-requires-clause-well : goal.rest-requires-clause-well
rest-requires-clause-well g c = λ _ _.
    let t = c.args.self.now in
    let u = c.ask.new.self in
    let a = asked t u c.args.space c.args.block c.requires.well (c.requires.legal c.in_default.is) c.in_ok-ask.ensures in
    subst IsWellFormed (sym (plan_one u c.move_home.new.self (Shift c.args.block c.args.space ∷ []) c.in_ok-move_home.ensures.enters ∙ a.plan)) c.requires.well

pub rest-requires-clause-legal : goal.rest-requires-clause-legal
rest-requires-clause-legal g c = λ _ _.
    let t = c.args.self.now in
    let u = c.ask.new.self in
    let a = asked t u c.args.space c.args.block c.requires.well (c.requires.legal c.in_default.is) c.in_ok-ask.ensures in
    shift_then_rest t u c.move_home.new.self c.args.space c.args.block a (c.requires.due c.in_default.is) c.in_ok-move_home.ensures

pub returns : goal.returns
returns g c =
    let t = c.args.self.now in
    let u = c.ask.new.self in
    let a = asked t u c.args.space c.args.block c.requires.well (c.requires.legal c.in_default.is) c.in_ok-ask.ensures in
    shift_ends t u c.move_home.new.self c.rest.new.self c.args.space c.args.block a (c.requires.due c.in_default.is) c.in_ok-move_home.ensures c.rest.ensures
