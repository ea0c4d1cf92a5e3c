-- The Put that is due is legal once there is room, and so is the Rest behind it.
use Rattle.std.proofs.Common.{◌≡◌, ◌∷◌, [], ℕ, Err, Ok, ap, sym, ◌∙◌, subst}
use Rattle.dd_blocks.specs.WellFormed.{IsWellFormed}
use Rattle.dd_core.specs.Cores.{core_state}
use Rattle.dd_machine.specs.declared.event.Event.TheVariants.{Ask, Put, Rest}
use Rattle.dd_machine.specs.Legal.{May}
use Rattle.dd_tables.specs.declared.tables.Tables.{Tables}
use Rattle.dd_table.specs.Tables.{state_now}
use Rattle.dd_table.proofs.AskedLemmas.{AskGives, AskedGives, asked, asked_before, asked_stops, asked_then, plan_one, put_ends, put_legal, put_then_rest}
use Rattle.dd_table.proofs.GivesLemmas.{err_as}
use Rattle.dd_table.proofs.table.Table.put_block.Goals as goal

pub returns-in-Some : goal.returns-in-Some
returns-in-Some g c = asked_before c.args.self.now ((state_now c.args.self.now).homes c.args.block) c.args.block (Put c.args.block ∷ (Rest ∷ [])) _ c.in-Some.is

pub ask-requires-clause-legal : goal.ask-requires-clause-legal
ask-requires-clause-legal g c = λ _ _.
    let t = c.args.self.now in
    let plan = t.holding.ledger.plan.now in
    let home : c.home-space.result ≡ (state_now t).homes c.args.block = c.home-space.ensures plan ∙ ap (λ (k : Tables). (core_state plan k).homes c.args.block) c.core.ensures in
    subst (λ (s : ℕ). May plan (state_now t) (Ask s c.args.block)) (sym home) (c.requires.legal c.in_default.is)

pub returns-in_err-ask : goal.returns-in_err-ask
returns-in_err-ask g c =
    let t = c.args.self.now in
    let plan = t.holding.ledger.plan.now in
    let home : c.home-space.result ≡ (state_now t).homes c.args.block = c.home-space.ensures plan ∙ ap (λ (k : Tables). (core_state plan k).homes c.args.block) c.core.ensures in
    err_as (AskedGives t c.ask.new.self ((state_now t).homes c.args.block) c.args.block (Put c.args.block ∷ (Rest ∷ []))) c.from_residual.result c.in_err-ask.field-0.0 c.from_residual.ensures.1
    (asked_stops t c.ask.new.self ((state_now t).homes c.args.block) c.args.block (Put c.args.block ∷ (Rest ∷ [])) c.in_err-ask.field-0.0
    (subst (λ (s : ℕ). AskGives t c.ask.new.self s c.args.block (Err c.in_err-ask.field-0.0)) home c.in_err-ask.ensures))

pub put-requires-clause-well : goal.put-requires-clause-well
put-requires-clause-well g c = λ _ _.
    let t = c.args.self.now in
    let u = c.ask.new.self in
    let plan = t.holding.ledger.plan.now in
    let home : c.home-space.result ≡ (state_now t).homes c.args.block = c.home-space.ensures plan ∙ ap (λ (k : Tables). (core_state plan k).homes c.args.block) c.core.ensures in
    let a = asked t u ((state_now t).homes c.args.block) c.args.block c.requires.well (c.requires.legal c.in_default.is) (subst (λ (s : ℕ). AskGives t u s c.args.block (Ok tt)) home c.in_ok-ask.ensures) in
    subst IsWellFormed (sym a.plan) c.requires.well

pub put-requires-clause-left : goal.put-requires-clause-left
put-requires-clause-left g c = λ _ _.
    let t = c.args.self.now in
    let u = c.ask.new.self in
    let plan = t.holding.ledger.plan.now in
    let home : c.home-space.result ≡ (state_now t).homes c.args.block = c.home-space.ensures plan ∙ ap (λ (k : Tables). (core_state plan k).homes c.args.block) c.core.ensures in
    let a = asked t u ((state_now t).homes c.args.block) c.args.block c.requires.well (c.requires.legal c.in_default.is) (subst (λ (s : ℕ). AskGives t u s c.args.block (Ok tt)) home c.in_ok-ask.ensures) in
    a.left

pub put-requires-clause-running : goal.put-requires-clause-running
put-requires-clause-running g c = λ _ _.
    let t = c.args.self.now in
    let u = c.ask.new.self in
    let plan = t.holding.ledger.plan.now in
    let home : c.home-space.result ≡ (state_now t).homes c.args.block = c.home-space.ensures plan ∙ ap (λ (k : Tables). (core_state plan k).homes c.args.block) c.core.ensures in
    let a = asked t u ((state_now t).homes c.args.block) c.args.block c.requires.well (c.requires.legal c.in_default.is) (subst (λ (s : ℕ). AskGives t u s c.args.block (Ok tt)) home c.in_ok-ask.ensures) in
    a.none

pub put-requires-clause-legal : goal.put-requires-clause-legal
put-requires-clause-legal g c = λ _ _.
    let t = c.args.self.now in
    let u = c.ask.new.self in
    let plan = t.holding.ledger.plan.now in
    let home : c.home-space.result ≡ (state_now t).homes c.args.block = c.home-space.ensures plan ∙ ap (λ (k : Tables). (core_state plan k).homes c.args.block) c.core.ensures in
    let a = asked t u ((state_now t).homes c.args.block) c.args.block c.requires.well (c.requires.legal c.in_default.is) (subst (λ (s : ℕ). AskGives t u s c.args.block (Ok tt)) home c.in_ok-ask.ensures) in
    put_legal t u c.args.block a (c.requires.due c.in_default.is)

pub returns-in_err-put : goal.returns-in_err-put
returns-in_err-put g c =
    let t = c.args.self.now in
    let u = c.ask.new.self in
    let plan = t.holding.ledger.plan.now in
    let home : c.home-space.result ≡ (state_now t).homes c.args.block = c.home-space.ensures plan ∙ ap (λ (k : Tables). (core_state plan k).homes c.args.block) c.core.ensures in
    let a = asked t u ((state_now t).homes c.args.block) c.args.block c.requires.well (c.requires.legal c.in_default.is) (subst (λ (s : ℕ). AskGives t u s c.args.block (Ok tt)) home c.in_ok-ask.ensures) in
    err_as (AskedGives t c.put.new.self ((state_now t).homes c.args.block) c.args.block (Put c.args.block ∷ (Rest ∷ []))) c.from_residual-in_err-put.result c.in_err-put.field-0.0 c.from_residual-in_err-put.ensures.1
    (asked_then t u c.put.new.self ((state_now t).homes c.args.block) c.args.block (Put c.args.block ∷ []) (Rest ∷ []) c.in_err-put.field-0.0 a c.in_err-put.ensures)

pub rest-requires-clause-well : goal.rest-requires-clause-well
rest-requires-clause-well g c = λ _ _.
    let t = c.args.self.now in
    let u = c.ask.new.self in
    let plan = t.holding.ledger.plan.now in
    let home : c.home-space.result ≡ (state_now t).homes c.args.block = c.home-space.ensures plan ∙ ap (λ (k : Tables). (core_state plan k).homes c.args.block) c.core.ensures in
    let a = asked t u ((state_now t).homes c.args.block) c.args.block c.requires.well (c.requires.legal c.in_default.is) (subst (λ (s : ℕ). AskGives t u s c.args.block (Ok tt)) home c.in_ok-ask.ensures) in
    subst IsWellFormed (sym (plan_one u c.put.new.self (Put c.args.block ∷ []) c.in_ok-put.ensures.enters ∙ a.plan)) c.requires.well

pub rest-requires-clause-legal : goal.rest-requires-clause-legal
rest-requires-clause-legal g c = λ _ _.
    let t = c.args.self.now in
    let u = c.ask.new.self in
    let plan = t.holding.ledger.plan.now in
    let home : c.home-space.result ≡ (state_now t).homes c.args.block = c.home-space.ensures plan ∙ ap (λ (k : Tables). (core_state plan k).homes c.args.block) c.core.ensures in
    let a = asked t u ((state_now t).homes c.args.block) c.args.block c.requires.well (c.requires.legal c.in_default.is) (subst (λ (s : ℕ). AskGives t u s c.args.block (Ok tt)) home c.in_ok-ask.ensures) in
    put_then_rest t u c.put.new.self c.args.block a (c.requires.due c.in_default.is) c.in_ok-put.ensures

pub returns : goal.returns
returns g c =
    let t = c.args.self.now in
    let u = c.ask.new.self in
    let plan = t.holding.ledger.plan.now in
    let home : c.home-space.result ≡ (state_now t).homes c.args.block = c.home-space.ensures plan ∙ ap (λ (k : Tables). (core_state plan k).homes c.args.block) c.core.ensures in
    let a = asked t u ((state_now t).homes c.args.block) c.args.block c.requires.well (c.requires.legal c.in_default.is) (subst (λ (s : ℕ). AskGives t u s c.args.block (Ok tt)) home c.in_ok-ask.ensures) in
    put_ends t u c.put.new.self c.rest.new.self c.args.block a (c.requires.due c.in_default.is) c.in_ok-put.ensures c.rest.ensures
