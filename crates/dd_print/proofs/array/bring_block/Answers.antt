-- The block is Here once it was brought, so its values are the current ones.
use Rattle.std.proofs.Common.{◌+◌, ◌++◌, ℕ, ℤ, List, length, length-append, Err, Ok, refl, ap, ◌∙◌}
use Rattle.dd_print.specs.Asks.{bring_one}
use Rattle.dd_print.specs.Causes.{of_run}
use Rattle.dd_print.specs.Gives.{PrintGives}
use Rattle.dd_print.specs.declared.fault.PrintFault.TheVariants.{Memory}
use Rattle.dd_print.proofs.BreaksLemmas.{err_gives, no_memory}
use Rattle.dd_print.proofs.BringLemmas.{all_values, bring_breaks, bring_may, brought, brought_half, home_is, is_brought, place_now, rest_may, telling_then, told_values}
use Rattle.dd_statements.proofs.AddsLemmas.{bring_asks}
use Rattle.dd_table.specs.Tables.{line_now, state_now}
use Rattle.dd_print.proofs.array.bring_block.Goals as goal

pub bring-requires-clause-legal : goal.bring-requires-clause-legal
bring-requires-clause-legal g c = λ _ _ none.
    let t = c.args.table.now in
    bring_may t c.home-space.result c.args.block c.requires.well c.requires.between c.requires.block c.requires.due (home_is t c.core.result.now c.home-space.result c.args.block c.home-space.ensures c.core.ensures)

pub returns-in_err-bring-clause-entries : goal.returns-in_err-bring-clause-entries
returns-in_err-bring-clause-entries g c =
    let t = c.args.table.now in
    let m = c.bring.new.self in
    let home = home_is t c.core.result.now c.home-space.result c.args.block c.home-space.ensures c.core.ensures in
    let breaks = bring_breaks t m c.home-space.result c.args.block c.in_err-bring.field-0.0 home (bring_asks t m (line_now t) c.home-space.result c.args.block (Err c.in_err-bring.field-0.0) refl c.in_err-bring.ensures.gives) in
    err_gives (λ r. PrintGives t m (line_now t) (bring_one (state_now t) c.args.block) r) c.from_residual.result (of_run c.in_err-bring.field-0.0) c.from_residual.ensures.1 breaks

pub values-requires-clause-place : goal.values-requires-clause-place
values-requires-clause-place g c = λ _ _.
    let t = c.args.table.now in
    let m = c.bring.new.self in
    let home = home_is t c.core.result.now c.home-space.result c.args.block c.home-space.ensures c.core.ensures in
    let follows = bring_asks t m (line_now t) c.home-space.result c.args.block (Ok tt) refl c.in_ok-bring.ensures.gives in
    place_now t m c.home-space.result c.args.block (is_brought t m c.home-space.result c.args.block c.requires.well c.requires.between home c.requires.due c.requires.there follows c.in_ok-bring.ensures.here)

pub values-requires-clause-here : goal.values-requires-clause-here
values-requires-clause-here g c = λ _ _.
    let t = c.args.table.now in
    let m = c.bring.new.self in
    let home = home_is t c.core.result.now c.home-space.result c.args.block c.home-space.ensures c.core.ensures in
    let follows = bring_asks t m (line_now t) c.home-space.result c.args.block (Ok tt) refl c.in_ok-bring.ensures.gives in
    let b = is_brought t m c.home-space.result c.args.block c.requires.well c.requires.between home c.requires.due c.requires.there follows c.in_ok-bring.ensures.here in
    b.here

pub rest-requires-clause-legal : goal.rest-requires-clause-legal
rest-requires-clause-legal g c = λ _ _.
    let t = c.args.table.now in
    let m = c.bring.new.self in
    let home = home_is t c.core.result.now c.home-space.result c.args.block c.home-space.ensures c.core.ensures in
    let follows = bring_asks t m (line_now t) c.home-space.result c.args.block (Ok tt) refl c.in_ok-bring.ensures.gives in
    rest_may t m c.home-space.result c.args.block (is_brought t m c.home-space.result c.args.block c.requires.well c.requires.between home c.requires.due c.requires.there follows c.in_ok-bring.ensures.here)

pub returns-clause-entries : goal.returns-clause-entries
returns-clause-entries g c =
    let t = c.args.table.now in
    let m = c.bring.new.self in
    let home = home_is t c.core.result.now c.home-space.result c.args.block c.home-space.ensures c.core.ensures in
    let follows = bring_asks t m (line_now t) c.home-space.result c.args.block (Ok tt) refl c.in_ok-bring.ensures.gives in
    let b = is_brought t m c.home-space.result c.args.block c.requires.well c.requires.between home c.requires.due c.requires.there follows c.in_ok-bring.ensures.here in
    brought t m c.home-space.result c.args.block b c.rest.new.self c.rest.ensures

pub returns-in_err-extend_from_slice-clause-entries : goal.returns-in_err-extend_from_slice-clause-entries
returns-in_err-extend_from_slice-clause-entries g c =
    let t = c.args.table.now in
    let m = c.bring.new.self in
    let home = home_is t c.core.result.now c.home-space.result c.args.block c.home-space.ensures c.core.ensures in
    let follows = bring_asks t m (line_now t) c.home-space.result c.args.block (Ok tt) refl c.in_ok-bring.ensures.gives in
    let b = is_brought t m c.home-space.result c.args.block c.requires.well c.requires.between home c.requires.due c.requires.there follows c.in_ok-bring.ensures.here in
    err_gives (λ r. PrintGives t m (line_now t) (bring_one (state_now t) c.args.block) r) c.from_residual-in_err-extend_from_slice.result Memory c.from_residual-in_err-extend_from_slice.ensures.1
    (brought_half t m c.home-space.result c.args.block b Memory no_memory)

pub returns-clause-filled : goal.returns-clause-filled
returns-clause-filled g c =
    let t = c.args.table.now in
    let m = c.bring.new.self in
    let home = home_is t c.core.result.now c.home-space.result c.args.block c.home-space.ensures c.core.ensures in
    let follows = bring_asks t m (line_now t) c.home-space.result c.args.block (Ok tt) refl c.in_ok-bring.ensures.gives in
    let b = is_brought t m c.home-space.result c.args.block c.requires.well c.requires.between home c.requires.due c.requires.there follows c.in_ok-bring.ensures.here in
    let all = all_values t m c.home-space.result c.args.block b c.values.result.now c.values.ensures in
    ap length c.in_ok-extend_from_slice.ensures.items ∙ length-append c.args.band.now.items c.values.result.now ∙ ap (λ (n : ℕ). length c.args.band.now.items + n) all

pub returns-clause-told : goal.returns-clause-told
returns-clause-told g c = λ telling.
    let t = c.args.table.now in
    let m = c.bring.new.self in
    let home = home_is t c.core.result.now c.home-space.result c.args.block c.home-space.ensures c.core.ensures in
    let follows = bring_asks t m (line_now t) c.home-space.result c.args.block (Ok tt) refl c.in_ok-bring.ensures.gives in
    let b = is_brought t m c.home-space.result c.args.block c.requires.well c.requires.between home c.requires.due c.requires.there follows c.in_ok-bring.ensures.here in
    c.in_ok-extend_from_slice.ensures.items
    ∙ ap (λ (l : List ℤ). c.args.band.now.items ++ l) (told_values t m c.home-space.result c.args.block b c.values.result.now c.values.ensures (telling_then t m c.home-space.result c.args.block b c.rest.new.self c.rest.ensures telling))
