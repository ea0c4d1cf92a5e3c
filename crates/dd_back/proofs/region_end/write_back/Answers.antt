-- All blocks come home, all other copies are freed, and the region is closed.
use Rattle.std.proofs.Common.{ℕ, Option, refl, sym, ◌∙◌, subst}
use Rattle.std.specs.Prelude.{IsSome}
use Rattle.dd_back.proofs.ClosingLemmas.{closed, freed_close, freed_end, has_closed, home_current, home_end}
use Rattle.dd_back.proofs.EnteredLemmas.{homes_run, homes_well}
use Rattle.dd_back.proofs.region_end.write_back.Goals as goal

pub free_others-requires-clause-at_end : goal.free_others-requires-clause-at_end
free_others-requires-clause-at_end g c = λ _ _.
    let t = c.args.table.now in
    let none = sym c.cause.ensures ∙ c.in_default.is in
    home_end t c.bring_all_home.new.table (c.requires.at_end none) c.in_ok-bring_all_home.ensures.gives

pub close_region-requires-clause-open : goal.close_region-requires-clause-open
close_region-requires-clause-open g c = λ _ _.
    let t = c.args.table.now in
    let none = sym c.cause.ensures ∙ c.in_default.is in
    let e = freed_end t c.bring_all_home.new.table c.free_others.new.table (c.requires.at_end none) c.in_ok-bring_all_home.ensures.gives c.free_others.ensures in
    subst (λ (o : Option ℕ). IsSome o) (sym e.open_is) refl

pub close_region-requires-clause-legal : goal.close_region-requires-clause-legal
close_region-requires-clause-legal g c = λ _ _ region open_is.
    let t = c.args.table.now in
    let none = sym c.cause.ensures ∙ c.in_default.is in
    let home = c.in_ok-bring_all_home.ensures.gives in
    let m = c.bring_all_home.new.table in
    freed_close m c.free_others.new.table region (homes_well t m home.homes c.requires.well) (home_end t m (c.requires.at_end none) home) (home_current t m home) home.unpinned (homes_run t m home.homes)
    c.free_others.ensures open_is

pub returns-clause-gives : goal.returns-clause-gives
returns-clause-gives g c =
    closed c.args.table.now c.bring_all_home.new.table c.free_others.new.table c.close_region.new.self (c.requires.at_end (sym c.cause.ensures ∙ c.in_default.is)) c.in_ok-bring_all_home.ensures.gives
    c.free_others.ensures c.close_region.ensures

pub returns-clause-closed : goal.returns-clause-closed
returns-clause-closed g c =
    (has_closed c.args.table.now c.bring_all_home.new.table c.free_others.new.table c.close_region.new.self c.requires.well (c.requires.at_end (sym c.cause.ensures ∙ c.in_default.is))
    c.in_ok-bring_all_home.ensures.gives c.free_others.ensures c.close_region.ensures).closed

pub returns-clause-unpinned : goal.returns-clause-unpinned
returns-clause-unpinned g c =
    (has_closed c.args.table.now c.bring_all_home.new.table c.free_others.new.table c.close_region.new.self c.requires.well (c.requires.at_end (sym c.cause.ensures ∙ c.in_default.is))
    c.in_ok-bring_all_home.ensures.gives c.free_others.ensures c.close_region.ensures).unpinned

pub returns-clause-progress : goal.returns-clause-progress
returns-clause-progress g c =
    (has_closed c.args.table.now c.bring_all_home.new.table c.free_others.new.table c.close_region.new.self c.requires.well (c.requires.at_end (sym c.cause.ensures ∙ c.in_default.is))
    c.in_ok-bring_all_home.ensures.gives c.free_others.ensures c.close_region.ensures).progress

pub returns-clause-tasks : goal.returns-clause-tasks
returns-clause-tasks g c =
    (has_closed c.args.table.now c.bring_all_home.new.table c.free_others.new.table c.close_region.new.self c.requires.well (c.requires.at_end (sym c.cause.ensures ∙ c.in_default.is))
    c.in_ok-bring_all_home.ensures.gives c.free_others.ensures c.close_region.ensures).tasks

pub returns-clause-homes : goal.returns-clause-homes
returns-clause-homes g c =
    (has_closed c.args.table.now c.bring_all_home.new.table c.free_others.new.table c.close_region.new.self c.requires.well (c.requires.at_end (sym c.cause.ensures ∙ c.in_default.is))
    c.in_ok-bring_all_home.ensures.gives c.free_others.ensures c.close_region.ensures).homes

pub returns-clause-at_home : goal.returns-clause-at_home
returns-clause-at_home g c =
    (has_closed c.args.table.now c.bring_all_home.new.table c.free_others.new.table c.close_region.new.self c.requires.well (c.requires.at_end (sym c.cause.ensures ∙ c.in_default.is))
    c.in_ok-bring_all_home.ensures.gives c.free_others.ensures c.close_region.ensures).at_home
