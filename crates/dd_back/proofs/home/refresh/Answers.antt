-- The block is brought home and pinned, gets what it lacks, and is current then.
use Rattle.std.proofs.Common.{ℕ, sym, subst}
use Rattle.dd_blocks.specs.declared.plan.Plan.{Plan}
use Rattle.dd_holding.proofs.HereLemmas.{sound_now}
use Rattle.dd_machine.specs.Legal.{MayAsk}
use Rattle.dd_table.specs.Tables.{state_now}
use Rattle.dd_table.proofs.GivesLemmas.{err_as}
use Rattle.dd_back.specs.Steps.{ComeGives, IsPinnedHome}
use Rattle.dd_back.proofs.BroughtLemmas.{brought_now, brought_stops}
use Rattle.dd_back.proofs.ComingLemmas.{comes_home, comes_stops, pulls_rest}
use Rattle.dd_back.proofs.EndLemmas.{ask_may}
use Rattle.dd_back.proofs.EnteredLemmas.{homes_plan, homes_well}
use Rattle.dd_back.proofs.FreeingLemmas.{home_now}
use Rattle.dd_back.proofs.home.refresh.Goals as goal

pub bring-requires-clause-legal : goal.bring-requires-clause-legal
bring-requires-clause-legal g c = λ _ _ _.
    let t = c.args.table.now in
    let plan = t.holding.ledger.plan.now in
    let home = home_now t c.core.result.now c.args.block c.home-home.result c.core.ensures c.home-home.ensures in
    subst (λ (s : ℕ). MayAsk plan (state_now t) s c.args.block) (sym home) (ask_may plan (state_now t) c.args.block (sound_now t.holding.ledger c.requires.well) c.requires.at_end c.requires.no_pin c.requires.stale)

pub returns-in_err-bring : goal.returns-in_err-bring
returns-in_err-bring g c = record {
  gives = err_as (ComeGives c.args.table.now c.bring.new.self c.args.block) c.from_residual.result c.in_err-bring.field-0.0 c.from_residual.ensures.1
      (brought_stops c.args.table.now c.bring.new.self c.home-home.result c.args.block _ c.in_err-bring.field-0.0 c.in_err-bring.ensures.gives);
}

pub pull_all-requires-clause-pinned : goal.pull_all-requires-clause-pinned
pull_all-requires-clause-pinned g c = λ _ _.
    let t = c.args.table.now in
    let m = c.bring.new.self in
    let home = home_now t c.core.result.now c.args.block c.home-home.result c.core.ensures c.home-home.ensures in
    let b = brought_now t m c.home-home.result c.args.block home c.requires.at_end c.requires.stale c.in_ok-bring.ensures.gives c.in_ok-bring.ensures.here in
    subst (λ (q : Plan). IsPinnedHome q (state_now m) c.args.block) (sym (homes_plan t m b.homes)) b.pinned

pub returns-in_err-pull_all : goal.returns-in_err-pull_all
returns-in_err-pull_all g c =
    let t = c.args.table.now in
    let m = c.bring.new.self in
    let home = home_now t c.core.result.now c.args.block c.home-home.result c.core.ensures c.home-home.ensures in
    let b = brought_now t m c.home-home.result c.args.block home c.requires.at_end c.requires.stale c.in_ok-bring.ensures.gives c.in_ok-bring.ensures.here in
    record {
      gives = err_as (ComeGives t c.pull_all.new.table c.args.block) c.from_residual-in_err-pull_all.result c.in_err-pull_all.field-0.0 c.from_residual-in_err-pull_all.ensures.1
          (comes_stops t m c.pull_all.new.table c.args.block c.in_err-pull_all.field-0.0 c.requires.at_end b c.in_err-pull_all.ensures.gives);
    }

pub rest-requires-clause-legal : goal.rest-requires-clause-legal
rest-requires-clause-legal g c = λ _ _.
    let t = c.args.table.now in
    let m = c.bring.new.self in
    let home = home_now t c.core.result.now c.args.block c.home-home.result c.core.ensures c.home-home.ensures in
    let b = brought_now t m c.home-home.result c.args.block home c.requires.at_end c.requires.stale c.in_ok-bring.ensures.gives c.in_ok-bring.ensures.here in
    pulls_rest m c.pull_all.new.table c.args.block (homes_well t m b.homes c.requires.well) c.in_ok-pull_all.ensures.gives

pub returns : goal.returns
returns g c =
    let t = c.args.table.now in
    let m = c.bring.new.self in
    let home = home_now t c.core.result.now c.args.block c.home-home.result c.core.ensures c.home-home.ensures in
    let b = brought_now t m c.home-home.result c.args.block home c.requires.at_end c.requires.stale c.in_ok-bring.ensures.gives c.in_ok-bring.ensures.here in
    record { gives = comes_home t m c.pull_all.new.table c.rest.new.self c.args.block c.requires.well c.requires.at_end b c.in_ok-pull_all.ensures.gives c.rest.ensures }
