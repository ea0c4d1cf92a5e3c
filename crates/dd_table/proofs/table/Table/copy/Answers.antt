-- No copy is Out that wasn't, or nothing changed.
use Rattle.std.proofs.Common.{refl, sym, ap, ◌∙◌, subst}
use Rattle.dd_machine.specs.Runs.{is_pick}
use Rattle.dd_table.specs.Tables.{state_now}
use Rattle.dd_table.proofs.CalmLemmas.{Calms, calm_carried, carries_no_pick}
use Rattle.dd_table.proofs.FactsLemmas.{core_of, holds_same, keeps_either}
use Rattle.dd_table.proofs.GivesLemmas.{not_disk, stopped}
use Rattle.dd_table.proofs.table.Table.copy.Goals as goal

pub needed-requires-clause-core : goal.needed-requires-clause-core
needed-requires-clause-core g c = core_of c.args.self.now.holding.ledger c.plan.result c.core.result.now c.requires.well c.plan.ensures c.core.ensures

pub returns-in_default : goal.returns-in_default
returns-in_default g c =
    let t = c.args.self.now in
    stopped t _ c.stop.result (holds_same t.holding) refl refl c.stop.ensures.grows c.stop.ensures.cause (not_disk c.stop.result c.stop.ensures.fault) c.requires.running

pub invariant_of-self : goal.invariant_of-self
invariant_of-self g c =
    let t = c.args.self.now in
    let plan = t.holding.ledger.plan.now in
    let calms = subst (Calms plan (state_now t)) (sym c.carried-event.ensures) (calm_carried plan (state_now t) c.args.task c.args.block c.args.source c.len.result) in
    let f = keeps_either t c.copy.new.self _ c.copy.result c.copy.ensures.ok c.copy.ensures.err c.copy.ensures.slots calms (ap is_pick c.carried-event.ensures ∙ carries_no_pick c.args.task c.args.block c.args.source c.len.result) in
    record { settled = f.settled; counted = f.counted }

pub returns : goal.returns
returns g c =
    let t = c.args.self.now in
    stopped t _ c.stop-in-Err.result c.in-Err.ensures.err refl refl c.stop-in-Err.ensures.grows c.stop-in-Err.ensures.cause (not_disk c.stop-in-Err.result c.stop-in-Err.ensures.fault) c.requires.running
