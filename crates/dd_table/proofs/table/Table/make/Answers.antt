-- A copy that is made is Here, or nothing changed.
use Rattle.std.proofs.Common.{refl}
use Rattle.dd_table.specs.Tables.{state_now}
use Rattle.dd_table.proofs.CalmLemmas.{calm_make}
use Rattle.dd_table.proofs.FactsLemmas.{keeps_either}
use Rattle.dd_table.proofs.GivesLemmas.{not_disk, stopped}
use Rattle.dd_table.proofs.table.Table.make.Goals as goal

pub invariant_of-self : goal.invariant_of-self
invariant_of-self g c =
    let t = c.args.self.now in
    let f = keeps_either t c.make.new.self _ c.make.result c.make.ensures.ok c.make.ensures.err c.make.ensures.slots (calm_make t.holding.ledger.plan.now (state_now t) c.args.task c.args.block) refl in
    record { settled = f.settled; counted = f.counted }

pub returns-in-Err : goal.returns-in-Err
returns-in-Err g c =
    let t = c.args.self.now in
    stopped t _ c.stop.result c.in-Err.ensures.err refl refl c.stop.ensures.grows c.stop.ensures.cause (not_disk c.stop.result c.stop.ensures.fault) c.requires.running
