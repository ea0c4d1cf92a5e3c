-- The work says what the entry says; or nothing changed.
use Rattle.std.proofs.Common.{[], arith, refl}
use Rattle.std.proofs.lemmas.List.Elements.{All-nil}
use Rattle.dd_table.specs.Still.{IsPreparing}
use Rattle.dd_table.specs.Tables.{state_now}
use Rattle.dd_table.proofs.CalmLemmas.{calm_claim}
use Rattle.dd_table.proofs.ClaimedLemmas.{claimed, may_claim}
use Rattle.dd_table.proofs.FactsLemmas.{keeps_either}
use Rattle.dd_table.proofs.GivesLemmas.{not_disk, stopped}
use Rattle.dd_table.proofs.PreparesLemmas.{fails_of, left_lead}
use Rattle.dd_table.proofs.table.Table.claim.Goals as goal

pub line-line-requires-clause-left : goal.line-line-requires-clause-left
line-line-requires-clause-left g c = λ _ _. left_lead c.args.self.now c.requires.lead

pub claim-requires-clause-legal : goal.claim-requires-clause-legal
claim-requires-clause-legal g c = λ _ _.
    let t = c.args.self.now in
    (c.line-line.ensures.next, may_claim t.holding.ledger.plan.now (state_now t) c.args.task c.args.worker c.requires.start c.requires.worker c.requires.free)

pub invariant_of-self : goal.invariant_of-self
invariant_of-self g c =
    let t = c.args.self.now in
    let f = keeps_either t c.claim.new.self _ c.claim.result c.claim.ensures.ok c.claim.ensures.err c.claim.ensures.slots (calm_claim t.holding.ledger.plan.now (state_now t) c.args.task c.args.worker) refl in
    record { settled = f.settled; counted = f.counted }

pub returns-in-Ok : goal.returns-in-Ok
returns-in-Ok g c =
    claimed c.args.self.now _ c.args.task c.args.worker c.line-line.result c.in-Ok.work c.in-Ok.ensures.work c.in-Ok.ensures.told c.line-line.ensures.line
    (record { holds = c.in-Ok.ensures.ok; opening = refl; faults = omega arith }) c.requires.lead.running c.requires.lead.running

pub returns-in-Err : goal.returns-in-Err
returns-in-Err g c =
    let t = c.args.self.now in
    fails_of t _ [] c.stop.result (All-nil IsPreparing)
    (stopped t [] c.stop.result c.in-Err.ensures.err refl refl c.stop.ensures.grows c.stop.ensures.cause (not_disk c.stop.result c.stop.ensures.fault) c.requires.lead.running)
