-- No copy changes, or nothing at all.
use Rattle.std.proofs.Common.{◌∷◌, [], refl}
use Rattle.dd_table.proofs.CalmLemmas.{calm_still, still_kind, still_no_pick, still_quiet}
use Rattle.dd_table.proofs.FactsLemmas.{keeps_either}
use Rattle.dd_table.proofs.GivesLemmas.{not_disk, stopped}
use Rattle.dd_table.specs.Tables.{state_now}
use Rattle.dd_table.proofs.table.Table.note.Goals as goal

pub note-requires-clause-quiet : goal.note-requires-clause-quiet
note-requires-clause-quiet g c = λ _ _. still_quiet c.args.event c.requires.still

pub note-requires-clause-kind : goal.note-requires-clause-kind
note-requires-clause-kind g c = λ _ _. still_kind c.args.event c.requires.still

pub invariant_of-self : goal.invariant_of-self
invariant_of-self g c =
    let t = c.args.self.now in
    let event = c.args.event in
    let f = keeps_either t c.note.new.self _ c.note.result c.note.ensures.ok c.note.ensures.err c.note.ensures.slots (calm_still t.holding.ledger.plan.now (state_now t) event c.requires.still) (still_no_pick event c.requires.still) in
    record { settled = f.settled; counted = f.counted }

pub returns-in-Err : goal.returns-in-Err
returns-in-Err g c =
    let t = c.args.self.now in
    stopped t (c.args.event ∷ []) c.stop.result c.in-Err.ensures.err refl refl c.stop.ensures.grows c.stop.ensures.cause (not_disk c.stop.result c.stop.ensures.fault) c.requires.running
