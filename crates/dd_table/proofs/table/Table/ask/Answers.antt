-- The line stays behind the Ask, so its spills have it too.
use Rattle.dd_machine.specs.declared.event.Event.TheVariants.{Ask}
use Rattle.dd_table.proofs.AskedLemmas.{AskGives, ask_gives, ask_left, ask_stopped, left_at}
use Rattle.dd_table.proofs.GivesLemmas.{err_as}
use Rattle.dd_table.proofs.table.Table.ask.Goals as goal

pub note-requires-clause-left : goal.note-requires-clause-left
note-requires-clause-left g c = λ _ _. left_at c.args.self.now (Ask c.args.space c.args.block) c.requires.well c.requires.legal.due

pub returns-in_err-note : goal.returns-in_err-note
returns-in_err-note g c =
    let t = c.args.self.now in
    err_as (AskGives t c.note.new.self c.args.space c.args.block) c.from_residual.result _ c.from_residual.ensures.1 (ask_stopped t c.note.new.self c.args.space c.args.block _ c.in_err-note.ensures)

pub make_room-requires-clause-left : goal.make_room-requires-clause-left
make_room-requires-clause-left g c = λ _ _. ask_left c.args.self.now c.note.new.self c.args.space c.args.block c.requires.well c.requires.legal c.in_ok-note.ensures.enters

pub returns : goal.returns
returns g c = ask_gives c.args.self.now c.note.new.self c.make_room.new.self c.args.space c.args.block c.make_room.result c.requires.well c.requires.legal c.in_ok-note.ensures c.make_room.ensures
