-- The row's entries are those of the move.
use Rattle.std.proofs.Common.{refl}
use Rattle.dd_blocks.specs.declared.what.What.TheVariants.{MoveTo}
use Rattle.dd_machine.specs.Owed.{shifted_to}
use Rattle.dd_move.specs.Moves.{blocks_away}
use Rattle.dd_run.proofs.AtLemmas.{between_at, due_at, names_at_row, plan_of}
use Rattle.dd_run.proofs.NamesLemmas.{names_kept}
use Rattle.dd_run.proofs.NextLemmas.{asks_row, pins_flat}
use Rattle.dd_table.specs.Tables.{state_now}
use Rattle.dd_run.proofs.names.move_row.Goals as goal

pub move_array-requires-clause-array : goal.move_array-requires-clause-array
move_array-requires-clause-array g c = λ _ _. (names_at_row c.args.table.now c.args.i (MoveTo c.args.array c.args.space) c.requires.well c.requires.within c.requires.what).0

pub move_array-requires-clause-space : goal.move_array-requires-clause-space
move_array-requires-clause-space g c = λ _ _. (names_at_row c.args.table.now c.args.i (MoveTo c.args.array c.args.space) c.requires.well c.requires.within c.requires.what).1

pub move_array-requires-clause-between : goal.move_array-requires-clause-between
move_array-requires-clause-between g c = λ _ _ _. between_at c.args.table.now c.args.i c.requires.at

pub move_array-requires-clause-due : goal.move_array-requires-clause-due
move_array-requires-clause-due g c = λ _ _ _. due_at c.args.table.now c.args.i (MoveTo c.args.array c.args.space) c.requires.well c.requires.within c.requires.at c.requires.what

pub returns : goal.returns
returns g c =
    let t = c.args.table.now in
    let i = c.args.i in
    let what = MoveTo c.args.array c.args.space in
    record {
      gives = asks_row t c.move_array.new.table i what c.move_array.result c.requires.well c.requires.within c.requires.at c.requires.what
          (names_kept (plan_of t) i what c.requires.well c.requires.within c.requires.what (λ b. refl) (λ b. refl))
          (pins_flat (shifted_to c.args.space) (blocks_away (plan_of t) (state_now t) c.args.array c.args.space) (λ b. refl)) c.move_array.ensures.gives;
    }
