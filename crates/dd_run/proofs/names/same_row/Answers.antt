-- Nothing is entered, and the array has one name more.
use Rattle.std.proofs.Common.{refl}
use Rattle.dd_blocks.specs.declared.what.What.TheVariants.{Same}
use Rattle.dd_run.proofs.AtLemmas.{names_at_row}
use Rattle.dd_run.proofs.NamesLemmas.{entered_named, names_fewer, names_given_at, nothing_entered, nothing_next, same_gives}
use Rattle.dd_run.proofs.names.same_row.Goals as goal

pub same_name-requires-clause-array : goal.same_name-requires-clause-array
same_name-requires-clause-array g c = λ _ _. names_at_row c.args.table.now c.args.i (Same c.args.array) c.requires.well c.requires.within c.requires.what

pub same_name-requires-clause-fewer : goal.same_name-requires-clause-fewer
same_name-requires-clause-fewer g c = λ _ _.
    let t = c.args.table.now in
    let a = c.args.array in
    names_fewer t t c.args.i a c.requires.well c.requires.within (c.requires.at.names a (names_at_row t c.args.i (Same a) c.requires.well c.requires.within c.requires.what))

pub returns-clause-enters : goal.returns-clause-enters
returns-clause-enters g c = let t = c.args.table.now in entered_named t t c.same_name.new.table c.args.i (nothing_entered t c.args.i) c.same_name.ensures.same

pub returns-clause-next : goal.returns-clause-next
returns-clause-next g c =
    let t = c.args.table.now in
    let i = c.args.i in
    let a = c.args.array in
    names_given_at t t c.same_name.new.table i a (Same a) c.requires.well c.requires.within c.requires.what (same_gives a) (names_at_row t i (Same a) c.requires.well c.requires.within c.requires.what)
    c.requires.at.names refl c.requires.at.cause (nothing_next t i (Same a) c.requires.well c.requires.within c.requires.at c.requires.what refl) c.same_name.ensures.names c.same_name.ensures.same
