-- A name less; with the last one the row's frees are entered.
use Rattle.std.proofs.Common.{refl, arith}
use Rattle.dd_blocks.specs.declared.what.What.TheVariants.{Drop}
use Rattle.dd_run.proofs.AtLemmas.{between_at, names_at_row, there_at}
use Rattle.dd_run.proofs.NamesLemmas.{drop_enters, drop_next, drop_some, frees_due}
use Rattle.dd_run.proofs.names.drop_row.Goals as goal

pub drop_name-requires-clause-array : goal.drop_name-requires-clause-array
drop_name-requires-clause-array g c = λ _ _. names_at_row c.args.table.now c.args.i (Drop c.args.array c.args.last) c.requires.well c.requires.within c.requires.what

pub drop_name-requires-clause-between : goal.drop_name-requires-clause-between
drop_name-requires-clause-between g c = λ _ _. between_at c.args.table.now c.args.i c.requires.at

pub drop_name-requires-clause-named : goal.drop_name-requires-clause-named
drop_name-requires-clause-named g c = λ _ _.
    drop_some c.args.table.now c.args.i c.args.array c.args.last c.requires.well c.requires.within c.requires.at c.requires.what
    (names_at_row c.args.table.now c.args.i (Drop c.args.array c.args.last) c.requires.well c.requires.within c.requires.what)

pub drop_name-requires-clause-there : goal.drop_name-requires-clause-there
drop_name-requires-clause-there g c = λ _ _ _.
    let what = Drop c.args.array c.args.last in
    there_at c.args.table.now c.args.i c.args.array what c.requires.well c.requires.within c.requires.at c.requires.what
    (names_at_row c.args.table.now c.args.i what c.requires.well c.requires.within c.requires.what) (0, omega arith, refl)

pub drop_name-requires-clause-due : goal.drop_name-requires-clause-due
drop_name-requires-clause-due g c = λ _ _ one.
    frees_due c.args.table.now c.args.i c.args.array c.args.last c.requires.well c.requires.within c.requires.at c.requires.what
    (names_at_row c.args.table.now c.args.i (Drop c.args.array c.args.last) c.requires.well c.requires.within c.requires.what) one

pub returns-clause-enters : goal.returns-clause-enters
returns-clause-enters g c =
    drop_enters c.args.table.now c.drop_name.new.table c.args.i c.args.array c.args.last c.requires.well c.requires.within c.requires.at c.requires.what
    (names_at_row c.args.table.now c.args.i (Drop c.args.array c.args.last) c.requires.well c.requires.within c.requires.what) c.drop_name.ensures.drops

pub returns-clause-next : goal.returns-clause-next
returns-clause-next g c =
    drop_next c.args.table.now c.drop_name.new.table c.args.i c.args.array c.args.last c.requires.well c.requires.within c.requires.at c.requires.what
    (names_at_row c.args.table.now c.args.i (Drop c.args.array c.args.last) c.requires.well c.requires.within c.requires.what) c.drop_name.ensures.drops
