-- The row's entries bring the array's blocks, and its text is the array's.
use Rattle.std.proofs.Common.{refl, arith}
use Rattle.dd_blocks.specs.declared.what.What.TheVariants.{Print}
use Rattle.dd_machine.specs.Owed.{blocks_by_rows}
use Rattle.dd_print.specs.Asks.{bring_one}
use Rattle.dd_run.proofs.AtLemmas.{between_at, due_at, names_at_row, plan_of, there_at}
use Rattle.dd_run.proofs.NamesLemmas.{names_kept}
use Rattle.dd_run.proofs.NextLemmas.{pins_flat, prints_row}
use Rattle.dd_run.proofs.PrintsLemmas.{print_text}
use Rattle.dd_run.proofs.WritesLemmas.{text_as}
use Rattle.dd_table.specs.Tables.{state_now}
use Rattle.dd_run.proofs.prints.print_row.Goals as goal

pub print_array-requires-clause-array : goal.print_array-requires-clause-array
print_array-requires-clause-array g c = λ _ _. names_at_row c.args.table.now c.args.i (Print c.args.array) c.requires.well c.requires.within c.requires.what

pub print_array-requires-clause-between : goal.print_array-requires-clause-between
print_array-requires-clause-between g c = λ _ _ _. between_at c.args.table.now c.args.i c.requires.at

pub print_array-requires-clause-there : goal.print_array-requires-clause-there
print_array-requires-clause-there g c = λ _ _ _.
    there_at c.args.table.now c.args.i c.args.array (Print c.args.array) c.requires.well c.requires.within c.requires.at c.requires.what
    (names_at_row c.args.table.now c.args.i (Print c.args.array) c.requires.well c.requires.within c.requires.what) (0, omega arith, refl)

pub print_array-requires-clause-due : goal.print_array-requires-clause-due
print_array-requires-clause-due g c = λ _ _ _. due_at c.args.table.now c.args.i (Print c.args.array) c.requires.well c.requires.within c.requires.at c.requires.what

pub returns-clause-gives : goal.returns-clause-gives
returns-clause-gives g c =
    let t = c.args.table.now in
    let what = Print c.args.array in
    prints_row t c.print_array.new.table c.args.i what c.print_array.result c.requires.well c.requires.within c.requires.at c.requires.what
    (names_kept (plan_of t) c.args.i what c.requires.well c.requires.within c.requires.what (λ b. refl) (λ b. refl))
    (pins_flat (bring_one (state_now t)) (blocks_by_rows (plan_of t) c.args.array) (λ b. refl)) c.print_array.ensures.entries

pub returns-clause-written : goal.returns-clause-written
returns-clause-written g c =
    let t = c.args.table.now in
    text_as _ _
    (print_text t c.args.i c.args.array c.requires.well c.requires.within c.requires.at c.requires.what (names_at_row t c.args.i (Print c.args.array) c.requires.well c.requires.within c.requires.what))
    c.print_array.ensures.written
