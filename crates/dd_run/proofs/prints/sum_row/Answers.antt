-- The row's entries bring the array's blocks, and its text is the sum's.
use Rattle.std.proofs.Common.{refl, arith}
use Rattle.dd_blocks.specs.declared.what.What.TheVariants.{Sum}
use Rattle.dd_machine.specs.Owed.{blocks_of}
use Rattle.dd_print.specs.Asks.{bring_one}
use Rattle.dd_run.proofs.AtLemmas.{between_at, due_at, names_at_row, plan_of, there_at}
use Rattle.dd_run.proofs.NamesLemmas.{names_kept}
use Rattle.dd_run.proofs.NextLemmas.{pins_flat, prints_row}
use Rattle.dd_run.proofs.PrintsLemmas.{sum_text}
use Rattle.dd_run.proofs.WritesLemmas.{text_as}
use Rattle.dd_table.specs.Tables.{state_now}
use Rattle.dd_run.proofs.prints.sum_row.Goals as goal

pub print_sum-requires-clause-array : goal.print_sum-requires-clause-array
print_sum-requires-clause-array g c = λ _ _. names_at_row c.args.table.now c.args.i (Sum c.args.array c.args.name.now) c.requires.well c.requires.within c.requires.what

pub print_sum-requires-clause-between : goal.print_sum-requires-clause-between
print_sum-requires-clause-between g c = λ _ _ _. between_at c.args.table.now c.args.i c.requires.at

pub print_sum-requires-clause-there : goal.print_sum-requires-clause-there
print_sum-requires-clause-there g c = λ _ _ _.
    let what = Sum c.args.array c.args.name.now in
    there_at c.args.table.now c.args.i c.args.array what c.requires.well c.requires.within c.requires.at c.requires.what
    (names_at_row c.args.table.now c.args.i what c.requires.well c.requires.within c.requires.what) (0, omega arith, refl)

pub print_sum-requires-clause-due : goal.print_sum-requires-clause-due
print_sum-requires-clause-due g c = λ _ _ _. due_at c.args.table.now c.args.i (Sum c.args.array c.args.name.now) c.requires.well c.requires.within c.requires.at c.requires.what

pub returns-clause-gives : goal.returns-clause-gives
returns-clause-gives g c =
    let t = c.args.table.now in
    let what = Sum c.args.array c.args.name.now in
    prints_row t c.print_sum.new.table c.args.i what c.print_sum.result c.requires.well c.requires.within c.requires.at c.requires.what
    (names_kept (plan_of t) c.args.i what c.requires.well c.requires.within c.requires.what (λ b. refl) (λ b. refl))
    (pins_flat (bring_one (state_now t)) (blocks_of (plan_of t) c.args.array) (λ b. refl)) c.print_sum.ensures.entries

pub returns-clause-written : goal.returns-clause-written
returns-clause-written g c =
    let t = c.args.table.now in
    let what = Sum c.args.array c.args.name.now in
    text_as _ _
    (sum_text t c.args.i c.args.array c.args.name.now c.requires.well c.requires.within c.requires.at c.requires.what (names_at_row t c.args.i what c.requires.well c.requires.within c.requires.what))
    c.print_sum.ensures.written
