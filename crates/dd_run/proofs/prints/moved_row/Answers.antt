-- Nothing is entered, and the row's text is the line.
use Rattle.dd_print.specs.declared.fault.PrintFault.TheVariants.{WriteFault}
use Rattle.dd_run.specs.Gives.{RowGives}
use Rattle.dd_run.proofs.AtLemmas.{plan_of}
use Rattle.dd_run.proofs.NamesLemmas.{moved_next, nothing_broke}
use Rattle.dd_run.proofs.PrintsLemmas.{moved_text}
use Rattle.dd_run.proofs.WritesLemmas.{broke, print_err, text_as, wrote}
use Rattle.dd_run.proofs.prints.moved_row.Goals as goal

pub returns-in_err-moved_line-clause-gives : goal.returns-in_err-moved_line-clause-gives
returns-in_err-moved_line-clause-gives g c =
    let t = c.args.table.now in
    print_err (RowGives (plan_of t) c.args.i t t) c.from_residual.result WriteFault c.from_residual.ensures.1 (nothing_broke t c.args.i)

pub returns-in_err-moved_line-clause-written : goal.returns-in_err-moved_line-clause-written
returns-in_err-moved_line-clause-written g c =
    let t = c.args.table.now in
    let text = moved_text t c.args.i c.moved.result c.requires.well c.requires.within c.requires.at c.requires.what c.moved.ensures in
    text_as _ _ text (broke _ c.from_residual.ensures.1 c.in_err-moved_line.ensures.front c.in_err-moved_line.ensures.cause c.moved_line.ensures.later)

pub returns-clause-gives : goal.returns-clause-gives
returns-clause-gives g c = moved_next c.args.table.now c.args.i c.requires.well c.requires.within c.requires.at c.requires.what

pub returns-clause-written : goal.returns-clause-written
returns-clause-written g c =
    let t = c.args.table.now in
    let text = moved_text t c.args.i c.moved.result c.requires.well c.requires.within c.requires.at c.requires.what c.moved.ensures in
    text_as _ _ text (wrote _ c.in_ok-moved_line.ensures.all c.in_ok-moved_line.ensures.kept)
