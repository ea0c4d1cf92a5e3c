-- A row that prints nothing leaves the sink as it was.
use Rattle.dd_run.proofs.AtLemmas.{plan_of}
use Rattle.dd_run.proofs.RowLemmas.{silent_err}
use Rattle.dd_run.proofs.row.run_row.Goals as goal

pub returns-in_err-put_row-in-Put-clause-written : goal.returns-in_err-put_row-in-Put-clause-written
returns-in_err-put_row-in-Put-clause-written g c = silent_err (plan_of c.args.table.now) c.args.i c.from_residual.result c.in_err-put_row-in-Put.field-0.0 _ _ c.from_residual.ensures.1

pub returns-in_err-move_row-in-MoveTo-clause-written : goal.returns-in_err-move_row-in-MoveTo-clause-written
returns-in_err-move_row-in-MoveTo-clause-written g c =
    silent_err (plan_of c.args.table.now) c.args.i c.from_residual-in_err-move_row-in-MoveTo.result c.in_err-move_row-in-MoveTo.field-0.0 _ _ c.from_residual-in_err-move_row-in-MoveTo.ensures.1

pub returns-in_err-run_region-in-Region-clause-written : goal.returns-in_err-run_region-in-Region-clause-written
returns-in_err-run_region-in-Region-clause-written g c =
    silent_err (plan_of c.args.table.now) c.args.i c.from_residual-in_err-run_region-in-Region.result c.in_err-run_region-in-Region.field-0.0 _ _ c.from_residual-in_err-run_region-in-Region.ensures.1
