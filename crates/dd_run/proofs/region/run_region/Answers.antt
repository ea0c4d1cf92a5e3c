-- The Begin, what the tasks enter, and the write-back with its Close are the row's entries.
use Rattle.std.proofs.Common.{◌∙◌, subst, sym}
use Rattle.dd_blocks.specs.WellFormed.{IsWellFormed}
use Rattle.dd_run.specs.Gives.{RunGives}
use Rattle.dd_run.proofs.AtLemmas.{plan_of}
use Rattle.dd_run.proofs.RegionLemmas.{back_gives, begin_may, begin_stops, open_none, open_pin, open_some, opens, ran_end, ran_plan, tasks_stopped}
use Rattle.dd_table.proofs.GivesLemmas.{err_as}
use Rattle.dd_run.proofs.region.run_region.Goals as goal

pub begin-requires-clause-legal : goal.begin-requires-clause-legal
begin-requires-clause-legal g c = λ _ _ _. begin_may c.args.table.now c.args.i c.args.region c.requires.well c.requires.within c.requires.at c.requires.what

pub returns-in_err-begin : goal.returns-in_err-begin
returns-in_err-begin g c =
    let t = c.args.table.now in
    let m = c.begin.new.self in
    let fault = c.in_err-begin.field-0.0 in
    record {
      gives = err_as (RunGives (plan_of t) c.args.i t m) c.from_residual.result fault c.from_residual.ensures.1
          (begin_stops t m c.args.i c.args.region fault c.requires.well c.requires.within c.requires.at c.requires.what c.in_err-begin.ensures);
    }

pub run_tasks-requires-clause-well : goal.run_tasks-requires-clause-well
run_tasks-requires-clause-well g c = λ _ _.
    let o = opens c.args.table.now c.begin.new.self c.args.i c.args.region c.requires.well c.requires.within c.requires.at c.requires.what c.in_ok-begin.ensures in
    subst IsWellFormed (sym o.plan) c.requires.well

pub run_tasks-requires-clause-running : goal.run_tasks-requires-clause-running
run_tasks-requires-clause-running g c = λ _ _.
    (opens c.args.table.now c.begin.new.self c.args.i c.args.region c.requires.well c.requires.within c.requires.at c.requires.what c.in_ok-begin.ensures).cause

pub run_tasks-requires-clause-no_pin : goal.run_tasks-requires-clause-no_pin
run_tasks-requires-clause-no_pin g c = λ _ _.
    let t = c.args.table.now in
    let m = c.begin.new.self in
    open_pin t m c.args.i c.args.region c.requires.at (opens t m c.args.i c.args.region c.requires.well c.requires.within c.requires.at c.requires.what c.in_ok-begin.ensures)

pub run_tasks-requires-clause-none_out : goal.run_tasks-requires-clause-none_out
run_tasks-requires-clause-none_out g c = λ _ _.
    let t = c.args.table.now in
    let m = c.begin.new.self in
    open_none t m c.args.i c.args.region c.requires.well c.requires.at (opens t m c.args.i c.args.region c.requires.well c.requires.within c.requires.at c.requires.what c.in_ok-begin.ensures)

pub run_tasks-requires-clause-open : goal.run_tasks-requires-clause-open
run_tasks-requires-clause-open g c = λ _ _.
    let t = c.args.table.now in
    let m = c.begin.new.self in
    open_some t m c.args.i c.args.region (opens t m c.args.i c.args.region c.requires.well c.requires.within c.requires.at c.requires.what c.in_ok-begin.ensures)

pub returns-in_err-run_tasks : goal.returns-in_err-run_tasks
returns-in_err-run_tasks g c =
    let t = c.args.table.now in
    let m = c.begin.new.self in
    let n = c.run_tasks.new.table in
    let fault = c.in_err-run_tasks.field-0.0 in
    record {
      gives = err_as (RunGives (plan_of t) c.args.i t n) c.from_residual-in_err-run_tasks.result fault c.from_residual-in_err-run_tasks.ensures.1
          (tasks_stopped t m n c.args.i c.args.region fault (opens t m c.args.i c.args.region c.requires.well c.requires.within c.requires.at c.requires.what c.in_ok-begin.ensures) c.in_err-run_tasks.ensures.gives);
    }

pub write_back-requires-clause-well : goal.write_back-requires-clause-well
write_back-requires-clause-well g c = λ _ _.
    let t = c.args.table.now in
    let m = c.begin.new.self in
    let o = opens t m c.args.i c.args.region c.requires.well c.requires.within c.requires.at c.requires.what c.in_ok-begin.ensures in
    subst IsWellFormed (sym (ran_plan t m c.run_tasks.new.table c.args.i c.args.region _ o c.in_ok-run_tasks.ensures.gives)) c.requires.well

pub write_back-requires-clause-at_end : goal.write_back-requires-clause-at_end
write_back-requires-clause-at_end g c = λ _ _ _.
    let t = c.args.table.now in
    let m = c.begin.new.self in
    let o = opens t m c.args.i c.args.region c.requires.well c.requires.within c.requires.at c.requires.what c.in_ok-begin.ensures in
    ran_end t m c.run_tasks.new.table c.args.i c.args.region o c.in_ok-run_tasks.ensures.gives

pub write_back-requires-clause-no_pin : goal.write_back-requires-clause-no_pin
write_back-requires-clause-no_pin g c = λ _ _ _.
    let t = c.args.table.now in
    let m = c.begin.new.self in
    c.in_ok-run_tasks.ensures.gives.pin ∙ open_pin t m c.args.i c.args.region c.requires.at (opens t m c.args.i c.args.region c.requires.well c.requires.within c.requires.at c.requires.what c.in_ok-begin.ensures)

pub returns : goal.returns
returns g c =
    let t = c.args.table.now in
    let m = c.begin.new.self in
    let n = c.run_tasks.new.table in
    let o = opens t m c.args.i c.args.region c.requires.well c.requires.within c.requires.at c.requires.what c.in_ok-begin.ensures in
    record {
      gives = back_gives t m n c.write_back.new.table c.args.i c.args.region c.write_back.result c.requires.well c.requires.within c.requires.at c.requires.what o c.in_ok-run_tasks.ensures.gives
          c.write_back.ensures.gives c.write_back.ensures.closed c.write_back.ensures.unpinned c.write_back.ensures.progress;
    }
