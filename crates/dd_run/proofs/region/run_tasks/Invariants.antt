-- Tasks were run so far, and nothing is out. Those that aren't done get fewer.
use Rattle.dd_run.proofs.TasksLemmas.{undone}
use Rattle.dd_run.proofs.TurnsLemmas.{HasRun}
use Rattle.dd_table.specs.Tables.{state_now}
use Rattle.dd_run.proofs.region.run_tasks.Given as goal

abbrev pub invariant-loop-work : goal.invariant-loop-work
invariant-loop-work g l = HasRun l.initial.table l.table

abbrev pub decreases-loop-work : goal.decreases-loop-work
decreases-loop-work g l = undone l.table.holding.ledger.plan.now (state_now l.table)
