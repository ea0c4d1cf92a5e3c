-- Each turn claims a task and ends it; nothing else can come, since no cause is kept and nothing is out.
use Rattle.dd_run.proofs.TurnsLemmas.{ends_same, not_idle, run_none, run_turn, tasks_stop, turn_fewer}
use Rattle.dd_table.specs.declared.fault.RunFault.TheVariants.{DiskFault, Memory}
use Rattle.dd_run.proofs.region.run_tasks.Goals as goal

pub loop-work-init : goal.loop-work-init
loop-work-init g c = run_none c.args.table.now c.requires.running c.requires.none_out

pub loop-work-smaller : goal.loop-work-smaller
loop-work-smaller g c =
    turn_fewer c.args.table.now c.loop-work.table c.next.new.self c.finish.new.self c.in-Work.work c.requires.well c.loop-work.invariant c.in-Work.ensures
    (ends_same c.next.new.self c.finish.new.self c.in-Work.work c.run.new.self c.run.ensures.0 c.finish.ensures)

pub loop-work-preserved : goal.loop-work-preserved
loop-work-preserved g c =
    run_turn c.args.table.now c.loop-work.table c.next.new.self c.finish.new.self c.in-Work.work c.requires.well c.loop-work.invariant c.in-Work.ensures
    (ends_same c.next.new.self c.finish.new.self c.in-Work.work c.run.new.self c.run.ensures.0 c.finish.ensures)

pub returns-in-DiskFault : goal.returns-in-DiskFault
returns-in-DiskFault g c =
    let fails = c.in-DiskFault.ensures in
    record { gives = tasks_stop c.args.table.now c.loop-work.table c.next.new.self fails.0.0 DiskFault c.loop-work.invariant fails.0.1 fails.2 }

pub returns-in-Memory : goal.returns-in-Memory
returns-in-Memory g c =
    let fails = c.in-Memory.ensures in
    record { gives = tasks_stop c.args.table.now c.loop-work.table c.next.new.self fails.0.0 Memory c.loop-work.invariant fails.0.1 fails.2 }

pub unreachable-requires-in-Idle : goal.unreachable-requires-in-Idle
unreachable-requires-in-Idle g c = not_idle c.args.table.now c.loop-work.table c.next.new.self c.in-Idle.running c.in-Idle.out c.loop-work.invariant c.in-Idle.ensures
