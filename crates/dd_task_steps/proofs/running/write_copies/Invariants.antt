use Rattle.std.proofs.Common.{◌≡◌, take}
use Rattle.dd_tables.specs.Sized.{IsSized}
use Rattle.dd_tables.specs.Tables.{state_of}
use Rattle.dd_task_steps.specs.Written.{written_in}
use Rattle.dd_task_steps.proofs.running.write_copies.Given as goal

abbrev pub invariant-loop-block : goal.invariant-loop-block
invariant-loop-block l = record {
  value : state_of l.plan l.tables ≡ record (state_of l.plan l.fn.tables) { copies = written_in l.plan (state_of l.plan l.fn.tables) l.task l.space (take l.block-index l.found) };
  sized : IsSized l.plan l.tables;
}
