use Rattle.std.proofs.Common.{◌≡◌, take}
use Rattle.dd_machine.specs.States.{at_one}
use Rattle.dd_tables.specs.Sized.{IsSized}
use Rattle.dd_tables.specs.Tables.{state_of}
use Rattle.dd_task_steps.proofs.OrdersLemmas.{used}
use Rattle.dd_task_steps.proofs.running.use_blocks.Given as goal

abbrev pub invariant-loop-block : goal.invariant-loop-block
invariant-loop-block l = record {
  value : state_of l.plan l.tables ≡ record (state_of l.plan l.fn.tables) { orders = at_one (state_of l.plan l.fn.tables).orders l.space (used ((state_of l.plan l.fn.tables).orders l.space) (take l.block-index l.found)) };
  sized : IsSized l.plan l.tables;
}
