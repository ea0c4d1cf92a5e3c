use Rattle.std.proofs.Common.{get_or, refl}
use Rattle.dd_tables.specs.Tables.{state_of}
use Rattle.dd_task_steps.proofs.OrdersLemmas.{next_there, used_more, used_none}
use Rattle.dd_task_steps.proofs.running.use_blocks.Goals as goal

pub loop-block-init : goal.loop-block-init
loop-block-init c = record { value = used_none (state_of c.args.plan.now c.args.tables.now) c.args.space; sized = c.requires.sized }

pub front-requires-clause-there : goal.front-requires-clause-there
front-requires-clause-there c =
    let plan = c.args.plan.now in
    next_there (state_of plan c.args.tables.now) (state_of plan c.loop-block.tables) c.args.space c.loop-block.block-index c.args.found.now c.loop-block-test.true c.requires.there c.loop-block.invariant.value

pub loop-block-preserved : goal.loop-block-preserved
loop-block-preserved c =
    let plan = c.args.plan.now in record {
      value = used_more (state_of plan c.args.tables.now) (state_of plan c.loop-block.tables) (state_of plan c.front.new.tables) c.args.space c.loop-block.block-index
          (get_or c.args.found.now c.loop-block.block-index 0) c.args.found.now c.loop-block-test.true refl c.loop-block.invariant.value c.front.ensures.value;
      sized = c.front.ensures.sized;
    }
