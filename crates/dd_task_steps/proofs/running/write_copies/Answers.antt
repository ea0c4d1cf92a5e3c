use Rattle.std.proofs.Common.{get_or, refl, subst, sym, take}
use Rattle.dd_machine.specs.States.{State}
use Rattle.dd_tables.specs.Tables.{state_of}
use Rattle.dd_task_steps.specs.Written.{HasPlaces}
use Rattle.dd_task_steps.proofs.WritesLemmas.{written_more, written_places}
use Rattle.dd_task_steps.proofs.running.write_copies.Goals as goal

pub write_copy-requires-clause-places : goal.write_copy-requires-clause-places
write_copy-requires-clause-places c =
    let plan = c.args.plan.now in
    let block = get_or c.args.found.now c.loop-block.block-index 0 in
    subst (λ (s : State). HasPlaces plan block (s.copies c.args.space block)) (sym c.loop-block.invariant.value)
    (written_places plan (state_of plan c.args.tables.now) c.args.task c.args.space (take c.loop-block.block-index c.args.found.now) c.args.space block c.requires.places)

pub loop-block-preserved : goal.loop-block-preserved
loop-block-preserved c =
    let plan = c.args.plan.now in record {
      value = written_more plan (state_of plan c.args.tables.now) (state_of plan c.loop-block.tables) (state_of plan c.write_copy.new.tables) c.args.task c.args.space c.loop-block.block-index
          (get_or c.args.found.now c.loop-block.block-index 0) c.args.found.now c.loop-block-test.true refl c.loop-block.invariant.value c.write_copy.ensures.value;
      sized = c.write_copy.ensures.sized;
    }
