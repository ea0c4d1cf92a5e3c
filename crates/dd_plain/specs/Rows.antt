-- What a run has at a row of the statements.
use Rattle.std.specs.Prelude.{◌≡◌, ℕ, ◌*◌, ◌^◌, ◌<◌, ◌≤◌}
use Rattle.dd_blocks.specs.declared.plan.Plan.{Plan}
use Rattle.dd_meaning.specs.Text.{moved_above, regions_above, world_at}
use Rattle.dd_plain.specs.declared.run.RunState.{RunState}
use Rattle.dd_plain.specs.Lists.{lists_of}
use Rattle.dd_transfers.specs.Rest.{IsAtRest}
use Rattle.dd_plain.specs.Sizes.{HasSizes}

-- so many rows have run: the tasks of their regions made the world, and what these moved is counted, where a row below
-- prints it
pub record HasRun (plan : Plan) (i : ℕ) (run : RunState) : Type 0 where
  pub world : lists_of run.world.items ≡ world_at plan i
  pub sizes : HasSizes plan.arrays (lists_of run.world.items)
  pub moved : i < run.moves.asked → run.moved ≡ moved_above plan i
  pub few : run.moved ≤ 2 ^ 28 * regions_above plan i
  pub rest : IsAtRest plan i run.moves
