-- Where a place of a block stands in its array.
use Rattle.std.proofs.Common.{ℕ, ◌-◌, ◌<◌, ◌≤◌, arith}
use Rattle.dd_blocks.specs.declared.plan.Plan.{Plan}
use Rattle.std.specs.List.{All}
use Rattle.std.proofs.lemmas.List.Elements.{All-weaker}
use Rattle.dd_blocks.specs.declared.access_row.AccessRow.{AccessRow}
use Rattle.dd_blocks.specs.Tasks.{IsShown, shape_in}
use Rattle.dd_views.specs.Views.{IsView}
use Rattle.dd_machine.specs.Words.{IsOneOf, tasks}
use Rattle.dd_blocks.specs.Grids.{IsGrid, block_count, block_size}
use Rattle.dd_blocks.specs.Numbered.{IsNumberIn, array_row, block_row, task_row}
use Rattle.dd_blocks.specs.WellFormed.{IsWellFormed}
use Rattle.dd_tables.specs.Places.{IsPlace}
use Rattle.dd_blocks.proofs.LayoutLemmas.{block_stands}

pub record IsInArray (plan : Plan) (block i : ℕ) : Type 0 where
  pub array : IsNumberIn plan.arrays (block_row plan block).array
  pub grid : IsGrid (array_row plan (block_row plan block).array).grid
  pub first : (array_row plan (block_row plan block).array).first_block ≤ block
  pub number : block - (array_row plan (block_row plan block).array).first_block < block_count (array_row plan (block_row plan block).array).grid
  pub place : i < block_size (array_row plan (block_row plan block).array).grid (block - (array_row plan (block_row plan block).array).first_block)

pub in_array : (plan : Plan) (block i : ℕ) → IsWellFormed plan → IsPlace plan block i → IsInArray plan block i
in_array plan block i well is =
    let stands = block_stands plan well.layout block is.block_is in
    let size = stands.size in
    record {
      array = stands.array;
      grid = stands.grid;
      first = stands.low;
      number = stands.high;
      place = let w = is.within in omega (arith, w, size);
    }

-- the accesses of a task are views
pub are_views : (plan : Plan) (task : ℕ) → IsWellFormed plan → IsOneOf (tasks plan) task → All (λ (a : AccessRow). IsView a.view) (task_row plan task).accesses
are_views plan task well is =
    All-weaker (λ (a : AccessRow). IsShown (array_row plan a.view.array) a.view) (λ (a : AccessRow). IsView a.view)
    (λ a shown. (shape_in (array_row plan a.view.array), shown.view)) (task_row plan task).accesses (well.tasks task is).views
