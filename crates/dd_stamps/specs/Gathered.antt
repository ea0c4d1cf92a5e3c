-- Values of a view's elements in one block.
use Rattle.std.specs.Prelude.{◌≡◌, ℕ, ◌<◌, ℤ, nat_eq, cond, List, length, slice_index}
use Rattle.dd_kernels.specs.Lists.{element}
use Rattle.dd_views.specs.declared.view.View.{View}
use Rattle.dd_views.specs.IndexList.{index_list}
use Rattle.dd_blocks.specs.declared.grid.Grid.{Grid}
use Rattle.dd_blocks.specs.declared.plan.Plan.{Plan}
use Rattle.dd_blocks.specs.Elements.{Element}
use Rattle.dd_blocks.specs.Grids.{block_of, place_in_block}
use Rattle.dd_blocks.specs.PlanElements.{block_of_element, place_of_element}

-- the element at a place of a view
abbrev pub element_at : View → ℕ → Element
element_at v i = record { array = v.array; pos = slice_index (index_list v) i }

-- each element of the view that is in the block has its value of the block, and every other place stays
pub record GathersFrom (plan : Plan) (block : ℕ) (values : List ℤ) (v : View) (old new : List ℤ) : Type 0 where
  pub count : length new ≡ length old
  pub each : (i : ℕ) → i < length old → element new i
      ≡ cond (nat_eq (block_of_element plan (element_at v i)) block) (element values (place_of_element plan (element_at v i))) (element old i)

-- the same of positions of one grid
pub record HasGathered (g : Grid) (block : ℕ) (values : List ℤ) (positions : List ℕ) (old new : List ℤ) : Type 0 where
  pub count : length new ≡ length old
  pub each : (i : ℕ) → i < length old → element new i
      ≡ cond (nat_eq (block_of g (slice_index positions i)) block) (element values (place_in_block g (slice_index positions i))) (element old i)
