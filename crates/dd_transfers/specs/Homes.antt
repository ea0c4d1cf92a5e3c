-- The homes of elements, by the spaces to which their arrays were moved.
use Rattle.std.specs.Prelude.{◌≡◌, ℕ, ◌-◌, ◌≤◌, ◌<◌, pos, ◌≤ℤ◌, nat_eq, cond, List, length, slice_index, All}
use Rattle.dd_views.specs.declared.column.Column.{Column}
use Rattle.dd_views.specs.declared.view.View.{View}
use Rattle.dd_views.specs.Positions.{position_in, stepped}
use Rattle.dd_views.specs.Views.{IsViewOf}
use Rattle.dd_blocks.specs.declared.plan.Plan.{Plan}
use Rattle.dd_blocks.specs.Charges.{block_with}
use Rattle.dd_blocks.specs.Numbered.{IsNumberIn, array_row, block_row}
use Rattle.dd_blocks.specs.Tasks.{shape_in}
use Rattle.dd_blocks.specs.Elements.{Element}

-- there is a number for each array, none of them above the number of spaces
pub record AreHomes (plan : Plan) (homes : List ℕ) : Type 0 where
  pub count : length homes ≡ length plan.arrays
  pub within : All (λ home. home ≤ length plan.spaces) homes

-- the home of an element
abbrev pub home_by : Plan → List ℕ → Element → ℕ
home_by plan homes e =
    cond (nat_eq (slice_index homes (e.array - 1)) 0)
    (block_row plan (block_with plan e.array e.pos)).home
    (slice_index homes (e.array - 1))

-- a view of an array of the Plan
pub record IsViewIn (plan : Plan) (view : View) : Type 0 where
  pub array : IsNumberIn plan.arrays view.array
  pub shown : IsViewOf (shape_in (array_row plan view.array)) view

-- a column of an array with so many elements
pub record HasPositions (size : ℕ) (column : Column) : Type 0 where
  pub whole : (i : ℕ) → i < column.count → pos 0 ≤ℤ stepped column i
  pub inside : (i : ℕ) → i < column.count → position_in column i < size
