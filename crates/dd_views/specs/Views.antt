-- What every call may assume of a view, and when a view is refused.
use Rattle.std.specs.Prelude.{◌≡◌, ◌≢◌, ◌⊎◌, ℕ, ◌*◌, ◌<◌, ◌^◌, length}
use Rattle.dd_views.specs.declared.part.Part.{Part}
use Rattle.dd_views.specs.declared.part.Part.TheVariants.{All, Lower, Upper, UnitLower, UnitUpper, Diag}
use Rattle.dd_views.specs.declared.range.Range.{Range}
use Rattle.dd_views.specs.declared.shape.Shape.{Shape}
use Rattle.dd_views.specs.declared.view.View.{View}
use Rattle.dd_views.specs.Progression.{IsBadRange, ListsCount, bounds_of}
use Rattle.dd_views.specs.Span.{IsSpanOf, IsSpanIn}
use Rattle.dd_views.specs.IndexList.{index_list}

-- a view of an array of the shape
pub record IsViewOf (shape : Shape) (v : View) : Type 0 where
  pub rows : IsSpanIn shape.rows v.rows
  pub cols : IsSpanIn shape.cols v.cols
  pub height : v.height ≡ shape.rows
  pub square : v.part ≢ All → v.rows.count ≡ v.cols.count
  pub small : shape.rows * shape.cols < 2 ^ 63

-- a view of some array
abbrev pub IsView : View → Type 0
IsView v = (shape : Shape) × IsViewOf shape v

-- the view that the ranges and the part say
pub record Shows (array_number : ℕ) (shape : Shape) (row_range col_range : Range) (kept_part : Part) (v : View) : Type 0 where
  pub array : v.array ≡ array_number
  pub height : v.height ≡ shape.rows
  pub rows : IsSpanOf (bounds_of row_range shape.rows) v.rows
  pub cols : IsSpanOf (bounds_of col_range shape.cols) v.cols
  pub part : v.part ≡ kept_part

-- one of both ranges is refused
abbrev pub HasBadRange : Shape → Range → Range → Type 0
HasBadRange shape rows cols = IsBadRange (bounds_of rows shape.rows) shape.rows ⊎ IsBadRange (bounds_of cols shape.cols) shape.cols

-- a part is asked of ranges that list m and n numbers, and m isn't n
abbrev pub IsNotSquare : Shape → Range → Range → Part → Type 0
IsNotSquare shape rows cols part = (part ≢ All) × ((m : ℕ) × (n : ℕ) × ListsCount (bounds_of rows shape.rows) m × ListsCount (bounds_of cols shape.cols) n × (m ≢ n))

-- a whole view keeps its rows and columns, and the elements of a part are one column
abbrev pub shape_by : Part → View → Shape
shape_by All v = record { rows = v.rows.count; cols = v.cols.count }
shape_by Lower v = record { rows = length (index_list v); cols = 1 }
shape_by Upper v = record { rows = length (index_list v); cols = 1 }
shape_by UnitLower v = record { rows = length (index_list v); cols = 1 }
shape_by UnitUpper v = record { rows = length (index_list v); cols = 1 }
shape_by Diag v = record { rows = length (index_list v); cols = 1 }

abbrev pub shape_of : View → Shape
shape_of v = shape_by v.part v
