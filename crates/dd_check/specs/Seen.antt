-- What the pieces of a task say, and views that stand in the arrays of a Plan.
use Rattle.std.specs.Prelude.{◌≢◌, None, ◌^◌, ◌<◌, List, length, All}
use Rattle.dd_views.specs.declared.part.Part.TheVariants as part
use Rattle.dd_views.specs.declared.view.View.{View}
use Rattle.dd_views.specs.IndexList.{index_list}
use Rattle.dd_views.specs.Views.{HasBadRange, IsNotSquare, IsView}
use Rattle.dd_blocks.specs.declared.access_row.AccessRow.{AccessRow}
use Rattle.dd_blocks.specs.declared.plan.Plan.{Plan}
use Rattle.dd_blocks.specs.Numbered.{IsNumberIn, array_row}
use Rattle.dd_blocks.specs.Tasks.{IsShown}
use Rattle.dd_script.specs.declared.piece.Piece.{Piece}
use Rattle.dd_check.specs.Above.{Above, array_named}
use Rattle.dd_check.specs.Rows.{shape_of_array}

-- the piece names an array that is there; a range of it is refused; a part is asked of ranges that aren't square
abbrev pub IsKnown : Above → Piece → Type 0
IsKnown s p = array_named s p.name ≢ None

abbrev pub SaysBadRange : Above → Piece → Type 0
SaysBadRange s p = HasBadRange (shape_of_array s p) p.rows p.cols

abbrev pub SaysNoSquare : Above → Piece → Type 0
SaysNoSquare s p = IsNotSquare (shape_of_array s p) p.rows p.cols p.part

-- the access shows a view of an array that is there
abbrev pub IsSeen : Plan → AccessRow → Type 0
IsSeen plan access = IsNumberIn plan.arrays access.view.array × IsShown (array_row plan access.view.array) access.view

abbrev pub AreSeen : Plan → List AccessRow → Type 0
AreSeen plan accesses = All (IsSeen plan) accesses

-- a view that lists fewer elements than 32 bits count, where they are one column
pub record IsSmallView (v : View) : Type 0 where
  pub view : IsView v
  pub few : v.part ≢ part.All → length (index_list v) < 2 ^ 32
