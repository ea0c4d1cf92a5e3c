-- What stands between some arrays, rows and columns.
use Rattle.std.specs.Prelude.{◌≤◌, List, All}
use Rattle.dd_alias.specs.declared.extent.Extent.{Extent}
use Rattle.dd_alias.specs.declared.frame.Frame.{Frame}
use Rattle.dd_alias.specs.Intervals.{IsAround}

-- the frame is around the extent
pub record IsInside (f : Frame) (e : Extent) : Type 0 where
  pub first : f.first_array ≤ e.array
  pub last : e.array ≤ f.last_array
  pub rows : IsAround f.rows e.rows
  pub cols : IsAround f.cols e.cols

abbrev pub AreInside : Frame → List Extent → Type 0
AreInside f extents = All (λ (e : Extent). IsInside f e) extents
