-- What is known of accesses by the rows and columns between which their elements stand.
use Rattle.std.specs.Prelude.{◌≡◌, ℕ, List, All, Any}
use Rattle.dd_views.specs.declared.shape.Shape.{Shape}
use Rattle.dd_views.specs.Views.{IsViewOf}
use Rattle.dd_alias.specs.declared.extent.Extent.{Extent}
use Rattle.dd_alias.specs.Clashes.{Clash}
use Rattle.dd_alias.specs.Intervals.{Meet}

-- the access is a view of its array, whose shape is found by the array's number
abbrev pub IsShown : (ℕ → Shape) → Extent → Type 0
IsShown shape_at e = IsViewOf (shape_at e.access.now.view.array) e.access.now.view

abbrev pub AreShown : (ℕ → Shape) → List Extent → Type 0
AreShown shape_at extents = All (λ (e : Extent). IsShown shape_at e) extents

-- both are of one array, and have a row and a column between those of both
pub record Face (a b : Extent) : Type 0 where
  pub array : a.array ≡ b.array
  pub rows : Meet a.rows b.rows
  pub cols : Meet a.cols b.cols

-- some of the others is of an access that clashes with this one
abbrev pub ClashesWithOne : Extent → List Extent → Type 0
ClashesWithOne e others = Any (λ (o : Extent). Clash e.access.now o.access.now) others
