-- When two views overlap.
use Rattle.std.specs.Prelude.{◌≡◌, ℕ, Contains}
use Rattle.dd_views.specs.declared.view.View.{View}
use Rattle.dd_views.specs.IndexList.{index_list}

-- both views are of one array, and some position of it is in the lists of both
abbrev pub Overlaps : View → View → Type 0
Overlaps a b = (a.array ≡ b.array) × ((x : ℕ) × Contains (index_list a) x × Contains (index_list b) x)
