-- What a task writes, element by element.
use Rattle.std.specs.Prelude.{◌≡◌, ℕ, ◌<◌, ◌≤◌, ℤ, ◌&&◌, nat_eq, cond, List, [], ◌∷◌, length}
use Rattle.dd_views.specs.IndexList.{index_list}
use Rattle.dd_blocks.specs.declared.access_row.AccessRow.{AccessRow}
use Rattle.dd_blocks.specs.Elements.{writes}
use Rattle.dd_blocks.specs.Elements.{Element}
use Rattle.dd_meaning.specs.Worlds.{World, values_of}

-- the value at a position after values were put at a list of positions: the last one that was put there
abbrev pub put_value : List ℕ → List ℤ → ℕ → ℤ → ℤ
put_value [] values p before = before
put_value (q ∷ qs) [] p before = before
put_value (q ∷ qs) (v ∷ values) p before = put_value qs values p (cond (nat_eq q p) v before)

-- the value of an element after the values of an access were stored
abbrev pub value_stored_one : AccessRow → List ℤ → Element → ℤ → ℤ
value_stored_one access values e before =
    cond (writes access.mode && nat_eq access.view.array e.array) (put_value (index_list access.view) values e.pos before) before

-- the value of an element after the values of accesses were stored, one after the other
abbrev pub value_stored : List AccessRow → List (List ℤ) → Element → ℤ → ℤ
value_stored [] lists e before = before
value_stored (access ∷ more) [] e before = before
value_stored (access ∷ more) (values ∷ lists) e before = value_stored more lists e (value_stored_one access values e before)

-- the element is one of a world
pub record IsIn (world : World) (e : Element) : Type 0 where
  pub low : 1 ≤ e.array
  pub high : e.array ≤ length world
  pub pos : e.pos < length (values_of world e.array)

-- there is a list for each access, with a value for each of its elements
abbrev pub HaveLengths : List AccessRow → List (List ℤ) → Type 0
HaveLengths [] [] = Unit {0}
HaveLengths [] (values ∷ lists) = ⊥
HaveLengths (access ∷ more) [] = ⊥
HaveLengths (access ∷ more) (values ∷ lists) = (length values ≡ length (index_list access.view)) × HaveLengths more lists
