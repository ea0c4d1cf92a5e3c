-- Arrays of which a task uses a run are lent to its kernel: their vectors leave the world and come back.
use Rattle.std.specs.Prelude.{◌≡◌, ℕ, ◌-◌, ◌*◌, ◌^◌, ◌<◌, ℤ, pos, Bool, true, false, ◌&&◌, ◌||◌, nat_eq, nat_le, cond, List, [], ◌∷◌, length, slice_set, count_by}
use Rattle.std.specs.List.{AllByRecursion, range_with_len}
use Rattle.std.specs.Ordering.{int_eq}
use Rattle.dd_views.specs.declared.part.Part.{Part}
use Rattle.dd_views.specs.declared.part.Part.TheVariants.{All, Lower, Upper, UnitLower, UnitUpper, Diag}
use Rattle.dd_views.specs.declared.shape.Shape.{Shape}
use Rattle.dd_views.specs.declared.view.View.{View}
use Rattle.dd_views.specs.IndexList.{index_list}
use Rattle.dd_views.specs.Views.{IsViewOf}
use Rattle.dd_blocks.specs.declared.access_row.AccessRow.{AccessRow}
use Rattle.dd_blocks.specs.declared.array_row.ArrayRow.{ArrayRow}
use Rattle.dd_meaning.specs.Steps.{gathered, stored_one}
use Rattle.dd_meaning.specs.Worlds.{World, values_of}
use Rattle.dd_plain.specs.Sizes.{HasSizeOf}

-- the part keeps all elements
abbrev pub keeps_all : Part → Bool
keeps_all All = true
keeps_all Lower = false
keeps_all Upper = false
keeps_all UnitLower = false
keeps_all UnitUpper = false
keeps_all Diag = false

-- the elements of the view stand one after the other in its array
abbrev pub is_run : View → Bool
is_run v = keeps_all v.part && int_eq v.rows.step (pos 1) && (nat_le v.cols.count 1 || (int_eq v.cols.step (pos 1) && nat_eq v.rows.count v.height))

-- how many accesses are of the array
abbrev pub uses_of : List AccessRow → ℕ → ℕ
uses_of accesses array = count_by (λ (a : AccessRow). nat_eq a.view.array array) accesses

-- the access is a run of an array that no other one of the accesses uses
abbrev pub is_lent : List AccessRow → AccessRow → Bool
is_lent accesses access = is_run access.view && nat_eq (uses_of accesses access.view.array) 1

-- what a task holds of an access: its array where that is lent, or else its values
abbrev pub held : (AccessRow → Bool) → World → AccessRow → List ℤ
held lent world access = cond (lent access) (values_of world access.view.array) (gathered world access)

-- so many values may be held of an access, of whose elements a kernel may have the shape
pub record IsHeld (lent : AccessRow → Bool) (access : AccessRow) (count : ℕ) : Type 0 where
  pub shape : Shape
  pub view : IsViewOf shape access.view
  pub small : shape.rows * shape.cols < 2 ^ 32
  pub whole : lent access ≡ true → count ≡ shape.rows * shape.cols
  pub part : lent access ≡ false → count ≡ length (index_list access.view)

abbrev pub AreHeld : (AccessRow → Bool) → List AccessRow → List (List ℤ) → Type 0
AreHeld lent [] [] = Unit {0}
AreHeld lent [] (values ∷ lists) = ⊥
AreHeld lent (access ∷ more) [] = ⊥
AreHeld lent (access ∷ more) (values ∷ lists) = IsHeld lent access (length values) × AreHeld lent more lists

-- where among so many values that are held of an access its elements stand
abbrev pub places_in : (AccessRow → Bool) → AccessRow → ℕ → List ℕ
places_in lent access count = cond (lent access) (index_list access.view) (range_with_len 0 count)

abbrev pub all_places : (AccessRow → Bool) → List AccessRow → List (List ℤ) → List (List ℕ)
all_places lent [] lists = []
all_places lent (access ∷ more) [] = []
all_places lent (access ∷ more) (values ∷ lists) = places_in lent access (length values) ∷ all_places lent more lists

-- the world without the array of an access, where that is lent, and without those of some accesses
abbrev pub without : (AccessRow → Bool) → World → AccessRow → World
without lent world access = cond (lent access) (slice_set world (access.view.array - 1) []) world

abbrev pub without_all : (AccessRow → Bool) → World → List AccessRow → World
without_all lent world [] = world
without_all lent world (access ∷ more) = without_all lent (without lent world access) more

-- the world after values came back to an access: its array is these where it was lent, or else they are stored
abbrev pub back_in : (AccessRow → Bool) → World → AccessRow → List ℤ → World
back_in lent world access values = cond (lent access) (slice_set world (access.view.array - 1) values) (stored_one world access values)

abbrev pub all_back_in : (AccessRow → Bool) → World → List AccessRow → List (List ℤ) → World
all_back_in lent world [] lists = world
all_back_in lent world (access ∷ more) [] = world
all_back_in lent world (access ∷ more) (values ∷ lists) = all_back_in lent (back_in lent world access values) more lists

-- the arrays of accesses that are not lent are there
abbrev pub AreThere : List ArrayRow → (AccessRow → Bool) → World → List AccessRow → Type 0
AreThere arrays lent world accesses = AllByRecursion (λ (a : AccessRow). lent a ≡ false → HasSizeOf arrays world a) accesses
