-- Numbers of a list that are set to one value: cited by private contracts alone.
use Rattle.std.specs.Prelude.{◌≡◌, ℕ, ◌+◌, Bool, ◌&&◌, nat_eq, List, length, slice_index, if◌then◌else◌}
use Rattle.std.specs.List.{list_any}
use Rattle.dd_blocks.specs.declared.access_row.AccessRow.{AccessRow}
use Rattle.dd_blocks.specs.declared.plan.Plan.{Plan}
use Rattle.dd_blocks.specs.Elements.{writes}
use Rattle.dd_blocks.specs.Numbered.{IsNumberIn, array_row}
use Rattle.dd_blocks.specs.Tasks.{IsShown}
use Rattle.dd_views.specs.IndexList.{index_list}

-- the places that pass a test have the value, and all others the number that they had
pub record IsSetWhere (p : ℕ → Bool) (value : ℕ) (before after : List ℕ) : Type 0 where
  pub len : length after ≡ length before
  pub each : (q : ℕ) → slice_index after q ≡ (if p q then value else slice_index before q)

-- so far behind the first is one of the positions
abbrev pub is_at : ℕ → List ℕ → ℕ → Bool
is_at first positions q = list_any (λ p. nat_eq (first + p) q) positions

-- an access writes the element with a number
abbrev pub writes_at : Plan → ℕ → AccessRow → Bool
writes_at plan q access = writes access.mode && is_at (array_row plan access.view.array).first_element (index_list access.view) q

-- an access is of an array of the Plan, and its view is a view of it
pub record IsAccess (plan : Plan) (access : AccessRow) : Type 0 where
  pub array : IsNumberIn plan.arrays access.view.array
  pub shown : IsShown (array_row plan access.view.array) access.view
