-- Keys that lead to things.
use Rattle.std.specs.Prelude.{◌≡◌, ℕ, List, Option, None, Some, slice_index_or}
use Rattle.std.specs.Option.{option_map}

-- the key of a cell, by its place
abbrev pub key_at : List (Option ℕ) → ℕ → Option ℕ
key_at keys i = slice_index_or keys i None

-- what a key leads to
abbrev pub found : {A B : Type 0} → (A → B) → List (Option A) → Option ℕ → Option B
found f slots None = None
found f slots (Some key) = option_map f (slice_index_or slots key None)

-- each key leads to an entry that knows the place of its cell
abbrev pub LeadBack : {A : Type 0} → (A → ℕ) → List (Option ℕ) → List (Option A) → Type 0
LeadBack at keys slots = (i key : ℕ) → key_at keys i ≡ Some key → option_map at (slice_index_or slots key None) ≡ Some i

-- both are there, and are so related
abbrev pub AreBoth : {A : Type 0} → (A → A → Type 0) → Option A → Option A → Type 0
AreBoth R (Some x) (Some y) = R x y
AreBoth R _ _ = ⊥

-- all three are there, and are so related
abbrev pub AreThree : {A : Type 0} → (A → A → A → Type 0) → Option A → Option A → Option A → Type 0
AreThree R (Some x) (Some y) (Some z) = R x y z
AreThree R _ _ _ = ⊥
