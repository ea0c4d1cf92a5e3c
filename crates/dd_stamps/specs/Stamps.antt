-- Versions that a task sets, and the spare of the map that this takes.
use Rattle.std.specs.Prelude.{ℕ, zero, suc, ◌+◌, ◌*◌, ◌≤◌, Bool, true, false, not, ◌&&◌, nat_eq, List, length, slice_index}
use Rattle.dd_spans.specs.PlaceMap.{PlaceMap}

abbrev pub one_if : Bool → ℕ
one_if true = 1
one_if false = 0

-- how many numbers below n pass a test
abbrev pub count_below : (ℕ → Bool) → ℕ → ℕ
count_below test zero = zero
count_below test (suc n) = one_if (test n) + count_below test n

-- the place is to be written, and has another version than the task's
abbrev pub is_pending : (ℕ → Bool) → ℕ → List ℕ → ℕ → Bool
is_pending written task versions p = written p && not (nat_eq (slice_index versions p) task)

-- how many such places there are
abbrev pub pending : (ℕ → Bool) → ℕ → List ℕ → ℕ
pending written task versions = count_below (is_pending written task versions) (length versions)

-- there is spare for them
abbrev pub MayStamp : (ℕ → Bool) → ℕ → PlaceMap → Type 0
MayStamp written task map = 2 * pending written task map.list ≤ map.spare

-- no more spare was used than two for each that is so no more
abbrev pub Spends : (ℕ → Bool) → ℕ → PlaceMap → PlaceMap → Type 0
Spends written task old new = old.spare + 2 * pending written task new.list ≤ new.spare + 2 * pending written task old.list
