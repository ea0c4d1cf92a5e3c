-- What calls on slots and stores say of contents and counts.
use Rattle.std.specs.Prelude.{ℕ, ◌+◌, min, List, take, drop}
use Rattle.dd_causes.specs.Counts.{last_count}

-- so many bytes of a content, from a place on
abbrev pub piece : ℕ → ℕ → List ℕ → List ℕ
piece place count content = take count (drop place content)

-- the faults of a store after it ended a slot: its own and the slot's. The sum stops at the last value of a count
abbrev pub faults_with : ℕ → ℕ → ℕ
faults_with store slot = min (store + slot) last_count
