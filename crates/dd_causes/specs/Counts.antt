-- How a count of faults rises, and what follows for the answers of a call.
use Rattle.std.specs.Prelude.{ℕ, ◌+◌, ◌-◌, ◌^◌, ◌≤◌, min, Result, OnErr}

-- the last value of a count, which is a number of 64 bits
abbrev pub last_count : ℕ
last_count = 2 ^ 64 - 1

-- the count after one more fault: at its last value it stays
abbrev pub one_more : ℕ → ℕ
one_more count = min (count + 1) last_count

-- the count rose from one moment to a later one. A count at its last value counts as risen, since it can show no more faults
abbrev pub Rose : ℕ → ℕ → Type 0
Rose before now = one_more before ≤ now

-- the call failed only if the count rose meanwhile
abbrev pub FailsOnlyIfRose : {T E : Type 0} → Result T E → ℕ → ℕ → Type 0
FailsOnlyIfRose result before now = OnErr result (Rose before now)
