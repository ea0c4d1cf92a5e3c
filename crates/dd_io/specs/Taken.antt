-- What a call took of a source, whose bytes may be known: `Some` of those that are left, or `None`, which claims nothing.
use Rattle.std.specs.Prelude.{◌≡◌, ℕ, ◌+◌, ◌≤◌, List, length, Option}
use Rattle.std.specs.Io.KnownBytes.{Consumes, IsAtEnd}
use Rattle.dd_io.specs.declared.reading.ReadEnd.{ReadEnd}
use Rattle.dd_io.specs.declared.reading.ReadEnd.TheVariants.{TooLong, ReadFault, Memory}

-- these bytes were all that was left, and the source came to its end
pub record ReadsToEnd (old new : Option (List ℕ)) (bytes : List ℕ) : Type 0 where
  pub taken : Consumes old new bytes
  pub end : IsAtEnd new

-- exactly so many bytes were taken
pub record TakesExactly (old new : Option (List ℕ)) (count : ℕ) : Type 0 where
  pub bytes : List ℕ
  pub taken : Consumes old new bytes
  pub counted : length bytes ≡ count

-- no more bytes than that were taken
pub record TakesAtMost (old new : Option (List ℕ)) (most : ℕ) : Type 0 where
  pub bytes : List ℕ
  pub taken : Consumes old new bytes
  pub counted : length bytes ≤ most

-- how many bytes were taken before reading ended early: one more than the limit where that was the reason, and else no more than the limit
abbrev pub EndsEarly : ReadEnd → Option (List ℕ) → Option (List ℕ) → ℕ → Type 0
EndsEarly TooLong old new limit = TakesExactly old new (limit + 1)
EndsEarly ReadFault old new limit = TakesAtMost old new limit
EndsEarly Memory old new limit = TakesAtMost old new limit
