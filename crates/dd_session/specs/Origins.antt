-- Where a script comes from.
use Rattle.std.specs.Prelude.{◌≡◌, ℕ, ◌+◌, List, Option}
use Rattle.dd_blocks.specs.Limits.{text_limit}
use Rattle.dd_io.specs.Taken.{ReadsToEnd, TakesExactly}

-- its text is one that comes so, or it has more bytes than a script may have
pub record Origin : Type 1 where
  pub Comes : List ℕ → Type 0
  pub Long : Type 0

-- a text that is there
abbrev pub at_hand : List ℕ → Origin
at_hand text = record { Comes = λ t. t ≡ text; Long = ⊥ }

-- the bytes that a source had left, read to their end. Where it had too many, one more than a script may have was taken
abbrev pub read_from : (left left' : Option (List ℕ)) → Origin
read_from left left' = record { Comes = ReadsToEnd left left'; Long = TakesExactly left left' (text_limit + 1) }
