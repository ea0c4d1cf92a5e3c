-- What a call appended to a text, where that text is known: `Some` of its bytes, or `None`, which claims nothing.
use Rattle.std.specs.Prelude.{◌≡◌, ℕ, List, ◌++◌, Option}
use Rattle.std.specs.Io.KnownBytes.{Appends}

-- all of `whole` was appended but `left`, its end
pub record AppendsAllBut (old new : Option (List ℕ)) (left whole : List ℕ) : Type 0 where
  pub done : List ℕ
  pub split : whole ≡ done ++ left
  pub grown : Appends old new done

-- a front of `whole` was appended: nothing, some of it or all of it
pub record AppendsFront (old new : Option (List ℕ)) (whole : List ℕ) : Type 0 where
  pub left : List ℕ
  pub front : AppendsAllBut old new left whole
