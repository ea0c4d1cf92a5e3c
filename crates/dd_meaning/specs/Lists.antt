-- Vectors seen as the lists that they hold.
use Rattle.std.specs.Prelude.{ℤ, List, map}
use Rattle.std.specs.Global.{Vec}

abbrev pub lists_of : List (Vec ℤ) → List (List ℤ)
lists_of vectors = map (λ v. v.items) vectors
