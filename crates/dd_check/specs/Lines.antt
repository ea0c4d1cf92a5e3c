-- The lines of a text.
use Rattle.std.specs.Prelude.{ℕ, List, [], ◌∷◌, ◌==◌, if◌then◌else◌}

-- one more byte in front of the first line
abbrev pub lengthen_first : ℕ → List (List ℕ) → List (List ℕ)
lengthen_first b [] = (b ∷ []) ∷ []
lengthen_first b (line ∷ lines) = (b ∷ line) ∷ lines

-- A line ends at a line feed or at the end of the text. What follows the last line feed is a line unless it is empty.
abbrev pub lines_of : List ℕ → List (List ℕ)
lines_of [] = []
lines_of (b ∷ bs) = if b == 10 then [] ∷ lines_of bs else lengthen_first b (lines_of bs)
