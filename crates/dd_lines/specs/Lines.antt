-- The line of an event, by its word and its numbers.
use Rattle.std.specs.Prelude.{ℕ, List, [], ◌∷◌, ◌++◌}
use Rattle.std.specs.Fmt.{decimal}
use Rattle.std.specs.List.{flat_map}

-- a number behind a space
abbrev pub number_after : ℕ → List ℕ
number_after number = 32 ∷ decimal number

-- the word, each number, and a line feed
abbrev pub line_of : List ℕ → List ℕ → List ℕ
line_of word numbers = word ++ (flat_map number_after numbers ++ 10 ∷ [])
