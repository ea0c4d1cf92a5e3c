-- What stands at the front of some tokens, and the tokens behind it.
use Rattle.std.specs.Prelude.{ℕ, ℤ, ◌==◌, List, [], ◌∷◌, Option, None, Some, if◌then◌else◌}
use Rattle.dd_tokens.specs.Lexeme.{Lexeme, word, number, mark}

unfoldable pub word_at : List Lexeme → Option (List ℕ × List Lexeme)
word_at [] = None
word_at (word bs ∷ rest) = Some (bs, rest)
word_at (number z ∷ rest) = None
word_at (mark b ∷ rest) = None

unfoldable pub numeral_at : List Lexeme → Option (ℤ × List Lexeme)
numeral_at [] = None
numeral_at (word bs ∷ rest) = None
numeral_at (number z ∷ rest) = Some (z, rest)
numeral_at (mark b ∷ rest) = None

unfoldable pub mark_at : ℕ → List Lexeme → Option (List Lexeme)
mark_at wanted [] = None
mark_at wanted (word bs ∷ rest) = None
mark_at wanted (number z ∷ rest) = None
mark_at wanted (mark b ∷ rest) = if b == wanted then Some rest else None
