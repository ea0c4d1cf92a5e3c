-- The classes of bytes that a line is made of.
use Rattle.std.specs.Prelude.{◌≡◌, ℕ, Bool, true, ◌==◌, ◌||◌, ◌&&◌, nat_le, List}
use Rattle.std.specs.List.{list_all, before_first}

-- a space, a tab or a carriage return
abbrev pub is_blank : ℕ → Bool
is_blank b = b == 32 || b == 9 || b == 13

abbrev pub is_digit : ℕ → Bool
is_digit b = nat_le 48 b && nat_le b 57

-- an ASCII letter, or `_`
abbrev pub is_letter : ℕ → Bool
is_letter b = nat_le 65 b && nat_le b 90 || nat_le 97 b && nat_le b 122 || b == 95

-- what may follow the first letter of a word
abbrev pub is_word_byte : ℕ → Bool
is_word_byte b = is_letter b || is_digit b

-- one of `( ) [ ] , :`
abbrev pub is_mark : ℕ → Bool
is_mark b = b == 40 || b == 41 || b == 91 || b == 93 || b == 44 || b == 58

-- a blank, or a byte that shows: 21 to 7E in hexadecimal
abbrev pub is_text : ℕ → Bool
is_text b = is_blank b || nat_le 33 b && nat_le b 126

-- the bytes before the first `#`, whose comment nobody looks at
abbrev pub before_comment : List ℕ → List ℕ
before_comment line = before_first (λ b. b == 35) line

-- no other byte stands before the comment
abbrev pub IsText : List ℕ → Type 0
IsText line = list_all is_text (before_comment line) ≡ true
