-- What the tokens of a line are, apart from how they are found.
use Rattle.std.specs.Prelude.{◌≡◌, ℕ, ◌+◌, ◌<◌, ◌≤◌, true, false, List, length, drop, slice_index}
use Rattle.std.specs.List.{All, AllPairs}
use Rattle.dd_tokens.specs.declared.token.Token.{Token}
use Rattle.dd_tokens.specs.declared.token.TokenKind.{TokenKind}
use Rattle.dd_tokens.specs.declared.token.TokenKind.TheVariants.{Word, Number, Mark}
use Rattle.dd_tokens.specs.Bytes.{before_comment, is_blank, is_word_byte}
use Rattle.dd_tokens.specs.Tokens.{begins}
use Rattle.dd_tokens.specs.TokenIn.{IsTokenIn}

-- the place lies in the token
abbrev pub Covers : Token → ℕ → Type 0
Covers t place = (t.first ≤ place) × (place < t.first + t.count)

-- a token of the kind ends in front of these bytes: no letter, digit or `_` stands right behind a word or a number
abbrev pub EndsBefore : TokenKind → List ℕ → Type 0
EndsBefore Word bs = begins is_word_byte bs ≡ false
EndsBefore Number bs = begins is_word_byte bs ≡ false
EndsBefore Mark bs = Unit {0}

-- Tokens of their kinds stand one behind the other in the bytes, no byte behind one makes it longer, and outside them are blanks.
pub record IsCutting (bs : List ℕ) (ts : List Token) : Type 0 where
  pub rising : AllPairs (λ t u. t.first + t.count ≤ u.first) ts
  pub of_kind : All (IsTokenIn bs) ts
  pub longest : All (λ t. EndsBefore t.kind (drop (t.first + t.count) bs)) ts
  pub blank : (place : ℕ) → place < length bs → All (λ t. ¬ Covers t place) ts → is_blank (slice_index bs place) ≡ true

-- so of a line, where the comment isn't looked at
abbrev pub IsCuttingOf : List ℕ → List Token → Type 0
IsCuttingOf line ts = IsCutting (before_comment line) ts
