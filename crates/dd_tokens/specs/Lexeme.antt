-- What a token says, without where it stands.
use Rattle.std.specs.Prelude.{ℕ, ◌+◌, ℤ, List, map, slice_range, slice_index}
use Rattle.std.specs.Str.Parse.{signed_digits_value}
use Rattle.dd_tokens.specs.declared.token.Token.{Token}
use Rattle.dd_tokens.specs.declared.token.TokenKind.{TokenKind}
use Rattle.dd_tokens.specs.declared.token.TokenKind.TheVariants as kinds

-- a word by its bytes, a number by its value, which may be of any size, a mark by its byte
pub data Lexeme : Type 0 where
  word : List ℕ → Lexeme
  number : ℤ → Lexeme
  mark : ℕ → Lexeme

-- the bytes of a token of a line
abbrev pub token_bytes : List ℕ → Token → List ℕ
token_bytes line t = slice_range line t.first (t.first + t.count)

abbrev pub lexeme_by_kind : TokenKind → List ℕ → Lexeme
lexeme_by_kind kinds.Word bs = word bs
lexeme_by_kind kinds.Number bs = number (signed_digits_value 10 bs)
lexeme_by_kind kinds.Mark bs = mark (slice_index bs 0)

abbrev pub lexeme_of : List ℕ → Token → Lexeme
lexeme_of line t = lexeme_by_kind t.kind (token_bytes line t)

abbrev pub lexemes_of : List ℕ → List Token → List Lexeme
lexemes_of line ts = map (lexeme_of line) ts
