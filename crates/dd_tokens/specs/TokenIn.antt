-- What is known of each token that was cut from a line.
use Rattle.std.specs.Prelude.{◌≡◌, ℕ, ◌+◌, ◌<◌, ◌≤◌, true, List, length, drop}
use Rattle.std.specs.List.{AllPass}
use Rattle.std.specs.Str.Parse.{IsNumeral}
use Rattle.dd_tokens.specs.declared.token.Token.{Token}
use Rattle.dd_tokens.specs.declared.token.TokenKind.{TokenKind}
use Rattle.dd_tokens.specs.declared.token.TokenKind.TheVariants.{Word, Number, Mark}
use Rattle.dd_tokens.specs.Bytes.{is_letter, is_word_byte, is_mark}
use Rattle.dd_tokens.specs.Tokens.{begins, sign_len, word_limit}
use Rattle.dd_tokens.specs.Lexeme.{token_bytes}

-- the bytes of a token by its kind: a letter and letters and digits behind it, not too many, digits behind an optional `-`, or one mark
abbrev pub AreBytesOf : TokenKind → List ℕ → Type 0
AreBytesOf Word bs = (begins is_letter bs ≡ true) × AllPass is_word_byte bs × (length bs ≤ word_limit)
AreBytesOf Number bs = IsNumeral 10 (drop (sign_len bs) bs)
AreBytesOf Mark bs = (begins is_mark bs ≡ true) × (length bs ≡ 1)

-- the token lies in the line, is not empty, and has the bytes of its kind there
pub record IsTokenIn (line : List ℕ) (t : Token) : Type 0 where
  pub within : t.first + t.count ≤ length line
  pub long : 0 < t.count
  pub by_kind : AreBytesOf t.kind (token_bytes line t)
