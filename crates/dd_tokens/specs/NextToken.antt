-- What stands first in the bytes of a line from one of its places on.
use Rattle.std.specs.Prelude.{◌≡◌, ℕ, ◌+◌, List, drop, Some}
use Rattle.std.specs.List.{prefix_len}
use Rattle.dd_tokens.specs.declared.token.Token.{Token}
use Rattle.dd_tokens.specs.Bytes.{is_blank}
use Rattle.dd_tokens.specs.Tokens.{front_token}

-- the bytes, which begin at the place `at` of their line, begin with the token behind their blanks
pub record IsNextToken (at : ℕ) (bs : List ℕ) (t : Token) : Type 0 where
  pub place : t.first ≡ at + prefix_len is_blank bs
  pub front : front_token (drop (prefix_len is_blank bs) bs) ≡ Some (t.kind, t.count)
