-- The tokens of a line: its longest pieces, in order.
use Rattle.std.specs.Prelude.{◌≡◌, ℕ, ◌+◌, Bool, true, false, not, ◌==◌, ◌&&◌, nat_le, List, [], ◌∷◌, drop, Option, Some, None, slice_index, if◌then◌else◌}
use Rattle.std.specs.List.{prefix_len, list_all}
use Rattle.dd_tokens.specs.declared.front.TheConstants.{WORD_LIMIT}
use Rattle.dd_tokens.specs.declared.token.Token.{Token}
use Rattle.dd_tokens.specs.declared.token.TokenKind.{TokenKind}
use Rattle.dd_tokens.specs.declared.token.TokenKind.TheVariants.{Word, Number, Mark}
use Rattle.dd_tokens.specs.declared.fault.LineFault.{LineFault}
use Rattle.dd_tokens.specs.declared.fault.LineFault.TheVariants as faults
use Rattle.dd_tokens.specs.Bytes.{is_blank, is_digit, is_letter, is_word_byte, is_mark, IsText, before_comment}

-- the first byte passes the test; no bytes begin with none
abbrev pub begins : (ℕ → Bool) → List ℕ → Bool
begins test [] = false
begins test (b ∷ bs) = test b

-- the most bytes of a word
abbrev pub word_limit : ℕ
word_limit = WORD_LIMIT

-- a word at the front: a letter, and all letters and digits after it
abbrev pub word_len : List ℕ → Option ℕ
word_len bs =
    let len = prefix_len is_word_byte bs in
    if begins is_letter bs && nat_le len word_limit then Some len else None

-- a `-` right before a digit belongs to the number
abbrev pub sign_len : List ℕ → ℕ
sign_len bs = if slice_index bs 0 == 45 then 1 else 0

-- a number at the front: a sign, if it has one, and all digits after it, with no letter right behind
abbrev pub number_len : List ℕ → Option ℕ
number_len bs =
    let sign = sign_len bs in
    let digits = prefix_len is_digit (drop sign bs) in
    if begins is_digit (drop sign bs) && not (begins is_letter (drop (sign + digits) bs)) then Some (sign + digits) else None

-- the kind of the token at the front and how many bytes it takes, where the bytes begin with a token
abbrev pub front_token : List ℕ → Option (TokenKind × ℕ)
front_token bs =
    if begins is_mark bs then Some (Mark, 1) else
    (if begins is_letter bs then kind_and_len Word (word_len bs) else kind_and_len Number (number_len bs))
  where
    kind_and_len : TokenKind → Option ℕ → Option (TokenKind × ℕ)
    kind_and_len kind None = None
    kind_and_len kind (Some len) = Some (kind, len)

-- the bytes, which begin at the place `at` of their line, are these tokens with nothing but blanks before, between and behind them
abbrev pub AreTokens : ℕ → List ℕ → List Token → Type 0
AreTokens at bs [] = list_all is_blank bs ≡ true
AreTokens at bs (t ∷ ts) =
    let blanks = prefix_len is_blank bs in
    (t.first ≡ at + blanks) × (front_token (drop blanks bs) ≡ Some (t.kind, t.count)) × AreTokens (t.first + t.count) (drop (blanks + t.count) bs) ts

-- the tokens of a line are those of its bytes before the comment
abbrev pub AreTokensOf : List ℕ → List Token → Type 0
AreTokensOf line ts = AreTokens 0 (before_comment line) ts

-- why a line has no tokens: a byte that is no text, or bytes that are text and no tokens. Want of memory comes for no reason here, and no other fault comes
abbrev pub IsTokenFault : LineFault → List ℕ → Type 0
IsTokenFault faults.NotText line = IsText line → ⊥
IsTokenFault faults.BadForm line = IsText line × ((ts : List Token) → AreTokensOf line ts → ⊥)
IsTokenFault faults.Memory line = Unit {0}
IsTokenFault faults.UnknownStatement line = ⊥
IsTokenFault faults.BadNumber line = ⊥
IsTokenFault faults.UnknownPart line = ⊥
