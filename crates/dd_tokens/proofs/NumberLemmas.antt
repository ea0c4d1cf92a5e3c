-- A number is text.
use Rattle.std.proofs.Common.{◌≡◌, ℕ, zero, suc, eqb, List, [], ◌∷◌, drop, get_or, arith, ⊎_elim, eqb-true}
use Rattle.std.specs.Str.{IsAscii, IsUtf8}
use Rattle.std.specs.Str.Parse.{IsNumeral}
use Rattle.std.proofs.lemmas.Bool.{cases_Bool}
use Rattle.std.proofs.lemmas.Fmt.{IsAscii-from_digits}
use Rattle.std.proofs.lemmas.Str.{IsUtf8-from_ascii}
use Rattle.dd_tokens.specs.declared.token.Token.{Token}
use Rattle.dd_tokens.specs.declared.token.TokenKind.TheVariants.{Number}
use Rattle.dd_tokens.specs.Tokens.{sign_len}
use Rattle.dd_tokens.specs.Lexeme.{token_bytes}
use Rattle.dd_tokens.specs.TokenIn.{AreBytesOf, IsTokenIn}

minus_first : (bs : List ℕ) → get_or bs 0 0 ≡ 45 → IsAscii (drop 1 bs) → IsAscii bs
minus_first [] minus ascii zero = ascii 0
minus_first [] minus ascii (suc i) = ascii i
minus_first (b ∷ bs) minus ascii zero = omega arith
minus_first (b ∷ bs) minus ascii (suc i) = ascii i

numeral_ascii : (bs : List ℕ) → IsNumeral 10 (drop (sign_len bs) bs) → IsAscii bs
numeral_ascii bs numeral =
    let ascii = IsAscii-from_digits _ numeral.1 in
    ⊎_elim (λ minus. minus_first bs (eqb-true _ 45 minus) (rw minus at ascii)) (λ none. rw none at ascii) (cases_Bool (eqb (get_or bs 0 0) 45))

pub number_text : (line : List ℕ) (t : Token) → IsTokenIn line t → t.kind ≡ Number → IsUtf8 (token_bytes line t)
number_text line t inside kind =
    let bytes : AreBytesOf Number (token_bytes line t) = rw kind at inside.by_kind in
    IsUtf8-from_ascii _ (numeral_ascii _ bytes)
