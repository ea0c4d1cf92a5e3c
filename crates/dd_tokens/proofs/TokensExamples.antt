-- Worked examples of the definitions: each computes.
use Rattle.std.proofs.Common.{◌≡◌, ℕ, false, List, [], ◌∷◌, Some, None, refl, pos, negsuc}
use Rattle.std.specs.Prelude.{codes}
use Rattle.std.specs.List.{list_all}
use Rattle.dd_tokens.specs.declared.token.Token.{Token}
use Rattle.dd_tokens.specs.declared.token.TokenKind.{TokenKind}
use Rattle.dd_tokens.specs.declared.token.TokenKind.TheVariants.{Word, Number, Mark}
use Rattle.dd_tokens.specs.Bytes.{is_text, before_comment, IsText}
use Rattle.dd_tokens.specs.Tokens.{front_token, AreTokensOf}
use Rattle.dd_tokens.specs.Lexeme.{word, number, mark, lexemes_of}

abbrev token : TokenKind → ℕ → ℕ → Token
token kind first count = record { kind = kind; first = first; count = count }

-- a view, with a comment behind it
abbrev view : List ℕ
view = codes "V[1,4:-1:1] # 1x"

abbrev view_tokens : List Token
view_tokens =
    token Word 0 1 ∷ token Mark 1 1 ∷ token Number 2 1 ∷ token Mark 3 1 ∷ token Number 4 1 ∷ token Mark 5 1 ∷ token Number 6 2 ∷ token Mark 8 1 ∷ token Number 9 1 ∷ token Mark 10 1 ∷ []

view_is_cut : AreTokensOf view view_tokens
view_is_cut =
    (refl, refl, (refl, refl, (refl, refl, (refl, refl, (refl, refl, (refl, refl, (refl, refl, (refl, refl, (refl, refl, (refl, refl, refl))))))))))

view_lexemes : lexemes_of view view_tokens ≡ word (86 ∷ []) ∷ mark 91 ∷ number (pos 1) ∷ mark 44 ∷ number (pos 4) ∷ mark 58 ∷ number (negsuc 0) ∷ mark 58 ∷ number (pos 1) ∷ mark 93 ∷ []
view_lexemes = refl

-- a number with zeros in front, and one right behind a word
zeros : lexemes_of (codes "A-007") (token Word 0 1 ∷ token Number 1 4 ∷ []) ≡ word (65 ∷ []) ∷ number (negsuc 6) ∷ []
zeros = refl

-- the token at the front is as long as possible, and what it may not be followed by makes it none
two_numbers : front_token (codes "12-3") ≡ Some (Number, 2)
two_numbers = refl

letter_behind : front_token (codes "12x") ≡ None
letter_behind = refl

minus_alone : front_token (codes "- 1") ≡ None
minus_alone = refl

two_signs : front_token (codes "--1") ≡ None
two_signs = refl

longest_word : front_token (codes "ABCDEFGHIJKLMNOPQRSTUVWXYZabcdefghijklmnopqrstuvwxyz0123456789__-") ≡ Some (Word, 64)
longest_word = refl

word_too_long : front_token (codes "ABCDEFGHIJKLMNOPQRSTUVWXYZabcdefghijklmnopqrstuvwxyz0123456789__z") ≡ None
word_too_long = refl

-- a byte that is no text may stand in a comment and nowhere else
in_comment : IsText (97 ∷ 35 ∷ 128 ∷ [])
in_comment = refl

outside : list_all is_text (before_comment (97 ∷ 128 ∷ 35 ∷ [])) ≡ false
outside = refl
