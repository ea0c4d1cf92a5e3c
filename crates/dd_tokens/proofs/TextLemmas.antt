-- Bytes that are cut into tokens are text.
use Rattle.std.proofs.Common.{◌≡◌, ℕ, ◌+◌, ◌<◌, ◌≤◌, true, eqb, ◌&&◌, List, [], ◌∷◌, length, take, drop, get_or, subst, arith, ⊎_elim, le-leb, eqb-true, take-append-drop, get_or-take, length-take-le}
use Rattle.std.specs.List.{AllPass, prefix_len}
use Rattle.std.specs.Str.Parse.{AllDigits, IsNumeral}
use Rattle.std.proofs.lemmas.Bool.{cases_Bool, or_left, or_right}
use Rattle.std.proofs.lemmas.Bool.Decides.{nat_tests}
use Rattle.std.proofs.lemmas.List.{drop-drop}
use Rattle.std.proofs.lemmas.List.Elements.{All-append, All-cons, All-nil, All-weaker}
use Rattle.std.proofs.lemmas.List.Sums.{AllPass-from_list_all, list_all-from_AllPass, prefix_len_passes, prefix_len-le-length}
use Rattle.std.proofs.lemmas.Str.Parse.{digit_from_value}
use Rattle.dd_tokens.specs.declared.token.Token.{Token}
use Rattle.dd_tokens.specs.declared.token.TokenKind.{TokenKind}
use Rattle.dd_tokens.specs.declared.token.TokenKind.TheVariants.{Word, Number, Mark}
use Rattle.dd_tokens.specs.Bytes.{IsText, before_comment, is_blank, is_mark, is_text, is_word_byte}
use Rattle.dd_tokens.specs.TokenIn.{AreBytesOf}
use Rattle.dd_tokens.specs.Tokens.{AreTokens, AreTokensOf, begins, sign_len}
use Rattle.dd_tokens.proofs.FrontLemmas.{token_front}

shown : (b : ℕ) → 33 ≤ b → b ≤ 126 → is_text b ≡ true
shown b low high = or_right (is_blank b) _ (λ i. le-leb 33 b low i && le-leb b 126 high i)

word_byte_range : (b : ℕ) → is_word_byte b ≡ true → (33 ≤ b) × (b ≤ 126)
word_byte_range b e = grind (arith, nat_tests)

mark_range : (b : ℕ) → is_mark b ≡ true → (33 ≤ b) × (b ≤ 126)
mark_range b e = grind (arith, nat_tests)

word_text : (b : ℕ) → is_word_byte b ≡ true → is_text b ≡ true
word_text b e = let range = word_byte_range b e in shown b range.0 range.1

blanks_text : (bs : List ℕ) → AllPass is_text (take (prefix_len is_blank bs) bs)
blanks_text bs k d lt =
    let short : k < prefix_len is_blank bs = omega (arith, length-take-le (prefix_len is_blank bs) bs (prefix_len-le-length is_blank bs)) in
    rw (get_or-take (prefix_len is_blank bs) bs k d short) (or_left (is_blank (get_or bs k d)) _ (prefix_len_passes is_blank bs k d short))

digits_text : (bs : List ℕ) → AllDigits 10 bs → AllPass is_text bs
digits_text [] h = All-nil (λ b. is_text b ≡ true)
digits_text (b ∷ bs) h =
    let range = digit_from_value b h.0 in
    All-cons (λ b. is_text b ≡ true) b bs (shown b (omega (arith, range)) (omega (arith, range))) (digits_text bs h.1)

minus_text : (bs : List ℕ) → get_or bs 0 0 ≡ 45 → AllPass is_text (drop 1 bs) → AllPass is_text bs
minus_text [] minus rest = absurd (omega (arith, minus))
minus_text (b ∷ bs) minus rest = All-cons (λ b. is_text b ≡ true) b bs (shown b (omega arith) (omega arith)) rest

numeral_text : (bs : List ℕ) → IsNumeral 10 (drop (sign_len bs) bs) → AllPass is_text bs
numeral_text bs numeral =
    let rest = digits_text _ numeral.1 in
    ⊎_elim (λ minus. minus_text bs (eqb-true _ 45 minus) (rw minus at rest)) (λ none. rw none at rest) (cases_Bool (eqb (get_or bs 0 0) 45))

mark_text : (bs : List ℕ) → begins is_mark bs ≡ true → length bs ≡ 1 → AllPass is_text bs
mark_text [] e one = All-nil (λ b. is_text b ≡ true)
mark_text (b ∷ []) e one = let range = mark_range b e in All-cons (λ b. is_text b ≡ true) b [] (shown b range.0 range.1) (All-nil (λ b. is_text b ≡ true))
mark_text (b ∷ c ∷ bs) e one = absurd (omega arith)

token_text : (kind : TokenKind) (bs : List ℕ) → AreBytesOf kind bs → AllPass is_text bs
token_text Word bs h = All-weaker (λ b. is_word_byte b ≡ true) (λ b. is_text b ≡ true) word_text bs h.1
token_text Number bs h = numeral_text bs h
token_text Mark bs h = mark_text bs h.0 h.1

-- in front of text that is cut off, text
joined_text : (n : ℕ) (bs : List ℕ) → AllPass is_text (take n bs) → AllPass is_text (drop n bs) → AllPass is_text bs
joined_text n bs front back = subst (λ (l : List ℕ). AllPass is_text l) (take-append-drop n bs) (All-append (λ b. is_text b ≡ true) (take n bs) (drop n bs) front back)

tokens_text : (at : ℕ) (bs : List ℕ) (ts : List Token) → AreTokens at bs ts → AllPass is_text bs
tokens_text at bs [] are = All-weaker (λ b. is_blank b ≡ true) (λ b. is_text b ≡ true) (λ b e. or_left (is_blank b) _ e) bs (AllPass-from_list_all is_blank bs are)
tokens_text at bs (t ∷ ts) are =
    let blanks = prefix_len is_blank bs in
    let rest = drop blanks bs in
    let front = token_front rest t.kind t.count are.1 in
    let back : AllPass is_text (drop t.count rest) = rw drop-drop (tokens_text (t.first + t.count) _ ts are.2) in
    joined_text blanks bs (blanks_text bs) (joined_text t.count rest (token_text t.kind (take t.count rest) front.by_kind) back)

pub text_of_tokens : (line : List ℕ) (ts : List Token) → AreTokensOf line ts → IsText line
text_of_tokens line ts are = list_all-from_AllPass is_text (before_comment line) (tokens_text 0 (before_comment line) ts are)
