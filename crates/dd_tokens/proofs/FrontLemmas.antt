-- Lemmas on the token at the front of a list of bytes.
use Rattle.std.proofs.Common.{◌≡◌, ℕ, zero, suc, ◌+◌, ◌≤◌, ◌<◌, Bool, true, false, not, ◌||◌, List, [], ◌∷◌, Option, Some, None, IfSome, length, take, drop, refl, sym, ◌∙◌, ap, subst, arith, ⊎_elim}
use Rattle.std.specs.Option.{option_map}
use Rattle.std.specs.List.{AllPass, prefix_len}
use Rattle.std.specs.Str.Parse.{IsNumeral}
use Rattle.std.proofs.lemmas.Bool.{and_parts, cases_Bool, leb-true}
use Rattle.std.proofs.lemmas.List.{get_or-take, length-take-le, drop-drop, drop-take, length-drop}
use Rattle.std.proofs.lemmas.List.Sums.{prefix_len_passes, prefix_len-le-length}
use Rattle.std.proofs.lemmas.Str.Parse.{numerals_by_value, tells_by_index}
use Rattle.dd_causes.proofs.StepsLemmas.{guard_some, chosen}
use Rattle.dd_tokens.specs.declared.token.TokenKind.{TokenKind}
use Rattle.dd_tokens.specs.declared.token.TokenKind.TheVariants.{Word, Number, Mark}
use Rattle.dd_tokens.specs.Bytes.{is_letter, is_digit, is_word_byte, is_mark}
use Rattle.dd_tokens.specs.Tokens.{begins, word_len, sign_len, number_len, front_token}
use Rattle.dd_tokens.specs.TokenIn.{AreBytesOf}
use Rattle.dd_tokens.specs.Cutting.{EndsBefore}
use Rattle.dd_tokens.proofs.BytesLemmas.{letter_in_word, digit_in_range}

-- the first bytes are those of a token of the kind
pub record BeginsWith (kind : TokenKind) (count : ℕ) (bs : List ℕ) : Type 0 where
  pub long : 0 < count
  pub within : count ≤ length bs
  pub by_kind : AreBytesOf kind (take count bs)
  pub ended : EndsBefore kind (drop count bs)

-- behind the bytes of a class at the front stands none of the class
run_ends : (p : ℕ → Bool) (bs : List ℕ) → begins p (drop (prefix_len p bs) bs) ≡ false
run_ends p [] = refl
run_ends p (b ∷ bs) = ⊎_elim (λ (yes : p b ≡ true). rw yes (subst (λ (l : List ℕ). begins p l ≡ false) (drop-drop (prefix_len p bs) 1 (b ∷ bs)) (run_ends p bs))) (λ (no : p b ≡ false). rw no no) (cases_Bool (p b))

-- a byte that is neither of one class nor of another is of none of the two
begins_neither : (p q : ℕ → Bool) (bs : List ℕ) → begins p bs ≡ false → begins q bs ≡ false → begins (λ b. p b || q b) bs ≡ false
begins_neither p q [] e f = refl
begins_neither p q (b ∷ bs) e f = rw (e, f) refl

pub begins-take : (p : ℕ → Bool) (n : ℕ) (bs : List ℕ) → 0 < n → begins p (take n bs) ≡ begins p bs
begins-take p zero bs long = absurd (omega arith)
begins-take p (suc n) [] long = refl
begins-take p (suc n) (b ∷ bs) long = refl

-- a first byte of one class is one of a larger class
begins_run : (p q : ℕ → Bool) → ((b : ℕ) → p b ≡ true → q b ≡ true) → (bs : List ℕ) → begins p bs ≡ true → 0 < prefix_len q bs
begins_run p q larger [] e = absurd (cc)
begins_run p q larger (b ∷ bs) e = rw (larger b e) (omega arith)

run_passes : (p : ℕ → Bool) (bs : List ℕ) → AllPass p (take (prefix_len p bs) bs)
run_passes p bs k d lt =
    let short : k < prefix_len p bs = omega (arith, length-take-le (prefix_len p bs) bs (prefix_len-le-length p bs)) in
    rw (get_or-take (prefix_len p bs) bs k d short) (prefix_len_passes p bs k d short)

not_true : (b : Bool) → not b ≡ true → b ≡ false
not_true true e = absurd (cc)
not_true false e = refl

pub sign-take : (bs : List ℕ) (n : ℕ) → 0 < n → sign_len (take n bs) ≡ sign_len bs
sign-take bs n long = rw (get_or-take n bs 0 0 long)

-- the digits at the front are a numeral
digits_run : (bs : List ℕ) → begins is_digit bs ≡ true → IsNumeral 10 (take (prefix_len is_digit bs) bs)
digits_run bs digit =
    let run = take (prefix_len is_digit bs) bs in
    let whole = length-take-le _ bs (prefix_len-le-length is_digit bs) in
    let long = begins_run is_digit is_digit (λ _ e. e) bs digit in
    (omega arith, (numerals_by_value _ tells_by_index).to run (λ i lt. digit_in_range _ (run_passes is_digit bs i 0 lt)))

mark_front : (bs : List ℕ) → begins is_mark bs ≡ true → BeginsWith Mark 1 bs
mark_front [] mark = absurd (cc)
mark_front (b ∷ bs) mark = record { long = omega arith; within = omega arith; by_kind = (mark, refl); ended = tt }

word_front : (bs : List ℕ) (count : ℕ) → word_len bs ≡ Some count → BeginsWith Word count bs
word_front bs count len =
    let parts = guard_some _ _ count len in
    let tests = and_parts (begins is_letter bs) _ parts.0 in
    let run : prefix_len is_word_byte bs ≡ count = cc in
    let long = begins_run is_letter is_word_byte letter_in_word bs tests.0 in
    rw (← run) (record {
      long = long;
      within = prefix_len-le-length is_word_byte bs;
      by_kind = (begins-take is_letter _ bs long ∙ tests.0, run_passes is_word_byte bs, omega (arith, length-take-le _ bs (prefix_len-le-length is_word_byte bs), leb-true _ _ tests.1));
      ended = run_ends is_word_byte bs;
    })

number_front : (bs : List ℕ) (count : ℕ) → number_len bs ≡ Some count → BeginsWith Number count bs
number_front bs count len =
    let sign = sign_len bs in
    let rest = drop sign bs in
    let parts = guard_some _ _ count len in
    let tests = and_parts (begins is_digit rest) _ parts.0 in
    let digit = tests.0 in
    let digits : begins is_digit (drop (sign + prefix_len is_digit rest) bs) ≡ false = rw (← drop-drop) (run_ends is_digit rest) in
    let whole : sign + prefix_len is_digit rest ≡ count = cc in
    let long = begins_run is_digit is_digit (λ _ e. e) rest digit in
    rw (← whole) (record {
      long = omega arith;
      within = omega (arith, length-drop sign bs, prefix_len-le-length is_digit rest);
      by_kind = rw (sign-take bs (sign + prefix_len is_digit rest) (omega arith), drop-take) (digits_run rest digit);
      ended = begins_neither is_letter is_digit (drop (sign + prefix_len is_digit rest) bs) (not_true _ tests.1) digits;
    })

-- the parts of equal pairs
pub same_parts : {A B : Type 0} (x y : A × B) → Some x ≡ Some y → (x.0 ≡ y.0) × (x.1 ≡ y.1)
same_parts {A} {B} x y e =
    let same : x ≡ y = cc in
    (ap (λ (p : A × B). p.0) same, ap (λ (p : A × B). p.1) same)

-- a kind with a length
with_kind : (named kind : TokenKind) (o : Option ℕ) (count : ℕ) → option_map {U = TokenKind × ℕ} (λ len. (named, len)) o ≡ Some (kind, count) → (named ≡ kind) × (o ≡ Some count)
with_kind named kind None count e = absurd (cc)
with_kind named kind (Some len) count e =
    let parts = same_parts {A = TokenKind} {B = ℕ} (named, len) (kind, count) e in
    (parts.0, ap Some parts.1)

pub token_front : (bs : List ℕ) (kind : TokenKind) (count : ℕ) → front_token bs ≡ Some (kind, count) → BeginsWith kind count bs
token_front bs kind count front =
    ⊎_elim
    (λ mark. let parts = same_parts {A = TokenKind} {B = ℕ} (Mark, 1) (kind, count) mark.1 in rw (← parts.0, ← parts.1) (mark_front bs mark.0))
    (λ none. ⊎_elim
    (λ word. let parts = with_kind Word kind (word_len bs) count word.1 in rw (← parts.0) (word_front bs count parts.1))
    (λ number. let parts = with_kind Number kind (number_len bs) count number.1 in rw (← parts.0) (number_front bs count parts.1))
    (chosen (begins is_letter bs) _ _ _ none.1))
    (chosen (begins is_mark bs) _ _ _ front)

-- how many bytes the token at the front takes, if there is one
pub front_within : (bs : List ℕ) (front : Option (TokenKind × ℕ)) → front ≡ front_token bs → IfSome front (λ t. (0 < t.1) × (t.1 ≤ length bs))
front_within bs None e = tt
front_within bs (Some t) e = let front = token_front bs t.0 t.1 (sym e) in (front.long, front.within)
