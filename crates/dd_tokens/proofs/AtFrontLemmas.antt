-- Bytes that begin with a token have that token at their front.
use Rattle.std.proofs.Common.{◌≡◌, ℕ, ◌+◌, ◌-◌, ◌≤◌, ◌<◌, Bool, true, false, ◌||◌, eqb, List, [], ◌∷◌, Some, length, take, drop, get_or, refl, sym, ◌∙◌, ap, arith, ⊎_elim, le-leb}
use Rattle.std.specs.Prelude.{nat_le}
use Rattle.std.specs.Int.{IsInRange}
use Rattle.std.specs.List.{AllPass, prefix_len}
use Rattle.std.specs.Str.Parse.{AllDigits, IsNumeral}
use Rattle.std.proofs.lemmas.Bool.{cases_Bool, eqb-true, or_parts}
use Rattle.std.proofs.lemmas.Bool.Decides.{nat_tests}
use Rattle.std.proofs.lemmas.List.{get_or_default, get_or-drop, get_or-take, length-take-le, drop-drop, drop-take, length-drop}
use Rattle.std.proofs.lemmas.List.Sums.{prefix_len_is}
use Rattle.std.proofs.lemmas.Str.Parse.{digit_at}
use Rattle.dd_tokens.specs.declared.token.TokenKind.{TokenKind}
use Rattle.dd_tokens.specs.declared.token.TokenKind.TheVariants.{Word, Number, Mark}
use Rattle.dd_tokens.specs.Bytes.{is_blank, is_letter, is_digit, is_word_byte, is_mark}
use Rattle.dd_tokens.specs.Tokens.{begins, sign_len, front_token, word_limit}
use Rattle.dd_tokens.specs.TokenIn.{AreBytesOf}
use Rattle.dd_tokens.proofs.FrontLemmas.{BeginsWith, begins-take, sign-take}

-- ---- the first byte

begins_first : (p : ℕ → Bool) (bs : List ℕ) → 0 < length bs → begins p bs ≡ p (get_or bs 0 0)
begins_first p [] some = absurd (omega arith)
begins_first p (b ∷ bs) some = refl

begins_some : (p : ℕ → Bool) (bs : List ℕ) → begins p bs ≡ true → 0 < length bs
begins_some p [] e = absurd (cc)
begins_some p (b ∷ bs) e = omega arith

letter_low : (b : ℕ) → is_letter b ≡ true → 65 ≤ b
letter_low b e = grind (arith, nat_tests)

letter_no_mark : (b : ℕ) → is_letter b ≡ true → is_mark b ≡ false
letter_no_mark b e = grind (arith, nat_tests)

mark_low : (b : ℕ) → is_mark b ≡ true → 33 ≤ b
mark_low b e = grind (arith, nat_tests)

digit_no_letter : (b : ℕ) → IsInRange 48 57 b → is_letter b ≡ false
digit_no_letter b e = grind (arith, nat_tests)

digit_no_mark : (b : ℕ) → IsInRange 48 57 b → is_mark b ≡ false
digit_no_mark b e = grind (arith, nat_tests)

digit_is : (b : ℕ) → IsInRange 48 57 b → is_digit b ≡ true
digit_is b e = grind (arith, nat_tests)

shown : (b : ℕ) → 33 ≤ b → is_blank b ≡ false
shown b e = grind (arith, nat_tests)

-- a number begins with a `-` or a digit
record BeginsNumber (b : ℕ) : Type 0 where
  low : 33 ≤ b
  no_mark : is_mark b ≡ false
  no_letter : is_letter b ≡ false

number_first : (bs : List ℕ) → IsNumeral 10 (drop (sign_len bs) bs) → BeginsNumber (get_or bs 0 0)
number_first bs numeral = ⊎_elim
    (λ (minus : eqb (get_or bs 0 0) 45 ≡ true). rw (eqb-true _ 45 minus) (record { low = omega arith; no_mark = refl; no_letter = refl }))
    (λ (none : eqb (get_or bs 0 0) 45 ≡ false).
    let digits : IsNumeral 10 bs = rw none at numeral in
    let digit = digit_at bs 0 digits.1 digits.0 in
    record { low = omega (arith, digit); no_mark = digit_no_mark _ digit; no_letter = digit_no_letter _ digit })
    (cases_Bool (eqb (get_or bs 0 0) 45))

first_low : (kind : TokenKind) (bs : List ℕ) → AreBytesOf kind bs → 33 ≤ get_or bs 0 0
first_low Word bs are = omega (arith, letter_low (get_or bs 0 0) (sym (begins_first is_letter bs (begins_some is_letter bs are.0)) ∙ are.0))
first_low Number bs are = (number_first bs are).low
first_low Mark bs are = mark_low (get_or bs 0 0) (sym (begins_first is_mark bs (begins_some is_mark bs are.0)) ∙ are.0)

-- no token begins with a blank
pub first_shown : (kind : TokenKind) (count : ℕ) (bs : List ℕ) → 0 < count → AreBytesOf kind (take count bs) → is_blank (get_or bs 0 0) ≡ false
first_shown kind count bs long are = shown _ (rw (get_or-take count bs 0 0 long) at (first_low kind (take count bs) are))

-- ---- the bytes of a class at the front

run_is : (p : ℕ → Bool) (n : ℕ) (bs : List ℕ) → n ≤ length bs → AllPass p (take n bs) → begins p (drop n bs) ≡ false → prefix_len p bs ≡ n
run_is p n bs within pass ended =
    let whole = length-take-le n bs within in
    prefix_len_is p bs n 0 within
    (λ k lt. rw (get_or-take n bs k 0 lt) at (pass k 0 (omega arith)))
    (λ lt. let some : 0 < length (drop n bs) = omega (arith, length-drop n bs) in
    let place : n + 0 ≡ n = omega arith in
    let first : get_or (drop n bs) 0 0 ≡ get_or bs n 0 = get_or-drop n bs 0 0 ∙ ap (λ i. get_or bs i 0) place in
    ap p (sym first) ∙ sym (begins_first p (drop n bs) some) ∙ ended)

both_false : (p q : ℕ → Bool) (bs : List ℕ) → begins (λ b. p b || q b) bs ≡ false → (begins p bs ≡ false) × (begins q bs ≡ false)
both_false p q [] e = (refl, refl)
both_false p q (b ∷ bs) e = or_parts (p b) (q b) e

-- ---- each kind

mark_at_front : (count : ℕ) (bs : List ℕ) → BeginsWith Mark count bs → front_token bs ≡ Some (Mark, count)
mark_at_front count bs b =
    let one : count ≡ 1 = omega (arith, length-take-le count bs b.within, b.by_kind.1) in
    let mark : begins is_mark bs ≡ true = sym (begins-take is_mark count bs b.long) ∙ b.by_kind.0 in
    rw (mark, one) refl

front_word : (bs : List ℕ) (count : ℕ) → begins is_mark bs ≡ false → begins is_letter bs ≡ true → prefix_len is_word_byte bs ≡ count → nat_le count word_limit ≡ true → front_token bs ≡ Some (Word, count)
front_word bs count no_mark letter run short = rw (no_mark, letter, run, short) refl

word_at_front : (count : ℕ) (bs : List ℕ) → BeginsWith Word count bs → front_token bs ≡ Some (Word, count)
word_at_front count bs b =
    let some : 0 < length bs = omega (arith, b.long, b.within) in
    let letter : begins is_letter bs ≡ true = sym (begins-take is_letter count bs b.long) ∙ b.by_kind.0 in
    let first : is_letter (get_or bs 0 0) ≡ true = sym (begins_first is_letter bs some) ∙ letter in
    let run = run_is is_word_byte count bs b.within b.by_kind.1 b.ended in
    front_word bs count (begins_first is_mark bs some ∙ letter_no_mark (get_or bs 0 0) first) letter run
    (le-leb count word_limit (omega (arith, length-take-le count bs b.within, b.by_kind.2)))

front_number : (bs : List ℕ) (digits count : ℕ) → begins is_mark bs ≡ false → begins is_letter bs ≡ false → prefix_len is_digit (drop (sign_len bs) bs) ≡ digits → begins is_digit (drop (sign_len bs) bs) ≡ true
    → begins is_letter (drop (sign_len bs + digits) bs) ≡ false → sign_len bs + digits ≡ count → front_token bs ≡ Some (Number, count)
front_number bs digits count no_mark no_letter run digit ended whole = rw (no_mark, no_letter, run, digit, ended, whole) refl

short_sign : (bs : List ℕ) (count : ℕ) → 0 < count → sign_len bs ≤ count
short_sign bs count long = ⊎_elim (λ (minus : eqb (get_or bs 0 0) 45 ≡ true). rw minus long) (λ (none : eqb (get_or bs 0 0) 45 ≡ false). rw none (omega arith)) (cases_Bool (eqb (get_or bs 0 0) 45))

number_at_front : (count : ℕ) (bs : List ℕ) → BeginsWith Number count bs → front_token bs ≡ Some (Number, count)
number_at_front count bs b =
    let sign = sign_len bs in
    let rest = drop sign bs in
    let some : 0 < length bs = omega (arith, b.long, b.within) in
    let sign_same : sign_len (take count bs) ≡ sign = sign-take bs count b.long in
    let long : sign ≤ count = short_sign bs count b.long in
    let sum : sign + (count - sign) ≡ count = omega arith in
    let bytes : drop sign (take count bs) ≡ take (count - sign) rest = ap (λ n. drop sign (take n bs)) (sym sum) ∙ drop-take sign (count - sign) bs in
    let numeral : IsNumeral 10 (take (count - sign) rest) = rw (sign_same, bytes) at b.by_kind in
    let first : BeginsNumber (get_or bs 0 0) = rw (get_or-take count bs 0 0 b.long) at (number_first (take count bs) b.by_kind) in
    let left : length rest ≡ length bs - sign = length-drop sign bs in
    let fits : count - sign ≤ length rest = omega (arith, b.within) in
    let whole = length-take-le (count - sign) rest fits in
    let more : 0 < count - sign = omega (arith, numeral.0) in
    let behind : drop (count - sign) rest ≡ drop count bs = drop-drop (count - sign) sign bs ∙ ap (λ n. drop n bs) sum in
    let ended = both_false is_letter is_digit (drop count bs) b.ended in
    let pass : AllPass is_digit (take (count - sign) rest) = λ k d lt. rw (get_or_default _ k d 0 lt) (digit_is _ (digit_at _ k numeral.1 lt)) in
    let run : prefix_len is_digit rest ≡ count - sign = run_is is_digit (count - sign) rest fits pass (ap (begins is_digit) behind ∙ ended.1) in
    front_number bs (count - sign) count (begins_first is_mark bs some ∙ first.no_mark) (begins_first is_letter bs some ∙ first.no_letter) run
    (sym (begins-take is_digit (count - sign) rest more) ∙ begins_first is_digit (take (count - sign) rest) numeral.0 ∙ pass 0 0 numeral.0)
    (rw sum ended.0) sum

pub at_front : (kind : TokenKind) (count : ℕ) (bs : List ℕ) → BeginsWith kind count bs → front_token bs ≡ Some (kind, count)
at_front Word count bs b = word_at_front count bs b
at_front Number count bs b = number_at_front count bs b
at_front Mark count bs b = mark_at_front count bs b
