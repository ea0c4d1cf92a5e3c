-- The bits of marks, and what a second visit of the same kind makes of a mark.
use Rattle.std.proofs.Common.{◌≡◌, ◌≢◌, ℕ, zero, suc, ◌-◌, ◌*◌, ◌^◌, ◌<◌, ◌≤◌, Bool, true, false, eqb, cond, not, ◌||◌, refl, sym, ap, ◌∙◌, arith, ⊎_elim, max}
use Rattle.std.specs.Int.{bit_at}
use Rattle.std.specs.Int.RustNames.{bit_and, bit_or}
use Rattle.std.proofs.lemmas.Bool.{cases_eq}
use Rattle.std.proofs.lemmas.Bool.Decides.{nat_tests}
use Rattle.std.proofs.lemmas.Nat.Bits.{and_pow, bit_at-lt, bit_at-pow_other, bit_at-pow_same, bit_at-zero, bit_at_or, same_from_bits}
use Rattle.dd_transfers.specs.declared.mark.Visit.{Visit}
use Rattle.dd_transfers.specs.declared.mark.Visit.TheVariants.{Read, Write, Leave}
use Rattle.dd_transfers.specs.Marks.{AreSameTo, asks_home, has_space, mark_after, mark_of, moves_at, opened}

-- the mark of one space has that space alone
pub has-mark_of : (a b : ℕ) → 1 ≤ a → 1 ≤ b → has_space (mark_of a) b ≡ eqb a b
has-mark_of a b la lb =
    ⊎_elim
    (λ (e : a ≡ b).
    let bit : bit_at (2 ^ (a - 1)) (b - 1) ≡ 1 = ap (λ (i : ℕ). bit_at (2 ^ (a - 1)) (i - 1)) (sym e) ∙ bit_at-pow_same (a - 1) in
    let test : eqb (bit_at (2 ^ (a - 1)) (b - 1)) 1 ≡ true = ap (λ (i : ℕ). eqb i 1) bit in
    let same : eqb a b ≡ true = grind (arith, nat_tests) in
    test ∙ sym same)
    (λ (ne : a ≢ b).
    let other : b - 1 ≢ a - 1 = omega arith in
    let bit : bit_at (2 ^ (a - 1)) (b - 1) ≡ 0 = bit_at-pow_other (a - 1) (b - 1) other in
    let test : eqb (bit_at (2 ^ (a - 1)) (b - 1)) 1 ≡ false = ap (λ (i : ℕ). eqb i 1) bit in
    let same : eqb a b ≡ false = grind (arith, nat_tests) in
    test ∙ sym same)
    (cases_eq a b)

bits_or : (x y : ℕ) → x < 2 → y < 2 → eqb (max x y) 1 ≡ (eqb x 1 || eqb y 1)
bits_or zero zero lx ly = refl
bits_or zero (suc zero) lx ly = refl
bits_or (suc zero) zero lx ly = refl
bits_or (suc zero) (suc zero) lx ly = refl
bits_or (suc (suc x)) y lx ly = absurd (omega arith)
bits_or x (suc (suc y)) lx ly = absurd (omega arith)

-- one more space
pub has-or : (mark a b : ℕ) → 1 ≤ a → 1 ≤ b → has_space (bit_or mark (mark_of a)) b ≡ (has_space mark b || eqb a b)
has-or mark a b la lb =
    ap (λ (i : ℕ). eqb i 1) (bit_at_or mark (mark_of a) (b - 1))
    ∙ bits_or (bit_at mark (b - 1)) (bit_at (mark_of a) (b - 1)) (bit_at-lt mark (b - 1)) (bit_at-lt (mark_of a) (b - 1))
    ∙ ap (λ (t : Bool). has_space mark b || t) (has-mark_of a b la lb)

some_bit : (mark i : ℕ) → bit_at mark i ≡ 1 → mark ≢ 0
some_bit mark i bit none = let zero_bit : bit_at mark i ≡ 0 = ap (λ (m : ℕ). bit_at m i) none ∙ bit_at-zero i in omega arith

pub or_some : (mark a : ℕ) → bit_or mark (mark_of a) ≢ 0
or_some mark a =
    let bit = bit_at_or mark (mark_of a) (a - 1) in
    let one = bit_at-pow_same (a - 1) in
    some_bit (bit_or mark (mark_of a)) (a - 1) (omega (arith, bit, one, bit_at-lt mark (a - 1)))

pub mark_of_some : (a : ℕ) → mark_of a ≢ 0
mark_of_some a = some_bit (mark_of a) (a - 1) (bit_at-pow_same (a - 1))

-- a mark that is not 0 stays as it is
pub opened_some : (home mark : ℕ) → mark ≢ 0 → opened home mark ≡ mark
opened_some home mark some = ap (λ (t : Bool). cond t (mark_of home) mark) (let t : eqb mark 0 ≡ false = grind (arith, nat_tests) in t)

pub or_again : (mark a : ℕ) → bit_or (bit_or mark (mark_of a)) (mark_of a) ≡ bit_or mark (mark_of a)
or_again mark a =
    same_from_bits (bit_or (bit_or mark (mark_of a)) (mark_of a)) (bit_or mark (mark_of a))
    (λ i. omega (arith, bit_at_or (bit_or mark (mark_of a)) (mark_of a) i, bit_at_or mark (mark_of a) i))

-- a second visit leaves the mark, and moves nothing
pub mark_again : (visit : Visit) (home mark : ℕ) → mark_after visit home (mark_after visit home mark) ≡ mark_after visit home mark
mark_again (Read space) home mark =
    ap (λ (m : ℕ). bit_or m (mark_of space)) (opened_some home (bit_or (opened home mark) (mark_of space)) (or_some (opened home mark) space))
    ∙ or_again (opened home mark) space
mark_again (Write space) home mark = refl
mark_again Leave home mark = refl

or_has : (mark a : ℕ) → has_space (bit_or mark (mark_of a)) a ≡ true
or_has mark a =
    let bit = bit_at_or mark (mark_of a) (a - 1) in
    let one = bit_at-pow_same (a - 1) in
    let is : bit_at (bit_or mark (mark_of a)) (a - 1) ≡ 1 = omega (arith, bit, one, bit_at-lt mark (a - 1)) in
    ap (λ (i : ℕ). eqb i 1) is

pub moves_again : (visit : Visit) (home mark : ℕ) → moves_at visit home (mark_after visit home mark) ≡ 0
moves_again (Read space) home mark =
    ap (λ (m : ℕ). cond (has_space m space) 0 1) (opened_some home (bit_or (opened home mark) (mark_of space)) (or_some (opened home mark) space))
    ∙ ap (λ (t : Bool). cond t 0 1) (or_has (opened home mark) space)
moves_again (Write space) home mark = refl
moves_again Leave home mark = ap (λ (i : ℕ). cond (eqb i 1) 0 1) (bit_at-pow_same (home - 1))

-- the spaces that hold an element
abbrev pub holds : ℕ → ℕ → ℕ → Bool
holds home mark space = has_space (opened home mark) space

pub holds_first : (home space : ℕ) → 1 ≤ home → 1 ≤ space → holds home 0 space ≡ eqb home space
holds_first home space lh ls = has-mark_of home space lh ls

pub holds_read : (home mark a space : ℕ) → 1 ≤ a → 1 ≤ space → holds home (mark_after (Read a) home mark) space ≡ (holds home mark space || eqb a space)
holds_read home mark a space la ls =
    ap (λ (m : ℕ). has_space m space) (opened_some home (bit_or (opened home mark) (mark_of a)) (or_some (opened home mark) a))
    ∙ has-or (opened home mark) a space la ls

pub holds_written : (home a space : ℕ) → 1 ≤ a → 1 ≤ space → holds home (mark_of a) space ≡ eqb a space
holds_written home a space la ls =
    ap (λ (m : ℕ). has_space m space) (opened_some home (mark_of a) (mark_of_some a))
    ∙ has-mark_of a space la ls

none_from : (mark : ℕ) → not (eqb mark 0) ≡ false → mark ≡ 0
none_from mark e =
    ⊎_elim
    (λ (none : mark ≡ 0). none)
    (λ (some : mark ≢ 0). let test : eqb mark 0 ≡ false = grind (arith, nat_tests) in absurd (let wrong : true ≡ false = sym (ap not test) ∙ e in cc))
    (cases_eq mark 0)

-- a visit that does not ask for the home
pub unasked : (visit : Visit) (mark home other : ℕ) → asks_home visit mark ≡ false → AreSameTo visit mark home other
unasked (Read space) mark home other unasks =
    let some : mark ≢ 0 = λ (e : mark ≡ 0). let yes : eqb mark 0 ≡ true = grind (arith, nat_tests) in absurd (let wrong : true ≡ false = sym yes ∙ unasks in cc) in
    let same : opened home mark ≡ opened other mark = opened_some home mark some ∙ sym (opened_some other mark some) in
    record { after = ap (λ (m : ℕ). bit_or m (mark_of space)) same; moves = ap (λ (m : ℕ). cond (has_space m space) 0 1) same }
unasked (Write space) mark home other unasks = record { after = refl; moves = refl }
unasked Leave mark home other unasks =
    let none : mark ≡ 0 = none_from mark unasks in
    let at_home = ap (λ (m : ℕ). moves_at Leave home m) none ∙ moves_again Leave home 0 in
    let at_other = ap (λ (m : ℕ). moves_at Leave other m) none ∙ moves_again Leave other 0 in
    record { after = refl; moves = at_home ∙ sym at_other }

pub same_home : (visit : Visit) (mark home : ℕ) → AreSameTo visit mark home home
same_home visit mark home = record { after = refl; moves = refl }

-- the bit of a space in a mark, by what is left of the mark without the others
masked_none : (bit power masked : ℕ) → bit < 2 → power ≢ 0 → masked ≡ bit * power → masked ≡ 0 → eqb bit 1 ≡ false
masked_none zero power masked lt some is none = refl
masked_none (suc zero) power masked lt some is none = absurd (some (omega (arith, is, none)))
masked_none (suc (suc bit)) power masked lt some is none = absurd (omega arith)

masked_some : (bit power masked : ℕ) → bit < 2 → masked ≡ bit * power → masked ≢ 0 → eqb bit 1 ≡ true
masked_some zero power masked lt is some = absurd (some (omega (arith, is)))
masked_some (suc zero) power masked lt is some = refl
masked_some (suc (suc bit)) power masked lt is some = absurd (omega arith)

pub misses : (mark space : ℕ) → bit_and mark (mark_of space) ≡ 0 → has_space mark space ≡ false
misses mark space none = masked_none (bit_at mark (space - 1)) (mark_of space) (bit_and mark (mark_of space)) (bit_at-lt mark (space - 1)) (mark_of_some space) (and_pow mark (space - 1)) none

pub misses_not : (mark space : ℕ) → bit_and mark (mark_of space) ≢ 0 → has_space mark space ≡ true
misses_not mark space some = masked_some (bit_at mark (space - 1)) (mark_of space) (bit_and mark (mark_of space)) (bit_at-lt mark (space - 1)) (and_pow mark (space - 1)) some
