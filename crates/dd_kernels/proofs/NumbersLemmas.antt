-- Arithmetic in two's complement.
use Rattle.std.proofs.Common.{◌≡◌, ℕ, ◌+◌, ◌*◌, ◌^◌, ◌%◌, ◌<◌, ℤ, pos, ◌+ℤ◌, ◌-ℤ◌, ◌*ℤ◌, neg_ℤ, ◌-◌, ap, ◌∙◌, add-one, arith, rules}
use Rattle.std.specs.Int.{w64, int_wrap, int_wrapping_sub, cast_signed, cast_unsigned}
use Rattle.std.specs.Int.RustNames.{FitsSigned}
use Rattle.std.proofs.lemmas.Int.{wrapping_add_is, wrapping_sub_is, wrapping_mul_is, wrapping_add_onto, wrapping_add-bits, to_z_pos, int_wrap-add_right, int_wrap-add_left, int_wrap-sub_right, wrapping_sub-bits}
use Rattle.std.proofs.lemmas.Nat.{mod_below}
use Rattle.std.proofs.Math.IntN.{+ℤ_assoc}
use Rattle.dd_kernels.specs.Lists.{wrapped, sum_below}
use Rattle.dd_kernels.specs.Matrices.{weighed}
use Rattle.dd_kernels.proofs.ListsLemmas.{ap2}

pub difference_from_zero : (a : ℤ) → FitsSigned w64 a → int_wrapping_sub w64 (pos 0) a ≡ int_wrap w64 (pos 0 -ℤ a)
difference_from_zero a fits = wrapping_sub_is w64 (pos 0) a (search rules) fits

-- one number more in a sum that wraps on the way
pub sum_more : (f : ℕ → ℤ) (i bits : ℕ) (a : ℤ) → bits < 2 ^ 64 → FitsSigned w64 a → a ≡ f i → cast_signed w64 bits ≡ wrapped (sum_below i f) → cast_signed w64 ((bits + cast_unsigned w64 a) % 2 ^ 64) ≡ wrapped (sum_below (i + 1) f)
sum_more f i bits a within fits is so_far =
    let before = sum_below i f in
    rw add-one (wrapping_add_onto w64 bits a within fits ∙ (ap (λ (s : ℤ). int_wrap w64 (s +ℤ a)) so_far ∙ (int_wrap-add_left w64 before a ∙ ap (λ (b : ℤ). int_wrap w64 (before +ℤ b)) is)))

-- the same in a sum that starts at another number
pub sum_more_from : (start : ℤ) (f : ℕ → ℤ) (i bits : ℕ) (a : ℤ) → bits < 2 ^ 64 → FitsSigned w64 a → a ≡ f i → cast_signed w64 bits ≡ wrapped (start +ℤ sum_below i f) → cast_signed w64 ((bits + cast_unsigned w64 a) % 2 ^ 64) ≡ wrapped (start +ℤ sum_below (i + 1) f)
sum_more_from start f i bits a within fits is so_far =
    let before = sum_below i f in
    rw add-one (wrapping_add_onto w64 bits a within fits ∙ (ap (λ (s : ℤ). int_wrap w64 (s +ℤ a)) so_far ∙ (int_wrap-add_left w64 (start +ℤ before) a ∙ (ap (λ (b : ℤ). int_wrap w64 b) (+ℤ_assoc start before a) ∙ ap (λ (b : ℤ). int_wrap w64 (start +ℤ (before +ℤ b))) is))))

-- one product more in a sum that wraps on the way
pub product_sum_more : (f : ℕ → ℤ) (i bits : ℕ) (a b : ℤ) → bits < 2 ^ 64 → FitsSigned w64 a → FitsSigned w64 b → a *ℤ b ≡ f i → cast_signed w64 bits ≡ wrapped (sum_below i f) → cast_signed w64 ((bits + cast_unsigned w64 a * cast_unsigned w64 b % 2 ^ 64) % 2 ^ 64) ≡ wrapped (sum_below (i + 1) f)
product_sum_more f i bits a b within fits_a fits_b is so_far =
    let before = sum_below i f in
    let product = cast_unsigned w64 a * cast_unsigned w64 b % 2 ^ 64 in
    rw add-one (wrapping_add-bits w64 bits product within (mod_below (cast_unsigned w64 a * cast_unsigned w64 b) (2 ^ 64) (omega arith)) ∙ (ap (λ (s : ℤ). int_wrap w64 (s +ℤ cast_signed w64 product)) so_far ∙ (int_wrap-add_left w64 before (cast_signed w64 product) ∙ (ap (λ (p : ℤ). int_wrap w64 (before +ℤ p)) (wrapping_mul_is w64 a b fits_a fits_b) ∙ (int_wrap-add_right w64 before (a *ℤ b) ∙ ap (λ (p : ℤ). int_wrap w64 (before +ℤ p)) is)))))

-- a number counted on from another
pub counted_on : (bits i : ℕ) → bits < 2 ^ 64 → i < 2 ^ 63 → cast_signed w64 ((bits + i) % 2 ^ 64) ≡ wrapped (cast_signed w64 bits +ℤ pos i)
counted_on bits i within small =
    let more : i < 2 ^ 64 = omega arith in
    wrapping_add-bits w64 bits i within more ∙ ap (λ (z : ℤ). int_wrap w64 (cast_signed w64 bits +ℤ z)) (to_z_pos w64 i small)

-- the sum of four neighbours, less four times the place, wraps once
pub weighed_once : (a b l r h : ℤ) → FitsSigned w64 a → FitsSigned w64 b → FitsSigned w64 l → FitsSigned w64 r → FitsSigned w64 h → cast_signed w64 (((((cast_unsigned w64 a + cast_unsigned w64 b) % 2 ^ 64 + cast_unsigned w64 l) % 2 ^ 64 + cast_unsigned w64 r) % 2 ^ 64 + (2 ^ 64 - 4 * cast_unsigned w64 h % 2 ^ 64)) % 2 ^ 64) ≡ weighed a b l r h
weighed_once a b l r h fits_a fits_b fits_l fits_r fits_h =
    let two = (cast_unsigned w64 a + cast_unsigned w64 b) % 2 ^ 64 in
    let three = (two + cast_unsigned w64 l) % 2 ^ 64 in
    let four = (three + cast_unsigned w64 r) % 2 ^ 64 in
    let times = 4 * cast_unsigned w64 h % 2 ^ 64 in
    let first = wrapping_add_is w64 a b fits_a fits_b in
    let second = wrapping_add_onto w64 two l (mod_below (cast_unsigned w64 a + cast_unsigned w64 b) (2 ^ 64) (omega arith)) fits_l ∙ (ap (λ (z : ℤ). int_wrap w64 (z +ℤ l)) first ∙ int_wrap-add_left w64 (a +ℤ b) l) in
    let third = wrapping_add_onto w64 three r (mod_below (two + cast_unsigned w64 l) (2 ^ 64) (omega arith)) fits_r ∙ (ap (λ (z : ℤ). int_wrap w64 (z +ℤ r)) second ∙ int_wrap-add_left w64 ((a +ℤ b) +ℤ l) r) in
    let product = wrapping_mul_is w64 (pos 4) h (search rules) fits_h in
    let sum = ((a +ℤ b) +ℤ l) +ℤ r in
    wrapping_sub-bits w64 four times (mod_below (three + cast_unsigned w64 r) (2 ^ 64) (omega arith)) (mod_below (4 * cast_unsigned w64 h) (2 ^ 64) (omega arith)) ∙ (ap2 (λ (u v : ℤ). int_wrap w64 (u -ℤ v)) third product ∙ (int_wrap-sub_right w64 (int_wrap w64 sum) (pos 4 *ℤ h) ∙ int_wrap-add_left w64 sum (neg_ℤ (pos 4 *ℤ h))))
