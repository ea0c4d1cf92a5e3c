-- Sums of the first numbers.
use Rattle.std.proofs.Common.{◌≡◌, ℕ, zero, suc, ◌+◌, ◌*◌, ◌-◌, ◌/◌, ◌<◌, ◌≤◌, ◌^◌, refl, arith, ⊎_elim}
use Rattle.std.proofs.lemmas.Nat.{mul-le}
use Rattle.std.proofs.lemmas.Bool.{cases_lt}
use Rattle.dd_views.specs.Triangle.{triangle}

pub triangle_twice : (n : ℕ) → 2 * triangle n ≡ n * (n + 1)
triangle_twice zero = refl
triangle_twice (suc n) = omega (arith, triangle_twice n)

pub triangle_half : (n : ℕ) → n * (n + 1) / 2 ≡ triangle n
triangle_half n = omega (arith, triangle_twice n)

pub triangle_back : (n : ℕ) → triangle n ≡ triangle (n - 1) + n
triangle_back zero = refl
triangle_back (suc n) = let e : suc n - 1 ≡ n = omega arith in rw e refl

pub triangle_le : (m n : ℕ) → m ≤ n → triangle m ≤ triangle n
triangle_le m n le = omega (arith, triangle_twice m, triangle_twice n, mul-le m (m + 1) n (n + 1) le (omega arith))

-- a sum below that of the first n numbers is one of fewer
pub triangle_lt : (m n : ℕ) → triangle m < triangle n → m < n
triangle_lt m n lt = ⊎_elim (λ (l : m < n). l) (λ (g : n ≤ m). absurd (omega (arith, triangle_le n m g))) (cases_lt m n)

-- the sum of numbers of 32 bits
pub triangle_small : (n : ℕ) → n < 2 ^ 32 → triangle n < 2 ^ 63
triangle_small n lt = omega (arith, triangle_twice n, mul-le n (n + 1) 4294967295 4294967296 (omega arith) (omega arith))

-- the column of the element at a place, from the square root of twice the place
pub at_root : (i r : ℕ) → r * r ≤ 2 * i → 2 * i < (r + 1) * (r + 1) → r * (r + 1) ≤ 2 * i → (triangle r ≤ i) × (i < triangle (r + 1))
at_root i r low high below = (omega (arith, triangle_twice r), omega (arith, triangle_twice (r + 1)))

pub before_root : (i r : ℕ) → r * r ≤ 2 * i → 2 * i < r * (r + 1) → (triangle (r - 1) ≤ i) × (i < triangle (r - 1 + 1))
before_root i zero low high = absurd (omega arith)
before_root i (suc r) low high =
    let e : suc r - 1 ≡ r = omega arith in
    rw e (omega (arith, triangle_twice r), omega (arith, triangle_twice (r + 1)))

pub product_fits : (n : ℕ) → n < 2 ^ 32 → n * (n + 1) < 2 ^ 64
product_fits n lt = omega (arith, mul-le n (n + 1) 4294967295 4294967296 (omega arith) (omega arith))
