-- The order of a packed triangle without its diagonal, from its length.
use Rattle.std.proofs.Common.{◌≡◌, ℕ, zero, suc, ◌+◌, ◌-◌, ◌*◌, ◌<◌, ◌≤◌, nat_le, Bool, true, false, cond, inl, inr, refl, ap, sym, ◌∙◌, arith, count_by}
use Rattle.std.specs.List.{range_with_len}
use Rattle.std.proofs.lemmas.Bool.{cases_lt}
use Rattle.std.proofs.lemmas.Bool.Decides.{nat_tests}
use Rattle.std.proofs.lemmas.List.Sums.{sum_by-cons}
use Rattle.std.proofs.lemmas.Nat.{mul-le}
use Rattle.dd_kernels.specs.Packed.{strict_order}

-- how many of some numbers pass a test that is passed below `t` alone
counted_first : (f : ℕ → Bool) (a k : ℕ) (b : Bool) → f a ≡ b → count_by f (range_with_len a (suc k)) ≡ cond b 1 0 + count_by f (range_with_len (a + 1) k)
counted_first f a k b is =
    sum_by-cons (λ (x : ℕ). cond (f x) 1 0) a (range_with_len (a + 1) k) ∙ ap (λ (b : Bool). cond b 1 0 + count_by f (range_with_len (a + 1) k)) is

none_counted : (f : ℕ → Bool) (a k : ℕ) → ((i : ℕ) → a ≤ i → f i ≡ false) → count_by f (range_with_len a k) ≡ 0
none_counted f a zero above = refl
none_counted f a (suc k) above =
    counted_first f a k false (above a (omega arith)) ∙ omega (arith, none_counted f (a + 1) k (λ i past. above i (omega arith)))

counted : (f : ℕ → Bool) (a k t : ℕ) → a ≤ t → t ≤ a + k → ((i : ℕ) → i < t → f i ≡ true) → ((i : ℕ) → t ≤ i → f i ≡ false) → count_by f (range_with_len a k) + a ≡ t
counted f a zero t low high below above = omega arith
counted f a (suc k) t low high below above =
    elim (cases_lt a t) [
      | inl less ↦ omega (arith, counted_first f a k true (below a less), counted f (a + 1) k t (omega arith) (omega arith) below above)
      | inr same ↦ omega (arith, none_counted f a (suc k) (λ i past. above i (omega arith)))
    ]

-- of the numbers below the length those below m pass, where the order is m + 1
passes : (m twice k : ℕ) → twice + (m + 1) ≡ (m + 1) * (m + 1) → k < m → nat_le ((k + 1) * (k + 2)) twice ≡ true
passes m twice k square below =
    let product : (k + 1) * (k + 2) ≤ m * (m + 1) = mul-le (k + 1) (k + 2) m (m + 1) (omega arith) (omega arith) in
    let small : (k + 1) * (k + 2) ≤ twice = omega arith in
    grind (arith, nat_tests)

fails : (m twice k : ℕ) → twice + (m + 1) ≡ (m + 1) * (m + 1) → m ≤ k → nat_le ((k + 1) * (k + 2)) twice ≡ false
fails m twice k square past =
    let product : (m + 1) * (m + 2) ≤ (k + 1) * (k + 2) = mul-le (m + 1) (m + 2) (k + 1) (k + 2) (omega arith) (omega arith) in
    let large : twice < (k + 1) * (k + 2) = omega arith in
    grind (arith, nat_tests)

at_least : (m len : ℕ) → 2 * len + (m + 1) ≡ (m + 1) * (m + 1) → m ≤ len
at_least m len square =
    elim (cases_lt 0 m) [
      | inl some ↦ omega (arith, mul-le 1 m m m (omega arith) (omega arith))
      | inr none ↦ omega arith
    ]

order_of : (m len : ℕ) → 2 * len + (m + 1) ≡ (m + 1) * (m + 1) → strict_order len ≡ m + 1
order_of m len square =
    omega (arith, counted (λ k. nat_le ((k + 1) * (k + 2)) (2 * len)) 0 len m (omega arith) (omega (arith, at_least m len square)) (λ i below. passes m (2 * len) i square below) (λ i past. fails m (2 * len) i square past))

pub order_is : (n len : ℕ) → 0 < n → 2 * len + n ≡ n * n → strict_order len ≡ n
order_is n len some square =
    let is : n ≡ n - 1 + 1 = omega arith in
    let square_of : 2 * len + (n - 1 + 1) ≡ (n - 1 + 1) * (n - 1 + 1) = rw (← is) square in
    order_of (n - 1) len square_of ∙ sym is
