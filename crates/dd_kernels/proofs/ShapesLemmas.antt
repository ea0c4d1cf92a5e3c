-- The order of a packed triangle without its diagonal.
use Rattle.std.proofs.Common.{◌≡◌, ◌↔◌, ℕ, ◌+◌, ◌*◌, ◌-◌, ◌<◌, ◌≤◌, inl, inr, arith}
use Rattle.std.proofs.lemmas.Nat.{mul-le}
use Rattle.std.proofs.lemmas.Bool.{cases_order}

-- a number more than one above the root is too large
too_large : (n more twice root : ℕ) → n ≡ root + 2 + more → twice + n ≡ n * n → twice < (root + 1) * (root + 1) → ⊥
too_large n more twice root is square high = omega (arith, rw is at square)

-- where n (n - 1) is `twice`, n is one more than the root of `twice`, rounded down
pub order_from_root : (n twice root : ℕ) → 0 < n → twice + n ≡ n * n → root * root ≤ twice → twice < (root + 1) * (root + 1) → n ≡ root + 1
order_from_root n twice root positive square low high =
    elim (cases_order n (root + 1)) [
      | inl same ↦ same
      | inr other ↦ elim other [
        | inl below ↦ let small : n ≤ root = omega arith in absurd (omega (arith, mul-le n n root root small small))
        | inr above ↦ absurd (too_large n (n - (root + 2)) twice root (omega arith) square high)
      ]
    ]

-- twice a length is n (n - 1) for some n exactly where it is the product of its root and the number after it
pub strict_by_root : (twice root : ℕ) → root * root ≤ twice → twice < (root + 1) * (root + 1) → (root * (root + 1) ≡ twice) ↔ ((n : ℕ) × (0 < n) × (twice + n ≡ n * n))
strict_by_root twice root low high =
    (λ exact. (root + 1, omega arith, omega (arith, exact)), λ some. let order : some.0 ≡ root + 1 = order_from_root some.0 twice root some.1 some.2 low high in omega (arith, simp order at some.2))
