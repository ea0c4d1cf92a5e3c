-- Steps up and down, by their size.
use Rattle.std.proofs.Common.{◌≡◌, ◌≢◌, ℕ, zero, suc, ◌*◌, ◌<◌, ℤ, pos, negsuc, neg_ℤ, ◌*ℤ◌, ◌<ℤ◌, ◌≤ℤ◌, ◌⊎◌, inl, inr, refl, arith, unsigned_abs}
use Rattle.std.proofs.lemmas.Int.{ints, by_lt_z}

pub step_cases : (s : ℤ) → s ≢ pos 0 → (pos 0 <ℤ s) ⊎ (s <ℤ pos 0)
step_cases (pos zero) h = absurd (h refl)
step_cases (pos (suc n)) h = inl (omega (arith, ints))
step_cases (negsuc n) h = inr (omega (arith, ints))

pub times_up : (i : ℕ) (s : ℤ) → pos 0 <ℤ s → pos i *ℤ s ≡ pos (i * unsigned_abs s)
times_up i (pos n) h = refl
times_up i (negsuc n) h = absurd (omega (arith, ints))

pub times_down : (i : ℕ) (s : ℤ) → s <ℤ pos 0 → pos i *ℤ s ≡ neg_ℤ (pos (i * unsigned_abs s))
times_down i (pos n) h = absurd (omega (arith, ints))
times_down i (negsuc n) h = refl

pub size_up : (z : ℤ) → pos 0 ≤ℤ z → pos (unsigned_abs z) ≡ z
size_up (pos n) h = refl
size_up (negsuc n) h = absurd (omega (arith, ints))

pub size_down : (z : ℤ) → z ≤ℤ pos 0 → pos (unsigned_abs z) ≡ neg_ℤ z
size_down (pos zero) h = refl
size_down (pos (suc n)) h = absurd (omega (arith, ints))
size_down (negsuc n) h = refl

pub size_pos : (s : ℤ) → s ≢ pos 0 → 0 < unsigned_abs s
size_pos (pos zero) h = absurd (h refl)
size_pos (pos (suc n)) h = omega arith
size_pos (negsuc n) h = omega arith

pub le_from : (a b : ℤ) → ¬ (b <ℤ a) → a ≤ℤ b
le_from a b h = by_lt_z b a (λ p. absurd (h p)) (λ p. p)

pub not_both : (s : ℤ) → pos 0 <ℤ s → s <ℤ pos 0 → ⊥
not_both s up down = omega (arith, ints)

pub times_none : (s : ℤ) → pos 0 *ℤ s ≡ pos 0
times_none (pos n) = omega (arith, ints)
times_none (negsuc n) = omega (arith, ints)
