-- The greatest number up to one that passes a test.
use Rattle.std.proofs.Common.{◌≡◌, ◌≢◌, ℕ, zero, suc, ◌+◌, ◌≤◌, Bool, true, false, cond, refl, sym, ap, ◌∙◌, arith, ⊎_elim}
use Rattle.std.proofs.lemmas.Bool.{cases_eq}
use Rattle.dd_meaning.specs.Versions.{latest}

pub latest_le : (passes : ℕ → Bool) (n : ℕ) → latest passes n ≤ n
latest_le passes zero = omega arith
latest_le passes (suc n) =
    let less = latest_le passes n in
    elim (passes (suc n)) as (λ (b : Bool). cond b (suc n) (latest passes n) ≤ suc n) [ true ↦ omega arith | false ↦ omega (arith, less) ]

pub latest_more : (passes : ℕ → Bool) (n : ℕ) → latest passes (n + 1) ≡ cond (passes (n + 1)) (n + 1) (latest passes n)
latest_more passes n = let e : n + 1 ≡ suc n = omega arith in rw e refl

-- no number that passes is greater
latest_ge_by : (passes : ℕ → Bool) (j n : ℕ) (b : Bool) → passes (suc n) ≡ b → j ≤ suc n → passes j ≡ true → (j ≤ n → j ≤ latest passes n) → j ≤ cond b (suc n) (latest passes n)
latest_ge_by passes j n true e high is more = high
latest_ge_by passes j n false e high is more =
    ⊎_elim
    (λ (here : j ≡ suc n). absurd (let no : true ≡ false = sym is ∙ ap passes here ∙ e in cc))
    (λ (ne : j ≢ suc n). more (omega arith))
    (cases_eq j (suc n))

pub latest_ge : (passes : ℕ → Bool) (j n : ℕ) → 1 ≤ j → j ≤ n → passes j ≡ true → j ≤ latest passes n
latest_ge passes j zero low high is = absurd (omega arith)
latest_ge passes j (suc n) low high is = latest_ge_by passes j n (passes (suc n)) refl high is (λ le. latest_ge passes j n low le is)

-- it passes, where it is not 0
passes_by : (passes : ℕ → Bool) (n : ℕ) (b : Bool) → passes (suc n) ≡ b → (latest passes n ≢ 0 → passes (latest passes n) ≡ true) → cond b (suc n) (latest passes n) ≢ 0 → passes (cond b (suc n) (latest passes n)) ≡ true
passes_by passes n true e more some = e
passes_by passes n false e more some = more some

pub latest_passes : (passes : ℕ → Bool) (n : ℕ) → latest passes n ≢ 0 → passes (latest passes n) ≡ true
latest_passes passes zero some = absurd (some refl)
latest_passes passes (suc n) some = passes_by passes n (passes (suc n)) refl (latest_passes passes n) some
