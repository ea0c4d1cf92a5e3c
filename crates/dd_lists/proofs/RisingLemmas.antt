-- Numbers that rise.
use Rattle.std.proofs.Common.{◌≡◌, ℕ, ◌+◌, ◌<◌, ◌≤◌, List, [], ◌∷◌, ◌++◌, length, get_or, ap, ◌∙◌, arith, ⊎_elim}
use Rattle.std.specs.List.{All}
use Rattle.std.specs.List.Sorted.{IsStrictlyIncreasing}
use Rattle.std.proofs.lemmas.Bool.{cases_lt}
use Rattle.std.proofs.lemmas.List.{length-append}
use Rattle.std.proofs.Math.ListN.{get_or-append}
use Rattle.std.proofs.Math.Seq.{get_or-append_seam}

-- one more number, which is greater than all others
pub rising_push : (xs : List ℕ) (y : ℕ) → IsStrictlyIncreasing xs → All (λ x. x < y) xs → IsStrictlyIncreasing (xs ++ y ∷ [])
rising_push xs y rise low k lt =
    let long = length-append xs (y ∷ []) in
    let few : k < length xs = omega (arith, lt, long) in
    let left = get_or-append xs (y ∷ []) 0 k few in
    ⊎_elim
    (λ (inside : k + 1 < length xs). omega (arith, left, get_or-append xs (y ∷ []) 0 (k + 1) inside, rise k inside))
    (λ (last : length xs ≤ k + 1).
    let seam : k + 1 ≡ length xs = omega (arith, few) in
    let right = ap (λ (i : ℕ). get_or (xs ++ y ∷ []) i 0) seam ∙ get_or-append_seam xs y [] 0 in
    omega (arith, left, right, low k 0 few))
    (cases_lt (k + 1) (length xs))
