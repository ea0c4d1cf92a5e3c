-- Lists of numbers in rising order.
use Rattle.std.proofs.Common.{◌≡◌, ℕ, zero, suc, ◌+◌, ◌<◌, ◌≤◌, List, [], ◌∷◌, ◌++◌, length, get_or, drop, ap, arith}
use Rattle.std.specs.List.{All, AllPairs}
use Rattle.std.specs.List.Sorted.{IsStrictlyIncreasing}
use Rattle.std.proofs.lemmas.List.{get_or-drop, length-drop}
use Rattle.std.proofs.lemmas.List.Elements.{All-append, All-head, All-tail}
use Rattle.std.proofs.lemmas.List.Kept.{AllPairs-cons, AllPairs-from_increasing}

pub rises_from_pairs : (ns : List ℕ) → AllPairs (λ x y. x < y) ns → IsStrictlyIncreasing ns
rises_from_pairs ns pairs k lt = pairs k (k + 1) 0 (omega arith) lt

pub rises_nil : IsStrictlyIncreasing []
rises_nil k lt = absurd (omega arith)

-- the first number is below all others
pub above_head : (n : ℕ) (ns : List ℕ) → IsStrictlyIncreasing (n ∷ ns) → All (λ m. n < m) ns
above_head n ns rises k d lt = AllPairs-from_increasing (n ∷ ns) rises 0 (suc k) d (omega arith) (omega arith)

pub rises_tail : (n : ℕ) (ns : List ℕ) → IsStrictlyIncreasing (n ∷ ns) → IsStrictlyIncreasing ns
rises_tail n ns rises =
    rises_from_pairs ns (λ i j d lt within. AllPairs-from_increasing (n ∷ ns) rises (suc i) (suc j) d (omega arith) (omega arith))

pub rises_cons : (n : ℕ) (ns : List ℕ) → All (λ m. n < m) ns → IsStrictlyIncreasing ns → IsStrictlyIncreasing (n ∷ ns)
rises_cons n ns above rises = rises_from_pairs (n ∷ ns) (AllPairs-cons (λ x y. x < y) n ns above (AllPairs-from_increasing ns rises))

-- two rising lists, where each number of the first is below all of the second
pub rises_append : (ms ns : List ℕ) → IsStrictlyIncreasing ms → IsStrictlyIncreasing ns → All (λ m. All (λ n. m < n) ns) ms → IsStrictlyIncreasing (ms ++ ns)
rises_append [] ns first second below = second
rises_append (m ∷ ms) ns first second below =
    let P : ℕ → Type 0 = λ x. All (λ n. x < n) ns in
    rises_cons m (ms ++ ns) (All-append (λ x. m < x) ms ns (above_head m ms first) (All-head P m ms below)) (rises_append ms ns (rises_tail m ms first) second (All-tail P m ms below))

-- sorted numbers rise by at least 1 a place
pub rises_by_places : (ns : List ℕ) → IsStrictlyIncreasing ns → (i k : ℕ) → i + k < length ns → get_or ns i 0 + k ≤ get_or ns (i + k) 0
rises_by_places ns rises i zero lt =
    let at : i + 0 ≡ i = omega arith in
    let same : get_or ns (i + 0) 0 ≡ get_or ns i 0 = ap (λ (j : ℕ). get_or ns j 0) at in
    omega (arith, same)
rises_by_places ns rises i (suc k) lt =
    let before = rises_by_places ns rises i k (omega arith) in
    let step : get_or ns (i + k) 0 < get_or ns (i + suc k) 0 = AllPairs-from_increasing ns rises (i + k) (i + suc k) 0 (omega arith) lt in
    omega (arith, before, step)

pub rises_drop : (i : ℕ) (ns : List ℕ) → IsStrictlyIncreasing ns → IsStrictlyIncreasing (drop i ns)
rises_drop i ns rises =
    rises_from_pairs (drop i ns) (λ j k d lt within.
    let inside : i + k < length ns = omega (arith, length-drop i ns, within) in
    omega (arith, AllPairs-from_increasing ns rises (i + j) (i + k) d (omega arith) inside, get_or-drop i ns j d, get_or-drop i ns k d))
