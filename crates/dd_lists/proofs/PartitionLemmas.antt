-- The part of a list that passes a test, where it stands together.
use Rattle.std.proofs.Common.{◌≡◌, ℕ, ◌+◌, ◌-◌, ◌<◌, ◌≤◌, Bool, true, false, eqb, leb, ltb, List, [], ◌++◌, length, get_or, take, drop, sym, ap, ◌∙◌, arith}
use Rattle.std.specs.List.{filter}
use Rattle.std.specs.List.Sorted.{IsNonDecreasingBy, IsPartitionPoint}
use Rattle.std.proofs.lemmas.Bool.Decides.{nat_tests}
use Rattle.std.proofs.lemmas.List.{append-nil, get_or-drop, get_or-take, length-drop, length-take, take-append-drop}
use Rattle.std.proofs.lemmas.List.Elements.{filter-append}
use Rattle.dd_lists.proofs.ListsLemmas.{filter_all, filter_none}

less : (a key : ℕ) → ltb a key ≡ true → eqb a key ≡ false
less a key lt = grind (arith, nat_tests)

more : (a key : ℕ) → leb a key ≡ false → eqb a key ≡ false
more a key gt = grind (arith, nat_tests)

same : (a key : ℕ) → ltb a key ≡ false → leb a key ≡ true → eqb a key ≡ true
same a key ge le = grind (arith, nat_tests)

-- those before the first place have a smaller key, and those behind the second a greater one
pub run_is : {X : Type 0} (n : X → ℕ) (key first count : ℕ) (xs rest : List X) → rest ≡ drop first xs
    → IsPartitionPoint (λ x. ltb (n x) key ≡ true) (λ x. ltb (n x) key ≡ false) xs first
    → IsPartitionPoint (λ x. leb (n x) key ≡ true) (λ x. leb (n x) key ≡ false) rest count
    → count ≤ length rest
    → take count rest ≡ filter (λ x. eqb (n x) key) xs
run_is {X = X} n key first count xs rest is below within few =
    let p : X → Bool = λ x. eqb (n x) key in
    let front : filter p (take first xs) ≡ [] =
    filter_none p (take first xs)
    (λ k d lt.
    let inside : k < first = omega (arith, lt, length-take first xs) in
    let at = get_or-take first xs k d inside in
    ap p at ∙ less (n (get_or xs k d)) key (below.0 k d (omega arith) inside)) in
    let middle : filter p (take count rest) ≡ take count rest =
    filter_all p (take count rest)
    (λ k d lt.
    let inside : k < count = omega (arith, lt, length-take count rest) in
    let here : k < length xs - first = omega (arith, inside, few, ap length is, length-drop first xs) in
    let in_rest = get_or-take count rest k d inside in
    let in_all = ap (λ (ys : List X). get_or ys k d) is ∙ get_or-drop first xs k d in
    let high = ap (λ (x : X). ltb (n x) key) in_all ∙ below.1 (first + k) d (omega arith) (omega arith) in
    ap p in_rest ∙ same (n (get_or rest k d)) key high (within.0 k d (omega arith) inside)) in
    let back : filter p (drop count rest) ≡ [] =
    filter_none p (drop count rest)
    (λ k d lt.
    let inside : count + k < length rest = omega (arith, lt, length-drop count rest) in
    let at = get_or-drop count rest k d in
    ap p at ∙ more (n (get_or rest (count + k) d)) key (within.1 (count + k) d (omega arith) inside)) in
    let rest_is : filter p rest ≡ take count rest =
    ap (filter p) (sym (take-append-drop count rest)) ∙ filter-append p (take count rest) (drop count rest)
    ∙ ap (λ (ys : List X). filter p (take count rest) ++ ys) back ∙ append-nil (filter p (take count rest)) ∙ middle in
    sym
    (ap (filter p) (sym (take-append-drop first xs)) ∙ filter-append p (take first xs) (drop first xs)
    ∙ ap (λ (ys : List X). ys ++ filter p (drop first xs)) front ∙ ap (filter p) (sym is) ∙ rest_is)

pub rises_rest : {X : Type 0} (n : X → ℕ) (first : ℕ) (xs rest : List X) → rest ≡ drop first xs → IsNonDecreasingBy n xs → IsNonDecreasingBy n rest
rises_rest {X = X} n first xs rest is rises i j d le lt =
    let inside : first + j < length xs = omega (arith, lt, ap length is, length-drop first xs) in
    let up = rises (first + i) (first + j) d (omega arith) inside in
    let at_i = ap n (ap (λ (ys : List X). get_or ys i d) is ∙ get_or-drop first xs i d) in
    let at_j = ap n (ap (λ (ys : List X). get_or ys j d) is ∙ get_or-drop first xs j d) in
    omega (arith, up, at_i, at_j)
