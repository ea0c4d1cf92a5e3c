-- Where sorted numbers are cut, and what is found there.
use Rattle.std.proofs.Common.{◌≡◌, ℕ, ◌+◌, ◌<◌, ◌≤◌, true, false, eqb, ltb, List, [], ◌∷◌, length, get_or, drop, Result, Ok, Err, ◌↔◌, IsTrue, refl, ◌∙◌, subst, ⊎_elim, arith}
use Rattle.std.specs.List.{All, Contains}
use Rattle.std.specs.List.Sorted.{IsBinarySearchResult, IsNonDecreasing, IsPartitionPoint, IsStrictlyIncreasing}
use Rattle.std.specs.Ordering.{nat_cmp}
use Rattle.std.specs.Result.{is_ok}
use Rattle.std.proofs.lemmas.Bool.{cases_lt, false≢true, ltb-false, ltb-true}
use Rattle.std.proofs.lemmas.Bool.Decides.{Decides-eqb, Decides-like, same_from_decides}
use Rattle.std.proofs.lemmas.List.{get_or-drop, get_or-take, get_or_default, length-drop, length-take}
use Rattle.std.proofs.lemmas.List.Elements.{All-contains, All-head}
use Rattle.std.proofs.lemmas.List.Sorted.{searched}
use Rattle.std.proofs.lemmas.Map.Keys.{non_decreasing_from_sorted, sorted_from_strictly_increasing}
use Rattle.dd_spans.specs.Numbers.{is_among, numbers_from}
use Rattle.dd_spans.proofs.RisingLemmas.{above_head, rises_by_places}
use Rattle.dd_spans.proofs.MembersLemmas.{contains_cases, contains_head, is_among_decides, place_of}
use Rattle.dd_spans.proofs.NumbersLemmas.{cut_from}

pub rises_weakly : (ns : List ℕ) → IsStrictlyIncreasing ns → IsNonDecreasing ns
rises_weakly ns rises = non_decreasing_from_sorted ns (sorted_from_strictly_increasing ns rises)

-- behind a number that is at least n, all are
pub least_behind : (ns : List ℕ) (n c : ℕ) → IsStrictlyIncreasing ns → n ≤ get_or ns c 0 → All (λ m. n ≤ m) (drop c ns)
least_behind ns n c rises least k d lt =
    let within : c + k < length ns = omega (arith, length-drop c ns, lt) in
    omega (arith, least, rises_by_places ns rises c k within, get_or-drop c ns k d, get_or_default ns (c + k) d 0 within)

-- the cut that a binary search finds
pub searched_from : (ns : List ℕ) (n c : ℕ) → c ≤ length ns → IsPartitionPoint (λ m. ltb m n ≡ true) (λ m. ltb m n ≡ false) ns c → drop c ns ≡ numbers_from n ns
searched_from ns n c within cut =
    cut_from n ns c
    (λ k d lt.
    let here : k < c = omega (arith, length-take c ns, lt) in
    omega (arith, get_or-take c ns k d here, ltb-true (get_or ns k d) n (cut.0 k d (omega arith) here)))
    (λ k d lt.
    let here : c + k < length ns = omega (arith, length-drop c ns, lt) in
    omega (arith, get_or-drop c ns k d, ltb-false (get_or ns (c + k) d) n (cut.1 (c + k) d (omega arith) here)))

-- where no number is below n, n is the first or isn't there
pub first_is : (m : ℕ) (ns : List ℕ) (n : ℕ) → IsStrictlyIncreasing (m ∷ ns) → All (λ x. n ≤ x) (m ∷ ns) → eqb m n ≡ is_among (m ∷ ns) n
first_is m ns n rises least =
    same_from_decides (eqb m n) (is_among (m ∷ ns) n)
    (Decides-like (eqb m n)
    (λ (same : m ≡ n). subst (λ (x : ℕ). Contains (m ∷ ns) x) same (contains_head m ns))
    (λ has. ⊎_elim
    (λ (same : m ≡ n). same)
    (λ (behind : Contains ns n).
    let gt = All-contains (λ x. m < x) ns n (above_head m ns rises) behind in
    let le = All-head (λ x. n ≤ x) m ns least in
    absurd (omega arith))
    (contains_cases m ns n has))
    (Decides-eqb m n))
    (is_among_decides (m ∷ ns) n)

pub begins : (ns : List ℕ) (n : ℕ) → IsStrictlyIncreasing ns → All (λ x. n ≤ x) ns → 0 < length ns → eqb (get_or ns 0 0) n ≡ is_among ns n
begins [] n rises least some = absurd (omega arith)
begins (m ∷ ns) n rises least some = first_is m ns n rises least

-- what a binary search for n finds
pub found : (ns : List ℕ) (n : ℕ) (r : Result ℕ ℕ) → IsStrictlyIncreasing ns → IsBinarySearchResult (λ m. nat_cmp m n) ns r → IsTrue (is_ok r) ↔ Contains ns n
found ns n (Ok i) rises search_result =
    let at = searched ns n (Ok i) search_result (λ j k le lt. rises_weakly ns rises j k 0 le lt) in
    ((λ _. (i, at.0, get_or_default ns i n 0 at.0 ∙ at.1)), (λ _. refl))
found ns n (Err i) rises search_result =
    let at = searched ns n (Err i) search_result (λ j k le lt. rises_weakly ns rises j k 0 le lt) in (
      (λ ok. absurd (false≢true ok)),
      (λ has.
          let place = place_of ns n has in
          ⊎_elim
          (λ (before : place.0 < i). absurd (omega (arith, at.1 place.0 before, place.2)))
          (λ (behind : i ≤ place.0). absurd (omega (arith, at.2 place.0 behind place.1, place.2)))
          (cases_lt place.0 i)),
    )
