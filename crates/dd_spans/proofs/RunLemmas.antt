-- Runs of sorted numbers.
use Rattle.std.proofs.Common.{◌≡◌, ◌≢◌, ℕ, ◌+◌, ◌-◌, ◌^◌, ◌<◌, ◌≤◌, List, [], ◌++◌, length, get_or, take, drop, sym, ap, ◌∙◌, subst, ⊎_elim, ◌⊎◌, arith}
use Rattle.std.proofs.Math.Seq.{drop-append_seam, take-length}
use Rattle.std.proofs.lemmas.List.{length-drop}
use Rattle.std.specs.List.{All, Contains, range_with_len}
use Rattle.std.specs.List.Sorted.{IsStrictlyIncreasing}
use Rattle.std.proofs.lemmas.Bool.{cases_lt, cases_order}
use Rattle.std.proofs.lemmas.List.Elements.{All-contains, Contains-append_cases, Contains-append_left, Contains-append_right, Contains-get_or}
use Rattle.std.proofs.lemmas.List.FromFn.{get_or-range_with_len, length-range_with_len}
use Rattle.dd_spans.specs.Numbers.{numbers_from}
use Rattle.dd_spans.specs.NextRun.{IsNextRun}
use Rattle.dd_spans.proofs.RisingLemmas.{rises_append, rises_by_places}
use Rattle.dd_spans.proofs.MembersLemmas.{all_from_contains, contains_none, place_of, same_from_contains}
use Rattle.dd_spans.proofs.NumbersLemmas.{contains_from, from_contains, from_rises, from_zero}

-- what begins a list of sorted numbers, as a loop over its places has it
pub record IsRun (ns : List ℕ) (count : ℕ) : Type 0 where
  pub some : 0 < count
  pub within : count ≤ length ns
  pub run : (k : ℕ) → k < count → get_or ns k 0 ≡ get_or ns 0 0 + k
  pub ends : count < length ns → get_or ns count 0 ≢ get_or ns 0 0 + count

-- numbers that rise to the last without a gap follow each other
pub run_of_all : (ns : List ℕ) → IsStrictlyIncreasing ns → 0 < length ns → get_or ns (length ns - 1) 0 ≡ get_or ns 0 0 + (length ns - 1)
    → (k : ℕ) → k < length ns → get_or ns k 0 ≡ get_or ns 0 0 + k
run_of_all ns rises some last k lt =
    let low : get_or ns 0 0 + k ≤ get_or ns (0 + k) 0 = rises_by_places ns rises 0 k (omega arith) in
    let high : get_or ns k 0 + (length ns - 1 - k) ≤ get_or ns (k + (length ns - 1 - k)) 0 = rises_by_places ns rises k (length ns - 1 - k) (omega arith) in
    let zero_at : get_or ns (0 + k) 0 ≡ get_or ns k 0 = ap (λ (i : ℕ). get_or ns i 0) (omega arith) in
    let last_at : get_or ns (k + (length ns - 1 - k)) 0 ≡ get_or ns (length ns - 1) 0 = ap (λ (i : ℕ). get_or ns i 0) (omega arith) in
    omega (arith, low, high, zero_at, last_at, last)

run_ends : (ns : List ℕ) (count : ℕ) → IsStrictlyIncreasing ns → IsRun ns count → ¬ Contains ns (get_or ns 0 0 + count)
run_ends ns count rises run has =
    let place = place_of ns (get_or ns 0 0 + count) has in
    let k = place.0 in
    ⊎_elim
    (λ (before : k < count). absurd (omega (arith, run.run k before, place.2)))
    (λ (behind : count ≤ k).
    let differs = run.ends (omega (arith, place.1)) in
    let far = rises_by_places ns rises 0 count (omega (arith, place.1)) in
    let later : (get_or ns count 0 + (k - count)) ≤ get_or ns (count + (k - count)) 0 = rises_by_places ns rises count (k - count) (omega (arith, place.1)) in
    let at : count + (k - count) ≡ k = omega arith in
    let same : get_or ns (count + (k - count)) 0 ≡ get_or ns k 0 = ap (λ (i : ℕ). get_or ns i 0) at in
    let zero_at : get_or ns (0 + count) 0 ≡ get_or ns count 0 = ap (λ (i : ℕ). get_or ns i 0) (omega arith) in
    ⊎_elim
    (λ (equal : get_or ns count 0 ≡ get_or ns 0 0 + count). absurd (differs equal))
    (λ (apart : (get_or ns count 0 < get_or ns 0 0 + count) ⊎ (get_or ns 0 0 + count < get_or ns count 0)). ⊎_elim
    (λ (less : get_or ns count 0 < get_or ns 0 0 + count). absurd (omega (arith, less, far, zero_at)))
    (λ (more : get_or ns 0 0 + count < get_or ns count 0). absurd (omega (arith, more, later, same, place.2)))
    apart)
    (cases_order (get_or ns count 0) (get_or ns 0 0 + count)))
    (cases_lt k count)

-- the run that begins what is left of a list from a number on
pub next_run : (ns : List ℕ) (from count : ℕ) → IsStrictlyIncreasing ns → All (λ n. n < 2 ^ 64 - 1) ns → IsRun (numbers_from from ns) count → IsNextRun ns from (get_or (numbers_from from ns) 0 0) count
next_run ns from count rises below run =
    let left = numbers_from from ns in
    let sorted = from_rises from ns rises in
    let first = get_or left 0 0 in
    let here : (k : ℕ) → k < count → Contains left (first + k) = λ k lt. subst (Contains left) (run.run k lt) (Contains-get_or left k 0 (omega (arith, run.within))) in
    record {
      reached = (contains_from from ns first (Contains-get_or left 0 0 (omega (arith, run.some, run.within)))).1;
      skipped = λ n le lt has.
          let place = place_of left n (from_contains from ns n has le) in
          omega (arith, rises_by_places left sorted 0 place.0 (omega (arith, place.1)), ap (λ (i : ℕ). get_or left i 0) (let e : 0 + place.0 ≡ place.0 = omega arith in e), place.2, lt);
      some = run.some;
      run = λ n le lt.
          let e : first + (n - first) ≡ n = omega arith in
          (contains_from from ns n (subst (Contains left) e (here (n - first) (omega arith)))).0;
      ends = λ has. run_ends left count sorted run (from_contains from ns (first + count) has (omega (arith, (contains_from from ns first (Contains-get_or left 0 0 (omega (arith, run.some, run.within)))).1)));
      fits =
          let last = All-contains (λ n. n < 2 ^ 64 - 1) ns (first + (count - 1)) below (contains_from from ns (first + (count - 1)) (here (count - 1) (omega (arith, run.some)))).0 in
          omega (arith, last, run.some);
    }

-- where the first number is known by another name
pub next_run_of : (ns left : List ℕ) (from first count : ℕ) → IsStrictlyIncreasing ns → All (λ n. n < 2 ^ 64 - 1) ns → left ≡ numbers_from from ns → first ≡ get_or left 0 0 → IsRun left count → IsNextRun ns from first count
next_run_of ns left from first count rises below is at run =
    let named : get_or (numbers_from from ns) 0 0 ≡ first = sym (at ∙ ap (λ (xs : List ℕ). get_or xs 0 0) is) in
    subst (λ (n : ℕ). IsNextRun ns from n count) named (next_run ns from count rises below (subst (λ (xs : List ℕ). IsRun xs count) is run))

-- ---- what is left

pub contains_range : (a n m : ℕ) → Contains (range_with_len a n) m → (a ≤ m) × (m < a + n)
contains_range a n m has =
    let place = place_of (range_with_len a n) m has in
    let lt : place.0 < n = omega (arith, place.1, length-range_with_len a n) in
    let is = get_or-range_with_len a n place.0 0 lt in
    (omega (arith, is, place.2), omega (arith, is, place.2, lt))

pub range_contains : (a n m : ℕ) → a ≤ m → m < a + n → Contains (range_with_len a n) m
range_contains a n m le lt =
    let within : m - a < length (range_with_len a n) = omega (arith, length-range_with_len a n) in
    let at : get_or (range_with_len a n) (m - a) m ≡ m = get_or-range_with_len a n (m - a) m (omega arith) ∙ omega arith in
    (m - a, within, at)

pub range_rises : (a n : ℕ) → IsStrictlyIncreasing (range_with_len a n)
range_rises a n k lt =
    let size = length-range_with_len a n in
    omega (arith, get_or-range_with_len a n k 0 (omega (arith, size, lt)), get_or-range_with_len a n (k + 1) 0 (omega (arith, size, lt)))

pub left_of_run : (ns : List ℕ) (from first count : ℕ) → IsStrictlyIncreasing ns → IsNextRun ns from first count
    → numbers_from from ns ≡ range_with_len first count ++ numbers_from (first + count) ns
left_of_run ns from first count rises run =
    let range = range_with_len first count in
    let rest = numbers_from (first + count) ns in
    same_from_contains (numbers_from from ns) (range ++ rest) (from_rises from ns rises)
    (rises_append range rest (range_rises first count) (from_rises (first + count) ns rises)
    (all_from_contains (λ m. All (λ x. m < x) rest) range (λ m has.
    let lt = (contains_range first count m has).1 in
    all_from_contains (λ x. m < x) rest (λ x far. let le = (contains_from (first + count) ns x far).1 in omega arith))))
    (λ n has.
    let both = contains_from from ns n has in
    ⊎_elim
    (λ (lt : n < first). absurd (run.skipped n both.1 lt both.0))
    (λ (le : first ≤ n). ⊎_elim
    (λ (inside : n < first + count). Contains-append_left range rest n (range_contains first count n le inside))
    (λ (behind : first + count ≤ n). Contains-append_right range rest n (from_contains (first + count) ns n both.0 behind))
    (cases_lt n (first + count)))
    (cases_lt n first))
    (λ n has. ⊎_elim
    (λ (inside : Contains range n).
    let both = contains_range first count n inside in
    from_contains from ns n (run.run n both.0 both.1) (omega (arith, both.0, run.reached)))
    (λ (behind : Contains rest n).
    let both = contains_from (first + count) ns n behind in
    from_contains from ns n both.0 (omega (arith, both.1, run.reached)))
    (Contains-append_cases range rest n has))

-- the same of all numbers, where what is left is a slice
pub rest_of_run : (ns left : List ℕ) (first count : ℕ) → IsStrictlyIncreasing ns → left ≡ ns → IsNextRun ns 0 first count
    → ns ≡ range_with_len first count ++ take (length left - count) (drop count left)
rest_of_run ns left first count rises same run =
    let range = range_with_len first count in
    let rest = numbers_from (first + count) ns in
    let whole : ns ≡ range ++ rest = sym (from_zero ns) ∙ left_of_run ns 0 first count rises run in
    let gone : drop count ns ≡ rest = ap (drop count) whole ∙ ap (λ (n : ℕ). drop n (range ++ rest)) (sym (length-range_with_len first count)) ∙ drop-append_seam range rest in
    let all : take (length ns - count) (drop count ns) ≡ drop count ns = ap (λ (n : ℕ). take n (drop count ns)) (sym (length-drop count ns)) ∙ take-length (drop count ns) in
    subst (λ (l : List ℕ). ns ≡ range ++ take (length l - count) (drop count l)) (sym same) (whole ∙ ap (λ (l : List ℕ). range ++ l) (sym gone ∙ sym all))

-- nothing is left where no number is so large
pub none_left : (ns : List ℕ) (from : ℕ) → numbers_from from ns ≡ [] → All (λ n. n < from) ns
none_left ns from none =
    all_from_contains (λ n. n < from) ns (λ n has. ⊎_elim
    (λ (lt : n < from). lt)
    (λ (le : from ≤ n). absurd (contains_none n (subst (λ (xs : List ℕ). Contains xs n) none (from_contains from ns n has le))))
    (cases_lt n from))

pub some_left : (ns : List ℕ) (from first count : ℕ) → IsNextRun ns from first count → ¬ All (λ n. n < from) ns
some_left ns from first count run all =
    let lt = All-contains (λ n. n < from) ns first all (run.run first (omega arith) (omega (arith, run.some))) in
    omega (arith, lt, run.reached)

-- numbers that follow each other and end below 2^64 are below 2^64 - 1
pub run_below : (first count : ℕ) → first + count < 2 ^ 64 → All (λ n. n < 2 ^ 64 - 1) (range_with_len first count)
run_below first count fits k d lt =
    let long = length-range_with_len first count in
    omega (arith, fits, lt, long, get_or-range_with_len first count k d (omega (arith, lt, long)))
