-- The blocks that the accesses of a task touch, by their numbers in a Plan.
use Rattle.std.proofs.Common.{◌≡◌, ◌⊎◌, ◌↔◌, ℕ, zero, suc, ◌+◌, ◌-◌, ◌^◌, ◌<◌, ◌≤◌, List, [], ◌∷◌, ◌++◌, length, get_or, take, inl, inr, ⊎_elim, sym, ◌∙◌, subst, refl, arith, add-one}
use Rattle.std.specs.List.{All, Any, Contains}
use Rattle.std.specs.List.Sorted.{IsStrictlyIncreasing}
use Rattle.std.proofs.lemmas.Bool.{cases_lt}
use Rattle.std.proofs.lemmas.List.{get_or_append_left, length-append, take_all, take_more}
use Rattle.std.proofs.lemmas.List.Elements.{Contains-get_or}
use Rattle.std.proofs.Math.Seq.{get_or-append_seam}
use Rattle.dd_blocks.specs.declared.access_row.AccessRow.{AccessRow}
use Rattle.dd_blocks.specs.declared.plan.Plan.{Plan}
use Rattle.dd_blocks.specs.declared.task_row.TaskRow.{TaskRow}
use Rattle.dd_blocks.specs.Charges.{AreTouched, Touches, block_with}
use Rattle.dd_blocks.specs.Numbered.{IsNumberIn, array_row, no_array}
use Rattle.dd_blocks.specs.Tasks.{shape_in}
use Rattle.dd_blocks.specs.WellFormed.{HasSmallEdges}
use Rattle.dd_blocks.proofs.GridLemmas.{block_within}
use Rattle.dd_blocks.specs.OfPlan.{HasBlocks, IsOfPlan}
use Rattle.dd_touch.specs.Touching.{Adds, AreOf, HasSmallNumbers, HoldsSome}
use Rattle.dd_views.proofs.WithinLemmas.{element_within}

-- some element of a list with one more
any_before : (P : AccessRow → Type 0) (xs : List AccessRow) (y : AccessRow) → Any P xs → Any P (xs ++ y ∷ [])
any_before P xs y some = (
  some.0,
  some.1,
  omega (arith, some.2, length-append xs (y ∷ [])),
  get_or_append_left xs (y ∷ []) some.1 some.0 some.2 ∙ some.3,
  some.4,
)

any_last : (P : AccessRow → Type 0) (xs : List AccessRow) (y : AccessRow) → P y → Any P (xs ++ y ∷ [])
any_last P xs y p = (length xs, y, omega (arith, length-append xs (y ∷ [])), get_or-append_seam xs y [] y, p)

any_cases : (P : AccessRow → Type 0) (xs : List AccessRow) (y : AccessRow) → Any P (xs ++ y ∷ []) → Any P xs ⊎ P y
any_cases P xs y some = ⊎_elim
    (λ (lt : some.0 < length xs). inl (some.0, some.1, lt, sym (get_or_append_left xs (y ∷ []) some.1 some.0 lt) ∙ some.3, some.4))
    (λ (ge : length xs ≤ some.0).
    let last : some.0 ≡ length xs = omega (arith, some.2, length-append xs (y ∷ [])) in
    let is : get_or (xs ++ y ∷ []) (length xs) some.1 ≡ some.1 = subst (λ (k : ℕ). get_or (xs ++ y ∷ []) k some.1 ≡ some.1) last some.3 in
    inr (subst P (sym is ∙ get_or-append_seam xs y [] some.1) some.4))
    (cases_lt some.0 (length xs))

of_push : (plan : Plan) (accesses : List AccessRow) (a : AccessRow) (old new : List ℕ) → AreOf plan accesses old → Adds (HoldsSome plan a) old new → AreOf plan (accesses ++ a ∷ []) new
of_push plan accesses a old new so_far adds = record {
  exact = λ n.
      let P : AccessRow → Type 0 = λ (x : AccessRow). HoldsSome plan x n in (
        (λ has. ⊎_elim
            (λ (before : Contains old n). any_before P accesses a ((so_far.exact n).0 before))
            (λ (here : HoldsSome plan a n). any_last P accesses a here)
            ((adds.exact n).0 has)),
        (λ some. (adds.exact n).1 (⊎_elim
            (λ (before : Any P accesses). inl ((so_far.exact n).1 before))
            (λ (here : P a). inr here)
            (any_cases P accesses a some))),
      );
}

pub of_none : (plan : Plan) → AreOf plan [] []
of_none plan = record { exact = λ n. ((λ has. absurd (omega (arith, has.1))), (λ some. absurd (omega (arith, some.2)))) }

pub of_more : (plan : Plan) (accesses : List AccessRow) (i : ℕ) (d : AccessRow) (old new : List ℕ) → i < length accesses → AreOf plan (take i accesses) old → Adds (HoldsSome plan (get_or accesses i d)) old new → AreOf plan (take (i + 1) accesses) new
of_more plan accesses i d old new lt so_far adds = rw (take_more accesses i d lt) (of_push plan (take i accesses) (get_or accesses i d) old new so_far adds)

pub of_all : (plan : Plan) (accesses : List AccessRow) (i : ℕ) (found : List ℕ) → length accesses ≤ i → AreOf plan (take i accesses) found → AreOf plan accesses found
of_all plan accesses i found le so_far = subst (λ (xs : List AccessRow). AreOf plan xs found) (take_all i accesses le) so_far

-- what the accesses of a task touch
holds_touches : (plan : Plan) (task : TaskRow) (n : ℕ) → Any (λ (a : AccessRow). HoldsSome plan a n) task.accesses → Touches plan task n
holds_touches plan task n some = (some.1.view.array, some.4.0, (some.0, some.1, some.2, some.3, (refl, some.4.1)), some.4.2)

touches_holds : (plan : Plan) (task : TaskRow) (n : ℕ) → Touches plan task n → Any (λ (a : AccessRow). HoldsSome plan a n) task.accesses
touches_holds plan task n touch =
    let uses = touch.2 in (
      uses.0,
      uses.1,
      uses.2,
      uses.3,
      (touch.1, uses.4.1, subst (λ (array : ℕ). block_with plan array touch.1 ≡ n) (sym uses.4.0) touch.3),
    )

pub touched_are : (plan : Plan) (accesses : List AccessRow) (found rising : List ℕ) (task : TaskRow) → AreOf plan accesses found → IsStrictlyIncreasing rising → ((n : ℕ) → Contains rising n ↔ Contains found n) → task.accesses ≡ accesses → AreTouched plan task rising
touched_are plan accesses found rising task are rises same of = record {
  rising = rises;
  exact = λ n. (
    (λ has. holds_touches plan task n (subst (λ (xs : List AccessRow). Any (λ (a : AccessRow). HoldsSome plan a n) xs) (sym of) ((are.exact n).0 ((same n).0 has)))),
    (λ touch. (same n).1 ((are.exact n).1 (subst (λ (xs : List AccessRow). Any (λ (a : AccessRow). HoldsSome plan a n) xs) of (touches_holds plan task n touch)))),
  );
}

-- the row of an array by its number
blocks_at : (plan : Plan) (n : ℕ) → All (HasBlocks plan) plan.arrays → IsNumberIn plan.arrays n → HasBlocks plan (array_row plan n)
blocks_at plan zero all number = absurd (omega (arith, number.0))
blocks_at plan (suc n) all number = all n no_array (omega (arith, number.1))

edges_at : (plan : Plan) (n : ℕ) → All HasSmallEdges plan.arrays → IsNumberIn plan.arrays n → HasSmallEdges (array_row plan n)
edges_at plan zero all number = absurd (omega (arith, number.0))
edges_at plan (suc n) all number = all n no_array (omega (arith, number.1))

pub small_numbers : (plan : Plan) (n : ℕ) → All (HasBlocks plan) plan.arrays → All HasSmallEdges plan.arrays → length plan.blocks < 2 ^ 32 → IsNumberIn plan.arrays n → HasSmallNumbers (array_row plan n)
small_numbers plan n arrays edges few number =
    let blocks = blocks_at plan n arrays number in
    let small = edges_at plan n edges number in
    record { grid = blocks.grid; rows = omega (arith, small.rows.1); cols = omega (arith, small.cols.1); small = omega (arith, blocks.last) }

-- the numbers are those of blocks
number_is : (plan : Plan) (a : AccessRow) (n : ℕ) → All (HasBlocks plan) plan.arrays → IsOfPlan plan a → HoldsSome plan a n → IsNumberIn plan.blocks n
number_is plan a n arrays of holds =
    let blocks = blocks_at plan a.view.array arrays of.array in
    let within = element_within (shape_in (array_row plan a.view.array)) a.view holds.0 of.view holds.1 in
    let below = block_within (array_row plan a.view.array).grid holds.0 blocks.grid within in
    (omega (arith, holds.2, blocks.first), omega (arith, holds.2, blocks.last, below))

pub numbers_are : (plan : Plan) (accesses : List AccessRow) (found rising : List ℕ) → All (HasBlocks plan) plan.arrays → All (IsOfPlan plan) accesses → AreOf plan accesses found → ((n : ℕ) → Contains rising n ↔ Contains found n) → All (IsNumberIn plan.blocks) rising
numbers_are plan accesses found rising arrays of are same k d lt =
    let some = (are.exact (get_or rising k d)).0 ((same (get_or rising k d)).0 (Contains-get_or rising k d lt)) in
    let access : IsOfPlan plan some.1 = subst (IsOfPlan plan) some.3 (of some.0 some.1 some.2) in
    number_is plan some.1 (get_or rising k d) arrays access some.4

-- numbers that rise from 1 on are at most as many as the last one
rises_above : (xs : List ℕ) → IsStrictlyIncreasing xs → All (λ x. 1 ≤ x) xs → (k : ℕ) → k < length xs → k + 1 ≤ get_or xs k 0
rises_above xs rising some zero lt = some 0 0 lt
rises_above xs rising some (suc k) lt =
    let before = rises_above xs rising some k (omega arith) in
    let next : get_or xs k 0 < get_or xs (suc k) 0 = rw add-one at (rising k (omega arith)) in
    omega (arith, before, next)

pub rising_few : {Row : Type 0} (rows : List Row) (xs : List ℕ) → IsStrictlyIncreasing xs → All (IsNumberIn rows) xs → length xs ≤ length rows
rising_few rows xs rising numbers = ⊎_elim
    (λ (lt : length rows < length xs).
    let last : length xs - 1 < length xs = omega arith in
    let above = rises_above xs rising (λ k d within. (numbers k d within).0) (length xs - 1) last in
    absurd (omega (arith, above, (numbers (length xs - 1) 0 last).1)))
    (λ (le : length xs ≤ length rows). le)
    (cases_lt (length rows) (length xs))
