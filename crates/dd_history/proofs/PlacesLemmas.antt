-- Where a place of a block stands among all elements, and the places that pass a test.
use Rattle.std.proofs.Common.{◌≡◌, ℕ, ◌+◌, ◌-◌, ◌<◌, ◌≤◌, Bool, true, false, filter, [], ◌∷◌, ◌++◌, refl, ap, ◌∙◌, arith}
use Rattle.std.specs.List.{range_with_len}
use Rattle.std.proofs.lemmas.List.{append-nil}
use Rattle.std.proofs.lemmas.List.Elements.{filter-append}
use Rattle.dd_lists.proofs.SumsLemmas.{range-add}
use Rattle.dd_blocks.specs.declared.plan.Plan.{Plan}
use Rattle.dd_blocks.specs.Homes.{home_in_region}
use Rattle.dd_blocks.specs.Layout.{elements_in}
use Rattle.dd_blocks.specs.Numbered.{IsNumberIn, block_row}
use Rattle.dd_blocks.specs.PlanElements.{element_of, number_of}
use Rattle.dd_blocks.specs.WellFormed.{IsWellFormed}
use Rattle.dd_blocks.proofs.PlanElementsLemmas.{element_of_place, number_of_element}
use Rattle.dd_meaning.specs.Moves.{home_of}

pub place_within : (plan : Plan) (block place : ℕ) → IsWellFormed plan → IsNumberIn plan.blocks block → place < (block_row plan block).size
    → number_of plan (element_of plan block place) < elements_in plan.arrays
place_within plan block place well is lt =
    (number_of_element plan well.layout (element_of plan block place) (element_of plan block place) (element_of_place plan well.layout block place is lt).is).few

pub home_of_place : (plan : Plan) (region block place : ℕ) → IsWellFormed plan → IsNumberIn plan.blocks block → place < (block_row plan block).size
    → home_of plan region (element_of plan block place) ≡ home_in_region plan region block
home_of_place plan region block place well is lt = ap (home_in_region plan region) (element_of_place plan well.layout block place is lt).block_is

-- one place more
filter_more : (p : ℕ → Bool) (first place : ℕ) → first ≤ place → filter p (range_with_len first (place + 1 - first)) ≡ filter p (range_with_len first (place - first)) ++ filter p (place ∷ [])
filter_more p first place le =
    let more : place + 1 - first ≡ (place - first) + 1 = omega (arith, le) in
    let at : first + (place - first) ≡ place = omega (arith, le) in
    ap (λ (n : ℕ). filter p (range_with_len first n)) more
    ∙ ap (filter p) (range-add first (place - first) 1)
    ∙ filter-append p (range_with_len first (place - first)) (range_with_len (first + (place - first)) 1)
    ∙ ap (λ (x : ℕ). filter p (range_with_len first (place - first)) ++ filter p (x ∷ [])) at

pub filter_passed : (p : ℕ → Bool) (first place : ℕ) → first ≤ place → p place ≡ true → filter p (range_with_len first (place + 1 - first)) ≡ filter p (range_with_len first (place - first)) ++ place ∷ []
filter_passed p first place le good = filter_more p first place le ∙ rw good refl

pub filter_failed : (p : ℕ → Bool) (first place : ℕ) → first ≤ place → p place ≡ false → filter p (range_with_len first (place + 1 - first)) ≡ filter p (range_with_len first (place - first))
filter_failed p first place le bad = filter_more p first place le ∙ rw (bad, append-nil) refl
