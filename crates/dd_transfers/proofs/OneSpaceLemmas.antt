-- Where there is one space, nothing moves.
use Rattle.std.proofs.Common.{◌≡◌, ℕ, Bool, true, false, eqb, cond, not, ◌&&◌, ◌||◌, List, [], ◌∷◌, length, get_or, refl, sym, ap, ◌∙◌, subst, arith, ⊎_elim}
use Rattle.std.specs.List.{All, count_by, list_any, range_with_len}
use Rattle.std.proofs.lemmas.Bool.{cases_eq}
use Rattle.std.proofs.lemmas.Bool.Decides.{nat_tests}
use Rattle.std.proofs.lemmas.List.Elements.{All-head, All-tail, All-weaker}
use Rattle.dd_blocks.specs.declared.plan.Plan.{Plan}
use Rattle.dd_blocks.specs.Numbered.{IsNumberIn}
use Rattle.dd_blocks.specs.PlanElements.{IsElement, elements}
use Rattle.dd_blocks.specs.WellFormed.{IsWellFormed}
use Rattle.dd_blocks.proofs.PlanElementsLemmas.{all_elements}
use Rattle.dd_meaning.specs.Moves.{home_of, is_kept_in, is_read_in, moved, moves_to, place_of, source_of, triples_of, triples_of_version, versions_in}
use Rattle.dd_blocks.specs.Elements.{Element}
use Rattle.dd_meaning.specs.Versions.{tasks_in}
use Rattle.dd_meaning.proofs.RegionTasksLemmas.{region_numbers, place_within}
use Rattle.dd_meaning.proofs.HomesLemmas.{home_within}
use Rattle.dd_lists.proofs.SumsLemmas.{sum_by_zero}

-- what holds of all numbers of a list holds of one that is found among them
found_among : (P : ℕ → Type 0) (v : ℕ) (ts : List ℕ) → All P ts → list_any (λ t. eqb t v) ts ≡ true → P v
found_among P v [] all there = absurd (cc)
found_among P v (t ∷ ts) all there =
    ⊎_elim
    (λ (e : t ≡ v). subst P e (All-head P t ts all))
    (λ (ne : t ≡ v → ⊥).
    let test : eqb t v ≡ false = grind (arith, nat_tests) in
    found_among P v ts (All-tail P t ts all) (sym (ap (λ (b : Bool). b || list_any (λ t. eqb t v) ts) test) ∙ there))
    (cases_eq t v)

source_by : (plan : Plan) → IsWellFormed plan → (region : ℕ) (v home : ℕ) → length plan.spaces ≡ 1 → home ≡ 1 → (b : Bool) → list_any (λ t. eqb t v) (tasks_in plan region) ≡ b
    → cond b (place_of plan v) home ≡ 1
source_by plan well region v home one at_home true there =
    let task = found_among (IsNumberIn plan.tasks) v (tasks_in plan region) (region_numbers plan region) there in
    let place = place_within plan well v task in
    omega (arith, place.0, place.1, one)
source_by plan well region v home one at_home false there = at_home

version_stays : (plan : Plan) → IsWellFormed plan → (region : ℕ) (e : Element) → length plan.spaces ≡ 1 → home_of plan region e ≡ 1 → (v : ℕ) → triples_of_version plan (moves_to plan region e) v ≡ 0
version_stays plan well region e one at_home v =
    let source : source_of plan region e v ≡ 1 = source_by plan well region v (home_of plan region e) one at_home (list_any (λ t. eqb t v) (tasks_in plan region)) refl in
    ap (λ (n : ℕ). count_by (moves_to plan region e v) (range_with_len 1 n)) one
    ∙ ap (λ (s : ℕ). count_by (λ space. not (eqb s space) && (is_read_in plan region e v space || is_kept_in plan region e v space)) (range_with_len 1 1)) source

pub nothing_moves : (plan : Plan) → IsWellFormed plan → (region : ℕ) → length plan.spaces ≡ 1 → moved plan region ≡ 0
nothing_moves plan well region one =
    sum_by_zero (triples_of plan region (moves_to plan region)) (elements plan)
    (All-weaker (IsElement plan) (λ e. triples_of plan region (moves_to plan region) e ≡ 0)
    (λ e is.
    let home = home_within plan well region e is in
    let at_home : home_of plan region e ≡ 1 = omega (arith, home.0, home.1, one) in
    sum_by_zero (triples_of_version plan (moves_to plan region e)) (versions_in plan region e) (λ k d lt. version_stays plan well region e one at_home (get_or (versions_in plan region e) k d)))
    (elements plan) (all_elements plan))
