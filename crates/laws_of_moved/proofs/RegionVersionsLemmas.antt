-- The current version of an element is one that the region knows, and the machine's sources are those of the moves.
use Rattle.std.proofs.Common.{◌≡◌, ◌≢◌, ℕ, ◌-◌, ◌<◌, ◌≤◌, Bool, true, false, cond, ◌&&◌, eqb, leb, get_or, Option, Some, ap, sym, ◌∙◌, subst, inl, inr, ⊎_elim, arith}
use Rattle.std.specs.Prelude.{Contains}
use Rattle.std.specs.List.{list_any, range_with_len}
use Rattle.std.proofs.lemmas.Bool.{and_from, and_parts, cases_Bool, cases_eq, eq-eqb, eqb-true, false_from_ne_true, le-leb, leb-true}
use Rattle.std.proofs.lemmas.List.Folds.{Any-from_list_any, list_all_at, list_any_at}
use Rattle.dd_views.proofs.ListsLemmas.{filter_has, in_filter, in_range, range_has}
use Rattle.dd_blocks.specs.declared.plan.Plan.{Plan}
use Rattle.dd_blocks.specs.Homes.{home_in_region}
use Rattle.dd_blocks.specs.Numbered.{task_row}
use Rattle.dd_blocks.specs.WellFormed.{IsWellFormed}
use Rattle.dd_meaning.specs.Moves.{home_of, place_of, source_of, versions_in}
use Rattle.dd_meaning.specs.Versions.{opening_version, tasks_in, tasks_through}
use Rattle.dd_blocks.specs.Elements.{Element, task_writes}
use Rattle.dd_machine.specs.Delivered.{all_done}
use Rattle.dd_machine.specs.Needed.{source, source_in}
use Rattle.dd_machine.specs.Orderly.{IsOrderly}
use Rattle.dd_machine.specs.Sound.{IsSound}
use Rattle.dd_machine.specs.States.{State}
use Rattle.dd_machine.specs.Tests.{is_done, is_waiting}
use Rattle.dd_machine.specs.Words.{IsOf, IsOneOf, blocks, element, is_of, size, tasks, writes}
use Rattle.laws_of_lives.proofs.ElementsLemmas.{placed}
use Rattle.laws_of_lives.proofs.HomesOfRows.{homes_open}
use Rattle.laws_of_lives.proofs.RegionsLemmas.{task_through, through_task}
use Rattle.laws_of_versions.proofs.ClosedLemmas.{last_is, last_writer_le}
use Rattle.laws_of_versions.proofs.ConflictLemmas.{writer_within}
use Rattle.laws_of_moved.proofs.DeliveredLemmas.{home_at}
use Rattle.laws_of_moved.proofs.OnceLemmas.{Once, once_filter, once_range}
use Rattle.dd_machine.specs.SoundLives.{SoundLives}
use Rattle.dd_machine.specs.SoundVersions.{SoundVersions}
use Rattle.dd_blocks.proofs.NumberedLemmas.{task_names_rows}

-- ---- the tasks of a region

pub of_has : (plan : Plan) (r t : ℕ) → IsOf plan r t → Contains (tasks_in plan r) t
of_has plan r t of = filter_has (λ x. eqb (task_row plan x).region r) (range_with_len 1 (tasks plan)) t (range_has 1 (tasks plan) t of.0.0 (omega (arith, of.0.1))) (eq-eqb (task_row plan t).region r of.1)

pub has_of : (plan : Plan) (r t : ℕ) → Contains (tasks_in plan r) t → IsOf plan r t
has_of plan r t has =
    let f = in_filter (λ x. eqb (task_row plan x).region r) (range_with_len 1 (tasks plan)) t has in
    let range = in_range 1 (tasks plan) t f.0 in
    ((range.0, omega (arith, range.1)), eqb-true (task_row plan t).region r f.1)

pub is_of_from : (plan : Plan) (r t : ℕ) → IsOf plan r t → is_of plan r t ≡ true
is_of_from plan r t of = and_from (leb 1 t && leb t (tasks plan)) (eqb (task_row plan t).region r) (and_from (leb 1 t) (leb t (tasks plan)) (le-leb 1 t of.0.0) (le-leb t (tasks plan) of.0.1)) (eq-eqb (task_row plan t).region r of.1)

pub of_from : (plan : Plan) (r t : ℕ) → is_of plan r t ≡ true → IsOf plan r t
of_from plan r t h =
    let p = and_parts (leb 1 t && leb t (tasks plan)) (eqb (task_row plan t).region r) h in
    let q = and_parts (leb 1 t) (leb t (tasks plan)) p.0 in
    ((leb-true 1 t q.0, leb-true t (tasks plan) q.1), eqb-true (task_row plan t).region r p.1)

pub any_of : (plan : Plan) (r k : ℕ) → list_any (λ t. eqb t k) (tasks_in plan r) ≡ is_of plan r k
any_of plan r k = ⊎_elim
    (λ (h : is_of plan r k ≡ true).
    let here = of_has plan r k (of_from plan r k h) in
    list_any_at (λ t. eqb t k) (tasks_in plan r) here.0 k here.1 (eq-eqb (get_or (tasks_in plan r) here.0 k) k here.2) ∙ sym h)
    (λ (h : is_of plan r k ≡ false).
    false_from_ne_true (list_any (λ t. eqb t k) (tasks_in plan r)) (λ some.
    let any = Any-from_list_any (λ t. eqb t k) (tasks_in plan r) some in
    let same : any.1 ≡ k = eqb-true any.1 k any.4 in
    let of = has_of plan r k (subst (Contains (tasks_in plan r)) same (any.0, any.2, any.3)) in
    let c : true ≡ false = sym (is_of_from plan r k of) ∙ h in cc)
    ∙ sym h)
    (cases_Bool (is_of plan r k))

-- some task that isn't done
pub not_all_done : (plan : Plan) (st : State) (r t : ℕ) → IsOf plan r t → is_done (st.tasks t) ≡ false → all_done plan st r ≡ false
not_all_done plan st r t of off =
    let here = of_has plan r t of in
    list_all_at (λ x. is_done (st.tasks x)) (tasks_in plan r) here.0 t here.1 (ap (λ (x : ℕ). is_done (st.tasks x)) here.2 ∙ off)

-- ---- homes and sources

pub home_is : (plan : Plan) (st : State) (r b : ℕ) → IsWellFormed plan → SoundLives plan st → st.region ≡ Some r → IsOneOf (blocks plan) b → st.homes b ≡ home_in_region plan r b
home_is plan st r b well lives open_is is = sym (lives.home_is b) ∙ homes_open plan well st.progress r b (lives.open_next r open_is) is

pub source_is : (plan : Plan) (st : State) (r b i : ℕ) → IsWellFormed plan → IsSound plan st → st.region ≡ Some r → i < size plan b
    → source_of plan r (element plan b i) (st.current (element plan b i)) ≡ source plan st b i
source_is plan st r b i well sound open_is lt =
    let e = element plan b i in
    let k = st.current e in
    let home : home_of plan r e ≡ st.homes b = home_at plan well r b i lt ∙ sym (home_is plan st r b well sound.lives open_is (placed plan well b i lt).block) in
    ap (λ (t : Bool). cond t (place_of plan k) (home_of plan r e)) (any_of plan r k)
    ∙ ap (λ (h : ℕ). cond (is_of plan r k) (place_of plan k) h) home
    ∙ sym (ap (λ (o : Option ℕ). source_in plan o (st.homes b) k) open_is)

-- ---- the current version

-- what was written before the region is no task of it
pub before_region : (plan : Plan) → IsWellFormed plan → (r v : ℕ) (e : Element) → v ≡ opening_version plan r e → IsOf plan r v → ⊥
before_region plan well r v e is of =
    let names = task_names_rows plan well v of.0 in
    let low = (last_writer_le plan e (tasks_through plan (r - 1))).0 in
    let up = through_task plan well (r - 1) v of.0 (omega (arith, low, is)) in
    let same = of.1 in
    let first = names.region.0 in
    omega (arith, up, same, first)

pub once_current : (plan : Plan) (st : State) (r : ℕ) (e : Element) → IsWellFormed plan → IsOrderly plan → SoundLives plan st → SoundVersions plan st → st.region ≡ Some r → Once (versions_in plan r e) (st.current e)
unfolding writes
once_current plan st r e well order lives versions open_is = ⊎_elim
    (λ (here : is_of plan r (st.current e) ≡ true).
    let of = of_from plan r (st.current e) here in
    let some : st.current e ≢ 0 = λ none. let low = of.0.0 in omega (arith, none, low) in
    let wrote = (lives.current_done e some).1 in
    inr (
      (λ same. before_region plan well r (st.current e) e (sym same) of),
      once_filter (λ t. task_writes (task_row plan t) e) (tasks_in plan r) (st.current e)
          (once_filter (λ t. eqb (task_row plan t).region r) (range_with_len 1 (tasks plan)) (st.current e) (once_range 1 (tasks plan) (st.current e) of.0.0 (omega (arith, of.0.1))) (eq-eqb (task_row plan (st.current e)).region r of.1))
          wrote,
    ))
    (λ (away : is_of plan r (st.current e) ≡ false).
    let same : opening_version plan r e ≡ st.current e = last_is plan e (st.current e) (tasks_through plan (r - 1)) (low away) (λ some. (lives.current_done e some).1) high in
    inl (
      same,
      λ has. let f = in_filter (λ t. task_writes (task_row plan t) e) (tasks_in plan r) (st.current e) has in
          let c : true ≡ false = sym (is_of_from plan r (st.current e) (has_of plan r (st.current e) f.0)) ∙ away in cc,
    ))
    (cases_Bool (is_of plan r (st.current e)))
  where
    low : is_of plan r (st.current e) ≡ false → st.current e ≤ tasks_through plan (r - 1)
    low away = ⊎_elim
        (λ (none : st.current e ≡ 0). omega (arith, none))
        (λ (some : st.current e ≡ 0 → ⊥).
        let done = lives.current_done e some in
        let is = writer_within plan (st.current e) e done.1 in
        let up = order.begun_up st.progress r (task_row plan (st.current e)).region (lives.open_next r open_is) (lives.begun (st.current e) (ap is_waiting done.0)) in
        let ne : (task_row plan (st.current e)).region ≢ r = λ same. let c : true ≡ false = sym (is_of_from plan r (st.current e) (is, same)) ∙ away in cc in
        task_through plan well (r - 1) (st.current e) is (omega (arith, up, ne)))
        (cases_eq (st.current e) 0)

    high : (u : ℕ) → u ≤ tasks_through plan (r - 1) → writes plan u e ≡ true → u ≤ st.current e
    high u le wrote =
        let is = writer_within plan u e wrote in
        let up = through_task plan well (r - 1) u is le in
        let names = task_names_rows plan well u is in
        let first = names.region.0 in
        versions.current_last e u (lives.closed_done u is (order.closed_below st.progress r u (lives.open_next r open_is) is (omega (arith, up, first)))) wrote
