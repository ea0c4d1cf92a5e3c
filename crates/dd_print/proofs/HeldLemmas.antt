-- Outside a region a copy that is at home has the current values.
use Rattle.std.proofs.Common.{◌≡◌, ℕ, ◌<◌, ℤ, pos, List, length, map, Bor, Some, None, sym, ap, ◌∙◌, subst, ⊎_elim, arith}
use Rattle.std.specs.Prelude.{slice_index}
use Rattle.std.specs.List.{range_with_len}
use Rattle.std.proofs.lemmas.Bool.{cases_eq}
use Rattle.std.proofs.lemmas.List.{get_or_default, same_lists}
use Rattle.std.proofs.lemmas.List.FromFn.{get_or-map-range_with_len, length-map-range_with_len}
use Rattle.dd_blocks.specs.declared.plan.Plan.{Plan}
use Rattle.dd_blocks.specs.Elements.{Element}
use Rattle.dd_blocks.specs.PlanElements.{element_of}
use Rattle.dd_blocks.specs.WellFormed.{IsWellFormed}
use Rattle.dd_holding.proofs.HereLemmas.{place_there, pool_place, sound_now, versions_here}
use Rattle.dd_kernels.specs.Lists.{element as at}
use Rattle.dd_machine.specs.Sound.{IsSound}
use Rattle.dd_machine.specs.States.{State, blank}
use Rattle.dd_machine.specs.Tests.{Has, is_any, is_here, versions_of}
use Rattle.dd_machine.specs.Words.{element, size}
use Rattle.dd_machine.proofs.TestsLemmas.{current_version, passes_any}
use Rattle.dd_meaning.specs.Values.{value_at}
use Rattle.dd_pool.specs.Places.{IsPlace}
use Rattle.dd_pool.specs.Pools.{copy_at}
use Rattle.dd_print.specs.Held.{IsTelling, block_values, current_value}
use Rattle.dd_stamps.specs.declared.stamped.Stamped.{Stamped}
use Rattle.dd_stamps.specs.Cells.{AreTrue}
use Rattle.dd_store.specs.declared.store.Slot.{Ghosts as SlotGhosts}
use Rattle.dd_store.specs.declared.store.Store.{Ghosts}
use Rattle.dd_table.specs.declared.table.Table.{Table}
use Rattle.dd_table.specs.Tables.{state_now}
use Rattle.laws_of_versions.proofs.ConflictLemmas.{writer_within}

-- a list that has f at each place
pub listed : (f : ℕ → ℤ) (values : List ℤ) (n : ℕ) → length values ≡ n → ((p : ℕ) → p < n → at values p ≡ f p) → values ≡ map f (range_with_len 0 n)
listed f values n long each =
    same_lists values (map f (range_with_len 0 n)) (long ∙ sym (length-map-range_with_len f 0 n))
    (λ p d lt. get_or_default values p d (pos 0) lt ∙ each p (omega (arith, long, lt)) ∙ sym (get_or-map-range_with_len f 0 n p p d (omega (arith, long, lt)) (omega arith)))

-- no current version is blank
not_blank : (plan : Plan) (st : State) (e : Element) → IsWellFormed plan → IsSound plan st → st.current e ≡ blank → ⊥
not_blank plan st e well sound is = ⊎_elim
    (λ (none : st.current e ≡ 0). let no : 0 ≡ blank = sym none ∙ is in omega (arith, no))
    (λ (some : st.current e ≡ 0 → ⊥).
    let few = (writer_within plan (st.current e) e (sound.lives.current_done e some).1).1 in
    let last = well.line.tasks in
    omega (arith, few, last, is))
    (cases_eq (st.current e) 0)

-- values with current versions are current
current_values : (plan : Plan) (st : State) (space block : ℕ) (versions : List ℕ) (values : List ℤ) → IsWellFormed plan → IsSound plan st → st.region ≡ None → Has st space block is_any
    → versions ≡ versions_of (st.copies space block) → length values ≡ size plan block → AreTrue plan block versions values → values ≡ block_values plan st block
unfolding AreTrue element
current_values plan st space block versions values well sound none any same long true_cells =
    listed (λ p. current_value plan st (element_of plan block p)) values (size plan block) long (λ p lt.
    let e = element_of plan block p in
    let is : slice_index versions p ≡ st.current e = ap (λ (vs : List ℕ). slice_index vs p) same ∙ current_version plan st space block p (sound.lives.home_current none space block any) lt in
    true_cells p lt (λ b. not_blank plan st e well sound (sym is ∙ b)) ∙ ap (λ (v : ℕ). value_at plan v e) is)

module _ {D S : Type 0} {g : Ghosts D S} {h : SlotGhosts S} where
  pub held_values : (t : Table D S g h) (space block : ℕ) (copy : Stamped) → IsWellFormed t.holding.ledger.plan.now → (state_now t).region ≡ None → Has (state_now t) space block is_here
      → copy_at t.holding.pool space block ≡ Some copy → IsTelling t → copy.values.items ≡ block_values t.holding.ledger.plan.now (state_now t) block
  held_values t space block copy well none here there telling =
      let l = t.holding.ledger in
      let pool = t.holding.pool in
      let facts = t.holding.facts in
      let place = place_there l is_here space block here in
      let of_pool = pool_place l pool space block facts place in
      let planned = pool.planned in
      let ours = pool.copies.ours space block copy (subst (λ (p : Bor Plan). IsPlace p.now space block) (sym planned) of_pool) there in
      let plan_is : copy.plan.now ≡ l.plan.now = ap (λ (p : Bor Plan). p.now) (ours.0 ∙ planned ∙ facts.planned) in
      let told = (facts.told telling).copies space block copy of_pool there in
      let cells : AreTrue l.plan.now block copy.versions.list copy.values.items =
      subst (λ (b : ℕ). AreTrue l.plan.now b copy.versions.list copy.values.items) ours.1 (subst (λ (p : Plan). AreTrue p copy.block copy.versions.list copy.values.items) plan_is (copy.cells told)) in
      let long : length copy.values.items ≡ size l.plan.now block = copy.full ∙ ap (λ (p : Plan). size p copy.block) plan_is ∙ ap (size l.plan.now) ours.1 in
      current_values l.plan.now (state_now t) space block copy.versions.list copy.values.items well (sound_now l well) none (passes_any is_here ((state_now t).copies space block) here)
      (versions_here l pool space block copy facts place here there) long cells

  -- it has as many values as the block has places
  pub held_full : (t : Table D S g h) (space block : ℕ) (copy : Stamped) → Has (state_now t) space block is_here → copy_at t.holding.pool space block ≡ Some copy → length copy.values.items ≡ size t.holding.ledger.plan.now block
  held_full t space block copy here there =
      let l = t.holding.ledger in
      let pool = t.holding.pool in
      let facts = t.holding.facts in
      let of_pool = pool_place l pool space block facts (place_there l is_here space block here) in
      let planned = pool.planned in
      let ours = pool.copies.ours space block copy (subst (λ (p : Bor Plan). IsPlace p.now space block) (sym planned) of_pool) there in
      copy.full ∙ ap (λ (p : Bor Plan). size p.now copy.block) (ours.0 ∙ planned ∙ facts.planned) ∙ ap (size l.plan.now) ours.1
