-- Tasks that share an element keep their order.
use Rattle.std.proofs.Common.{ap, arith, eqb, false, inl, inr, sym, true, ℕ, ⊎_elim, ◌&&◌, ◌<◌, ◌||◌, ◌∙◌, ◌≡◌, ◌≤◌, ◌⊎◌}
use Rattle.std.specs.Prelude.{not}
use Rattle.std.proofs.lemmas.Bool.{and_parts, cases_order, eqb-true, or_cases}
use Rattle.dd_blocks.specs.declared.plan.Plan.{Plan}
use Rattle.dd_blocks.specs.Conflicts.{AreInConflict}
use Rattle.dd_blocks.specs.Elements.{UsesElement, WritesElement}
use Rattle.dd_blocks.specs.Numbered.{task_row}
use Rattle.dd_blocks.specs.WellFormed.{IsWellFormed}
use Rattle.dd_blocks.specs.Elements.{Element}
use Rattle.dd_machine.specs.declared.task_state.TaskState.TheVariants.{Done}
use Rattle.dd_machine.specs.Orderly.{IsOrderly}
use Rattle.dd_machine.specs.Sound.{IsSound}
use Rattle.dd_machine.specs.States.{State}
use Rattle.dd_machine.specs.Tests.{is_active, is_waiting}
use Rattle.dd_machine.specs.Words.{IsOneOf, element, has_number, reads, tasks, writes}
use Rattle.laws_of_lives.proofs.RegionsLemmas.{region_order}
use Rattle.dd_machine.specs.Needed.{is_current_at, is_needed, own_space, source}
use Rattle.dd_blocks.proofs.ElementsLemmas as blocks
use Rattle.dd_blocks.proofs.ElementsLemmas.{writes_element}
use Rattle.dd_lists.proofs.ListsLemmas.{has_number as has_number_in}

pub write_of : (plan : Plan) (t : ℕ) (e : Element) → writes plan t e ≡ true → WritesElement (task_row plan t) e.array e.pos
unfolding writes
write_of plan t e h = (writes_element (task_row plan t) e).0 h

pub use_of_write : (plan : Plan) (t : ℕ) (e : Element) → writes plan t e ≡ true → UsesElement (task_row plan t) e.array e.pos
unfolding writes
use_of_write plan t e h = blocks.use_of_write (task_row plan t) e h

pub use_of_read : (plan : Plan) (t : ℕ) (e : Element) → reads plan t e ≡ true → UsesElement (task_row plan t) e.array e.pos
unfolding reads
use_of_read plan t e h = blocks.use_of_read (task_row plan t) e h

pub writer_within : (plan : Plan) (t : ℕ) (e : Element) → writes plan t e ≡ true → IsOneOf (tasks plan) t
unfolding writes
writer_within plan t e h = blocks.writer_within plan t e h

pub reader_within : (plan : Plan) (t : ℕ) (e : Element) → reads plan t e ≡ true → IsOneOf (tasks plan) t
unfolding reads
reader_within plan t e h = blocks.reader_within plan t e h

pub dep_of : (plan : Plan) → IsWellFormed plan → (t u : ℕ) → IsOneOf (tasks plan) t → IsOneOf (tasks plan) u → t < u → (task_row plan t).region ≡ (task_row plan u).region → AreInConflict (task_row plan t) (task_row plan u)
    → has_number (task_row plan u).deps t ≡ true
dep_of plan well t u t_is u_is lt same conflict = has_number_in (task_row plan u).deps t (((well.tasks u u_is).deps t).1 ((t_is.0, lt, conflict), same))

pub both_write : (plan : Plan) (t u : ℕ) (e : Element) → writes plan t e ≡ true → writes plan u e ≡ true → AreInConflict (task_row plan t) (task_row plan u)
both_write plan t u e a b = (e.array, e.pos, inl (write_of plan t e a, use_of_write plan u e b))

pub read_write : (plan : Plan) (t u : ℕ) (e : Element) → reads plan t e ≡ true → writes plan u e ≡ true → AreInConflict (task_row plan t) (task_row plan u)
read_write plan t u e a b = (e.array, e.pos, inr (use_of_read plan t e a, write_of plan u e b))

pub write_read : (plan : Plan) (t u : ℕ) (e : Element) → writes plan t e ≡ true → reads plan u e ≡ true → AreInConflict (task_row plan t) (task_row plan u)
write_read plan t u e a b = (e.array, e.pos, inl (write_of plan t e a, use_of_read plan u e b))

-- a task that isn't done has no later one that is at work or done and shares an element
pub not_later : (plan : Plan) (st : State) (t u : ℕ) → IsWellFormed plan → IsOrderly plan → IsSound plan st → is_active (st.tasks t) ≡ true → is_waiting (st.tasks u) ≡ false → IsOneOf (tasks plan) u → t < u
    → AreInConflict (task_row plan t) (task_row plan u) → ⊥
not_later plan st t u well order sound on off u_is lt conflict =
    let o = sound.limits.active_open t on in
    let up = order.begun_up st.progress o.0 (task_row plan u).region (sound.lives.open_next o.0 o.1) (sound.lives.begun u off) in
    let low = region_order plan well t u o.2.0 u_is (omega (arith, lt)) in
    let r = o.2.1 in
    let same : (task_row plan t).region ≡ (task_row plan u).region = omega (arith, up, low, r) in
    let done = sound.versions.deps_done u t off (dep_of plan well t u o.2.0 u_is lt same conflict) in
    let h : true ≡ false = sym on ∙ ap is_active done in
    cc

-- what is done and shares an element with a task at work stands before it
pub done_before : (plan : Plan) (st : State) (t u : ℕ) → IsWellFormed plan → IsOrderly plan → IsSound plan st → is_active (st.tasks t) ≡ true → st.tasks u ≡ Done → IsOneOf (tasks plan) u
    → AreInConflict (task_row plan t) (task_row plan u) → u < t
done_before plan st t u well order sound on done u_is conflict = ⊎_elim
    (λ (same : t ≡ u). absurd (let h : true ≡ false = sym on ∙ ap (λ (x : ℕ). is_active (st.tasks x)) same ∙ ap is_active done in cc))
    (λ (ne : (t < u) ⊎ (u < t)). ⊎_elim
    (λ (lt : t < u). absurd (not_later plan st t u well order sound on (ap is_waiting done) u_is lt conflict))
    (λ (gt : u < t). gt)
    ne)
    (cases_order t u)

-- what a task needs it reads
pub reads_needed : (plan : Plan) (st : State) (t b s i : ℕ) → 1 ≤ t → is_needed plan st t b s i ≡ true → reads plan t (element plan b i) ≡ true
reads_needed plan st t b s i low needs =
    let parts = and_parts (eqb t 0 || reads plan t (element plan b i)) (not (is_current_at plan st (own_space plan st t b) b i) && eqb (source plan st b i) s) needs in
    ⊎_elim
    (λ (e : eqb t 0 ≡ true). let z = eqb-true t 0 e in absurd (omega (arith, low, z)))
    (λ (e : reads plan t (element plan b i) ≡ true). e)
    (or_cases (eqb t 0) (reads plan t (element plan b i)) parts.0)
