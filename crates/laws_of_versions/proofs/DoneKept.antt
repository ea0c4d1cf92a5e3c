-- The dependencies of tasks at work are done, and the current version is that of the last writer that is done.
use Rattle.std.proofs.Common.{◌≡◌, ◌≢◌, ℕ, ◌≤◌, Bool, true, false, cond, refl, ap, sym, ◌∙◌, subst, ⊎_elim, arith}
use Rattle.dd_blocks.specs.WellFormed.{IsWellFormed}
use Rattle.dd_blocks.specs.Elements.{Element}
use Rattle.dd_machine.specs.Orderly.{IsOrderly}
use Rattle.dd_blocks.specs.declared.plan.Plan.{Plan}
use Rattle.dd_blocks.specs.Numbered.{task_row}
use Rattle.dd_machine.specs.declared.event.Event.{Event}
use Rattle.dd_machine.specs.declared.event.Event.TheVariants.{Ask, Rest, Put, Shift, Free, Begin, Hold, Pick, Gone, Make, Call, Come, Lend, Copy, Claim, Finish, Back, Close}
use Rattle.dd_machine.specs.declared.task_state.TaskState.{TaskState}
use Rattle.dd_machine.specs.declared.task_state.TaskState.TheVariants.{Held, Running, Done}
use Rattle.dd_machine.specs.Effects.{after}
use Rattle.dd_machine.specs.Legal.{May}
use Rattle.dd_machine.specs.Sound.{IsSound}
use Rattle.dd_machine.specs.States.{State, at_one}
use Rattle.dd_machine.specs.Tests.{is_active, is_waiting}
use Rattle.dd_machine.specs.Words.{has_number, writes}
use Rattle.dd_machine.proofs.ChangesLemmas.{at_one_other, at_one_tells}
use Rattle.dd_machine.proofs.TestsLemmas.{rested_at, running_by}
use Rattle.laws_of_versions.proofs.ConflictLemmas.{both_write, done_before, writer_within}

abbrev DepsDone : Plan → State → Type 0
DepsDone plan st = (t d : ℕ) → is_waiting (st.tasks t) ≡ false → has_number (task_row plan t).deps d ≡ true → st.tasks d ≡ Done

-- a task that isn't done changes its state
deps_at : (plan : Plan) (st : State) (task : ℕ) (new : TaskState) → IsSound plan st → (st.tasks task ≡ Done → ⊥) → ((d : ℕ) → has_number (task_row plan task).deps d ≡ true → st.tasks d ≡ Done) → DepsDone plan (record st { tasks = at_one st.tasks task new })
deps_at plan st task new sound not_done own t d off dep =
    let old : st.tasks d ≡ Done = ⊎_elim
    (λ (e : (t ≡ task) × (at_one st.tasks task new t ≡ new)). own d (subst (λ (x : ℕ). has_number (task_row plan x).deps d ≡ true) e.0 dep))
    (λ (e : (t ≢ task) × (at_one st.tasks task new t ≡ st.tasks t)). sound.versions.deps_done t d (ap is_waiting (sym e.1) ∙ off) dep)
    (at_one_tells st.tasks task new t) in
    at_one_other st.tasks task new d (λ same. not_done (subst (λ (x : ℕ). st.tasks x ≡ Done) same old)) ∙ old

pub keeps_deps_done : (plan : Plan) (st : State) (event : Event) → IsSound plan st → May plan st event → DepsDone plan (after plan st event)
keeps_deps_done plan st (Hold task) sound may = deps_at plan st task Held sound (λ done. let w = may.waiting in cc) may.deps_done
keeps_deps_done plan st (Claim task worker) sound may = deps_at plan st task (Running worker) sound (λ done. let w = may.held in cc) (λ d. sound.versions.deps_done task d (ap is_waiting may.held))
keeps_deps_done plan st (Finish task) sound may = deps_at plan st task Done sound (λ done. let w = (running_by (st.tasks task) may).1 in cc) (λ d. sound.versions.deps_done task d (ap is_waiting (running_by (st.tasks task) may).1))
keeps_deps_done plan st Rest sound may = subst (DepsDone plan) (sym (rested_at plan st may)) sound.versions.deps_done
keeps_deps_done plan st (Ask space block) sound may = sound.versions.deps_done
keeps_deps_done plan st (Put block) sound may = sound.versions.deps_done
keeps_deps_done plan st (Shift block space) sound may = sound.versions.deps_done
keeps_deps_done plan st (Free space block) sound may = sound.versions.deps_done
keeps_deps_done plan st (Begin r) sound may = sound.versions.deps_done
keeps_deps_done plan st (Close r) sound may = sound.versions.deps_done
keeps_deps_done plan st (Pick space block) sound may = sound.versions.deps_done
keeps_deps_done plan st (Gone space block) sound may = sound.versions.deps_done
keeps_deps_done plan st (Make task block) sound may = sound.versions.deps_done
keeps_deps_done plan st (Call space block) sound may = sound.versions.deps_done
keeps_deps_done plan st (Come space block) sound may = sound.versions.deps_done
keeps_deps_done plan st (Lend task block source) sound may = sound.versions.deps_done
keeps_deps_done plan st (Copy task block source count) sound may = sound.versions.deps_done
keeps_deps_done plan st (Back block source count) sound may = sound.versions.deps_done

abbrev CurrentLast : Plan → State → Type 0
CurrentLast plan st = (e : Element) (u : ℕ) → st.tasks u ≡ Done → writes plan u e ≡ true → u ≤ st.current e

last_at : (plan : Plan) (st : State) (task : ℕ) (new : TaskState) → IsSound plan st → (new ≡ Done → ⊥) → CurrentLast plan (record st { tasks = at_one st.tasks task new })
last_at plan st task new sound not_done e u done wrote = ⊎_elim
    (λ (t : (u ≡ task) × (at_one st.tasks task new u ≡ new)). absurd (not_done (sym t.1 ∙ done)))
    (λ (t : (u ≢ task) × (at_one st.tasks task new u ≡ st.tasks u)). sound.versions.current_last e u (sym t.1 ∙ done) wrote)
    (at_one_tells st.tasks task new u)

pub keeps_current_last : (plan : Plan) (st : State) (event : Event) → IsWellFormed plan → IsOrderly plan → IsSound plan st → May plan st event → CurrentLast plan (after plan st event)
keeps_current_last plan st (Finish task) well order sound may = λ e u done wrote. by e u done wrote (writes plan task e) refl
  where
    by : (e : Element) (u : ℕ) → at_one st.tasks task Done u ≡ Done → writes plan u e ≡ true → (w : Bool) → writes plan task e ≡ w → u ≤ cond (writes plan task e) task (st.current e)
    by e u done wrote true is = rw is (⊎_elim
        (λ (t : (u ≡ task) × (at_one st.tasks task Done u ≡ Done)). let same = t.0 in omega (arith, same))
        (λ (t : (u ≢ task) × (at_one st.tasks task Done u ≡ st.tasks u)).
        let lt = done_before plan st task u well order sound (ap is_active (running_by (st.tasks task) may).1) (sym t.1 ∙ done) (writer_within plan u e wrote) (both_write plan task u e is wrote) in
        omega (arith, lt))
        (at_one_tells st.tasks task Done u))
    by e u done wrote false is = rw is (⊎_elim
        (λ (t : (u ≡ task) × (at_one st.tasks task Done u ≡ Done)). absurd (let h : true ≡ false = sym wrote ∙ ap (λ (x : ℕ). writes plan x e) t.0 ∙ is in cc))
        (λ (t : (u ≢ task) × (at_one st.tasks task Done u ≡ st.tasks u)). sound.versions.current_last e u (sym t.1 ∙ done) wrote)
        (at_one_tells st.tasks task Done u))
keeps_current_last plan st (Hold task) well order sound may = last_at plan st task Held sound (λ e. cc)
keeps_current_last plan st (Claim task worker) well order sound may = last_at plan st task (Running worker) sound (λ e. cc)
keeps_current_last plan st Rest well order sound may = subst (CurrentLast plan) (sym (rested_at plan st may)) sound.versions.current_last
keeps_current_last plan st (Ask space block) well order sound may = sound.versions.current_last
keeps_current_last plan st (Put block) well order sound may = sound.versions.current_last
keeps_current_last plan st (Shift block space) well order sound may = sound.versions.current_last
keeps_current_last plan st (Free space block) well order sound may = sound.versions.current_last
keeps_current_last plan st (Begin r) well order sound may = sound.versions.current_last
keeps_current_last plan st (Close r) well order sound may = sound.versions.current_last
keeps_current_last plan st (Pick space block) well order sound may = sound.versions.current_last
keeps_current_last plan st (Gone space block) well order sound may = sound.versions.current_last
keeps_current_last plan st (Make task block) well order sound may = sound.versions.current_last
keeps_current_last plan st (Call space block) well order sound may = sound.versions.current_last
keeps_current_last plan st (Come space block) well order sound may = sound.versions.current_last
keeps_current_last plan st (Lend task block source) well order sound may = sound.versions.current_last
keeps_current_last plan st (Copy task block source count) well order sound may = sound.versions.current_last
keeps_current_last plan st (Back block source count) well order sound may = sound.versions.current_last
