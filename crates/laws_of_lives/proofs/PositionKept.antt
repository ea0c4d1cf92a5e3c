-- Where the run stands: an event leaves it, or makes the next entry. And the tasks of regions before an open one are done.
use Rattle.std.proofs.Common.{◌≡◌, ◌⊎◌, ℕ, ◌<◌, None, Some, refl, subst, inl, inr, sym, ⊎_elim}
use Rattle.dd_blocks.specs.declared.plan.Plan.{Plan}
use Rattle.dd_blocks.specs.Numbered.{task_row}
use Rattle.dd_machine.specs.declared.event.Event.{Event}
use Rattle.dd_machine.specs.declared.event.Event.TheVariants.{Ask, Rest, Put, Shift, Free, Begin, Hold, Pick, Gone, Make, Call, Come, Lend, Copy, Claim, Finish, Back, Close}
use Rattle.dd_machine.specs.declared.task_state.TaskState.TheVariants.{Done}
use Rattle.dd_machine.specs.Effects.{after, on_outside}
use Rattle.dd_machine.specs.Legal.{IsNext, May}
use Rattle.dd_machine.specs.Orderly.{IsOrderly}
use Rattle.dd_machine.specs.Owed.{IsPosition, one_more}
use Rattle.dd_machine.specs.Sound.{IsSound}
use Rattle.dd_machine.specs.SoundLimits.{IsOpen}
use Rattle.dd_machine.specs.States.{Progress, State}
use Rattle.dd_machine.specs.Words.{IsOneOf, tasks}
use Rattle.dd_machine.proofs.ProgressLemmas.{position_next}
use Rattle.dd_machine.proofs.TestsLemmas.{rested_at}
use Rattle.laws_of_lives.proofs.MadeLemmas.{outside_or_in}
use Rattle.laws_of_lives.proofs.PlaceKept.{OpenNext}
use Rattle.laws_of_lives.proofs.TasksKept.{ClosedDone}

-- the event is no entry of the statements, and the position stays; or it is their next, and the position is behind it
abbrev pub Moves : Plan → State → Event → Progress → Type 0
Moves plan st event p = (p ≡ st.progress) ⊎ (IsNext plan st event × (p ≡ one_more plan st.progress))

moves_on : (plan : Plan) (st : State) (event : Event) → (st.region ≡ None → IsNext plan st event) → Moves plan st event (on_outside plan st)
moves_on plan st event due = ⊎_elim
    (λ (out : (st.region ≡ None) × (on_outside plan st ≡ one_more plan st.progress)). inr (due out.0, out.1))
    (λ (open_in : IsOpen st × (on_outside plan st ≡ st.progress)). inl open_in.1)
    (outside_or_in plan st)

pub moves : (plan : Plan) (st : State) (event : Event) → IsSound plan st → May plan st event → Moves plan st event (after plan st event).progress
moves plan st (Ask space block) sound may = moves_on plan st (Ask space block) may.due
moves plan st Rest sound may = subst (λ (x : State). Moves plan st Rest x.progress) (sym (rested_at plan st may)) (moves_on plan st Rest may.due)
moves plan st (Put block) sound may = inr (may.due, refl)
moves plan st (Shift block space) sound may = inr (may.due, refl)
moves plan st (Free space block) sound may = moves_on plan st (Free space block) may.due
moves plan st (Begin region) sound may = inr (may.due, refl)
moves plan st (Close region) sound may = inr (sound.lives.open_next region may.open_is, refl)
moves plan st (Hold task) sound may = inl refl
moves plan st (Pick space block) sound may = inl refl
moves plan st (Gone space block) sound may = inl refl
moves plan st (Make task block) sound may = inl refl
moves plan st (Call space block) sound may = inl refl
moves plan st (Come space block) sound may = inl refl
moves plan st (Lend task block source) sound may = inl refl
moves plan st (Copy task block source count) sound may = inl refl
moves plan st (Claim task worker) sound may = inl refl
moves plan st (Finish task) sound may = inl refl
moves plan st (Back block source count) sound may = inl refl

pub keeps_position : (plan : Plan) (st : State) (event : Event) → IsSound plan st → May plan st event → IsPosition plan (after plan st event).progress
keeps_position plan st event sound may = ⊎_elim
    (λ (same : (after plan st event).progress ≡ st.progress). subst (IsPosition plan) (sym same) sound.lives.position)
    (λ (one : IsNext plan st event × ((after plan st event).progress ≡ one_more plan st.progress)). subst (IsPosition plan) (sym one.1) (position_next plan st.progress event one.0 sound.lives.position))
    (moves plan st event sound may)

-- the close of an open region is next, so all regions before it were closed
pub earlier : (plan : Plan) (st : State) → IsOrderly plan → OpenNext plan st → ClosedDone plan st
    → (r t : ℕ) → st.region ≡ Some r → IsOneOf (tasks plan) t → (task_row plan t).region < r → st.tasks t ≡ Done
earlier plan st orderly next done r t open_in is lt = done t is (orderly.closed_below st.progress r t (next r open_in) is lt)
