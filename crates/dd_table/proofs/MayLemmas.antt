-- What may follow an Ask and the spills that make room.
use Rattle.std.proofs.Common.{◌≡◌, ℕ, ◌≤◌, true, false, eqb, eq-eqb, [], ◌∷◌, Option, Some, None, refl, ap, sym, ◌∙◌, subst}
use Rattle.std.specs.Prelude.{is_some}
use Rattle.std.specs.List.{list_any, range_with_len}
use Rattle.std.proofs.lemmas.Bool.{and_from, false_from_ne_true, or_left}
use Rattle.dd_blocks.specs.declared.plan.Plan.{Plan}
use Rattle.dd_blocks.specs.WellFormed.{IsWellFormed}
use Rattle.dd_machine.specs.declared.copy_state.CopyState.{CopyState}
use Rattle.dd_machine.specs.declared.copy_state.CopyState.TheVariants.{Here, Leaving, Out, Coming, Lent}
use Rattle.dd_machine.specs.declared.event.Event.TheVariants.{Ask, Put, Rest, Shift}
use Rattle.dd_machine.specs.declared.task_state.TaskState.{TaskState}
use Rattle.dd_machine.specs.declared.task_state.TaskState.TheVariants.{Waiting, Held, Running, Done}
use Rattle.dd_machine.specs.Bytes.{is_pinned, is_used, load}
use Rattle.dd_machine.specs.Effects.{after, fresh, in_state, on_in}
use Rattle.dd_machine.specs.GoesOn.{IsQuiet}
use Rattle.dd_machine.specs.Legal.{Fits, IsNext, MayAsk, MayCall, MayPut, MayRest, MayShift}
use Rattle.dd_machine.specs.Owed.{one_more}
use Rattle.dd_machine.specs.Sound.{IsSound}
use Rattle.dd_machine.specs.States as states
use Rattle.dd_machine.specs.States.{Progress, State, at_copy}
use Rattle.dd_machine.specs.Tests.{Has, is_active, is_any, is_here, is_idle, is_in_state, is_leaving, is_out, is_pin, is_running}
use Rattle.dd_machine.specs.Words.{bytes, limit, tasks}
use Rattle.dd_machine.proofs.ChangesLemmas.{at_copy_same}
use Rattle.dd_machine.proofs.TestsLemmas.{in_state_there, not_two, out_here, pair_same, passes_any}
use Rattle.laws_of_progress.proofs.QuietRoom.{fits_block}
use Rattle.laws_of_progress.proofs.ReservedKept.{done_calm}
use Rattle.dd_core.specs.Due.{AreDue}
use Rattle.dd_table.proofs.DueLemmas.{due_first, due_more, due_outside}
use Rattle.dd_table.proofs.IdleLemmas.{AreIdle}
use Rattle.dd_table.proofs.PutsLemmas.{absent_next}
use Rattle.dd_table.proofs.ShiftsLemmas.{elsewhere_next}
use Rattle.dd_table.proofs.SpillsLemmas.{Spares}

-- a block was asked for, and the spills of its space have made room
pub record HasRoom (plan : Plan) (st new : State) (space block : ℕ) : Type 0 where
  pub well : IsWellFormed plan
  pub old_sound : IsSound plan st
  pub sound : IsSound plan new
  pub may : MayAsk plan st space block
  pub spares : Spares plan (after plan st (Ask space block)) new
  pub low : load plan new space ≤ limit plan space
  pub idle : AreIdle new.copies

no_active : (s : TaskState) → is_active s ≡ false → is_running s ≡ false
no_active Waiting off = refl
no_active Held off = refl
no_active (Running w) off = off
no_active Done off = refl

quiet : (plan : Plan) (st new : State) (space block : ℕ) → HasRoom plan st new space block → IsQuiet new
quiet plan st new space block r = record {
  tasks = λ t. ap (λ (f : ℕ → TaskState). is_running (f t)) r.spares.tasks ∙ no_active (st.tasks t) (done_calm plan st r.old_sound r.may.all_done t);
  copies = r.idle;
}

-- the block that was asked for is pinned, and fits where it isn't Here
pub pinned_at : (plan : Plan) (st : State) (space block : ℕ) → st.pin ≡ Some (space, block) → is_pinned plan st space block ≡ true
pinned_at plan st space block pin =
    or_left (is_pin st.pin space block) (list_any (is_used plan st space block) (range_with_len 1 (tasks plan)))
    (ap (λ (p : Option (ℕ × ℕ)). is_pin p space block) pin ∙ and_from (eqb space space) (eqb block block) (eq-eqb space space refl) (eq-eqb block block refl))

asked_fits : (plan : Plan) (st new : State) (space block : ℕ) → HasRoom plan st new space block → is_in_state is_here (new.copies space block) ≡ false → Fits plan new space (bytes plan block)
asked_fits plan st new space block r away = fits_block plan new space block (quiet plan st new space block r) r.low r.may.block_is (pinned_at plan new space block r.spares.pin) away

-- a copy that is Out is as it was, and may be called
pub same_copy : (plan : Plan) (st new : State) (space block : ℕ) → HasRoom plan st new space block → new.copies space block ≡ st.copies space block
same_copy plan st new space block r = r.spares.pinned space block (pinned_at plan (after plan st (Ask space block)) space block refl)

pub call_may : (plan : Plan) (st new : State) (space block : ℕ) → HasRoom plan st new space block → Has new space block is_out → MayCall plan new space block
call_may plan st new space block r out = record {
  space_is = r.may.space_is;
  block_is = r.may.block_is;
  out = out;
  pinned = pinned_at plan new space block r.spares.pin;
  fits = asked_fits plan st new space block r (false_from_ne_true (is_in_state is_here (new.copies space block)) (λ here. not_two is_out is_here out_here (new.copies space block) out here));
}

-- outside a region an Ask moves the statements on
on_more : (plan : Plan) (st new : State) (space block : ℕ) → HasRoom plan st new space block → st.region ≡ None → new.progress ≡ one_more plan st.progress
on_more plan st new space block r outside = r.spares.progress ∙ ap (on_in plan st.progress) outside

asked_outside : (plan : Plan) (st : State) (space block : ℕ) → IsSound plan st → IsNext plan st (Ask space block) → st.region ≡ None
asked_outside plan st space block sound next = due_outside plan st (Ask space block) sound next (λ r is. cc)

-- the Put that is due
pub record PutsNext (plan : Plan) (new : State) (space block : ℕ) : Type 0 where
  pub may : MayPut plan new block
  pub due : AreDue plan new (Put block ∷ (Rest ∷ []))
  pub pin : new.pin ≡ Some (space, block)

pub put_may : (plan : Plan) (st new : State) (block : ℕ) → HasRoom plan st new (st.homes block) block → (due : AreDue plan st (Ask (st.homes block) block ∷ (Put block ∷ (Rest ∷ []))))
    → (next : PutsNext plan new (st.homes block) block) × (next.due.line ≡ due.line)
put_may plan st new block r due =
    let space = st.homes block in
    let outside = asked_outside plan st space block r.old_sound (due_first plan st (Ask space block) (Put block ∷ (Rest ∷ [])) due) in
    let more : AreDue plan new (Put block ∷ (Rest ∷ [])) = record { line = due.line; are = due_more plan st new (Ask space block) (Put block ∷ (Rest ∷ [])) due (on_more plan st new space block r outside) } in
    let next : IsNext plan new (Put block) = due_first plan new (Put block) (Rest ∷ []) more in
    let out : new.region ≡ None = r.spares.region ∙ outside in
    let absent = absent_next plan r.well new block r.sound out next in
    let home : space ≡ new.homes block = ap (λ (f : ℕ → ℕ). f block) (sym r.spares.homes) in (
      record {
        may = record {
          block_is = r.may.block_is;
          outside = out;
          due = next;
          pin = r.spares.pin ∙ ap (λ (s : ℕ). let p : Option (ℕ × ℕ) = Some (s, block) in p) home;
          absent = absent;
          fits = subst (λ (s : ℕ). Fits plan new s (bytes plan block)) home (asked_fits plan st new space block r (ap (is_in_state is_here) (absent space)));
        };
        due = more;
        pin = r.spares.pin;
      },
      refl,
    )

-- a Rest behind an entry that leaves the pinned copy Here
not_leaving : (c : Option states.Copy) → (is_in_state is_any c ≡ true → is_in_state is_idle c ≡ true) → is_in_state is_leaving c ≡ false
not_leaving None idle = refl
not_leaving (Some c) idle = of_state c.state (idle refl)
  where
    of_state : (s : CopyState) → is_idle s ≡ true → is_leaving s ≡ false
    of_state Here is = refl
    of_state Leaving is = absurd (let h : false ≡ true = is in cc)
    of_state Out is = refl
    of_state Coming is = refl
    of_state (Lent t) is = refl

pub rest_may : (plan : Plan) (st : State) (space block : ℕ) → IsNext plan st Rest → st.region ≡ None → st.pin ≡ Some (space, block) → Has st space block is_here → AreIdle st.copies → MayRest plan st
rest_may plan st space block next outside pin here idle = record {
  due = λ _. next;
  pinned = ap (λ (p : Option (ℕ × ℕ)). is_some p) pin;
  here = λ s b is.
      let same = pair_same s space b block (sym is ∙ pin) in
      ap (λ (x : ℕ). is_in_state is_here (st.copies x b)) same.0 ∙ ap (λ (y : ℕ). is_in_state is_here (st.copies space y)) same.1 ∙ here;
  current = λ r s b open_is _. absurd (let h : None ≡ Some r = sym outside ∙ open_is in cc);
  none_leaving = λ s b. not_leaving (st.copies s b) (idle s b);
}

-- after the Put, and what is due then
pub put_rests : (plan : Plan) (new last : State) (space block : ℕ) → PutsNext plan new space block → last ≡ after plan new (Put block) → AreIdle last.copies → MayRest plan last
put_rests plan new last space block next is idle =
    let put = after plan new (Put block) in
    let due : AreDue plan put (Rest ∷ []) = record { line = next.due.line; are = due_more plan new put (Put block) (Rest ∷ []) next.due refl } in
    subst (MayRest plan) (sym is)
    (rest_may plan put (new.homes block) block (due_first plan put Rest [] due) next.may.outside next.may.pin
    (ap (is_in_state is_here) (at_copy_same new.copies (new.homes block) block (fresh plan block 0)))
    (subst (λ (x : State). AreIdle x.copies) is idle))

-- the Shift that is due
pub record ShiftsNext (plan : Plan) (new : State) (space block : ℕ) : Type 0 where
  pub may : MayShift plan new block space
  pub due : AreDue plan new (Shift block space ∷ (Rest ∷ []))

pub shift_may : (plan : Plan) (st new : State) (space block : ℕ) → HasRoom plan st new space block → (due : AreDue plan st (Ask space block ∷ (Shift block space ∷ (Rest ∷ []))))
    → (next : ShiftsNext plan new space block) × (next.due.line ≡ due.line)
shift_may plan st new space block r due =
    let outside = asked_outside plan st space block r.old_sound (due_first plan st (Ask space block) (Shift block space ∷ (Rest ∷ [])) due) in
    let more : AreDue plan new (Shift block space ∷ (Rest ∷ [])) =
    record { line = due.line; are = due_more plan st new (Ask space block) (Shift block space ∷ (Rest ∷ [])) due (on_more plan st new space block r outside) } in
    let next : IsNext plan new (Shift block space) = due_first plan new (Shift block space) (Rest ∷ []) more in
    let out : new.region ≡ None = r.spares.region ∙ outside in
    let there = elsewhere_next plan r.well new block space r.sound r.may.block_is next in
    let away : is_in_state is_here (new.copies space block) ≡ false = false_from_ne_true (is_in_state is_here (new.copies space block))
    (λ here. there.1 (r.sound.lives.at_home out space block (passes_any is_here (new.copies space block) here))) in (
      record {
        may = record {
          block_is = r.may.block_is;
          space_is = r.may.space_is;
          outside = out;
          due = next;
          pin = r.spares.pin;
          elsewhere = there.1;
          idle = r.idle (new.homes block) block there.0;
          fits = asked_fits plan st new space block r away;
        };
        due = more;
      },
      refl,
    )

pub shift_rests : (plan : Plan) (new last : State) (space block : ℕ) → ShiftsNext plan new space block → last ≡ after plan new (Shift block space) → AreIdle last.copies → MayRest plan last
shift_rests plan new last space block next is idle =
    let shifted = after plan new (Shift block space) in
    let home = new.copies (new.homes block) block in
    let due : AreDue plan shifted (Rest ∷ []) = record { line = next.due.line; are = due_more plan new shifted (Shift block space) (Rest ∷ []) next.due refl } in
    subst (MayRest plan) (sym is)
    (rest_may plan shifted space block (due_first plan shifted Rest [] due) next.may.outside next.may.pin
    (ap (is_in_state is_here) (at_copy_same (at_copy new.copies (new.homes block) block None) space block (in_state Here home))
    ∙ in_state_there is_here Here home refl (passes_any is_idle home next.may.idle))
    (subst (λ (x : State). AreIdle x.copies) is idle))
