-- Nothing is swapped between two statements before the first event that one asks for.
use Rattle.std.proofs.Common.{◌≡◌, ℕ, ◌≤◌, Bool, true, false, ◌&&◌, ◌||◌, cond, eqb, List, [], ◌∷◌, Option, Some, None, refl, ap, sym, ◌∙◌, ⊎_elim, arith}
use Rattle.std.specs.List.{filter, list_all, list_any, range_with_len}
use Rattle.std.proofs.lemmas.Bool.{and_parts, or_cases}
use Rattle.dd_blocks.specs.declared.plan.Plan.{Plan}
use Rattle.dd_core.specs.Lines.{with_line}
use Rattle.dd_machine.specs.declared.copy_state.CopyState.{CopyState}
use Rattle.dd_machine.specs.declared.copy_state.CopyState.TheVariants.{Here, Leaving, Out, Coming, Lent}
use Rattle.dd_machine.specs.declared.event.Event.{Event}
use Rattle.dd_machine.specs.declared.event.Event.TheVariants.{Pick, Gone, Call, Come}
use Rattle.dd_machine.specs.Bytes.{active_bytes, is_pinned, is_used, load, pin_bytes, pin_bytes_in, scratch_bytes, when}
use Rattle.dd_machine.specs.Legal.{May}
use Rattle.dd_machine.specs.Runs.{IsRun}
use Rattle.dd_machine.specs.Sound.{IsSound}
use Rattle.dd_machine.specs.States as states
use Rattle.dd_machine.specs.States.{State}
use Rattle.dd_machine.specs.Tests.{is_active, is_coming, is_held, is_here_or_coming, is_idle, is_in_state, is_leaving, is_pin, is_task_held}
use Rattle.dd_machine.specs.Words.{IsOneOf, argument_bytes, blocks, bytes, limit, place, scratch, spaces, tasks}
use Rattle.dd_machine.proofs.CalmLemmas.{held_is_active, nobody_at_work, nothing_used}
use Rattle.dd_machine.proofs.RunsLemmas.{run_first}
use Rattle.dd_machine.proofs.TestsLemmas.{not_two, passes_any}
use Rattle.dd_machine.proofs.TotalsLemmas.{total_le, total_zero, when_false, when_le}
use Rattle.dd_statements.specs.Follows.{AreOrdered, is_owed, is_swap}

-- a state between two statements
pub record IsCalm (plan : Plan) (st : State) : Type 0 where
  pub sound : IsSound plan st
  pub region : st.region ≡ None
  pub pin : st.pin ≡ None

not_pinned : (plan : Plan) (st : State) (s b : ℕ) → IsCalm plan st → is_pinned plan st s b ≡ true → ⊥
not_pinned plan st s b calm is = ⊎_elim
    (λ (f : is_pin st.pin s b ≡ true). let e : true ≡ false = sym f ∙ ap (λ (o : Option (ℕ × ℕ)). is_pin o s b) calm.pin in cc)
    (λ (f : list_any (is_used plan st s b) (range_with_len 1 (tasks plan)) ≡ true). let e : true ≡ false = sym f ∙ nothing_used plan st s b (nobody_at_work plan st calm.sound calm.region) in cc)
    (or_cases (is_pin st.pin s b) (list_any (is_used plan st s b) (range_with_len 1 (tasks plan))) is)

held_coming : (s : CopyState) → is_here_or_coming s ≡ true → is_held s ≡ true
held_coming Here is = refl
held_coming Coming is = refl
held_coming Leaving is = absurd (let e : false ≡ true = is in cc)
held_coming Out is = absurd (let e : false ≡ true = is in cc)
held_coming (Lent t) is = absurd (let e : false ≡ true = is in cc)

copy_held : (c : Option states.Copy) → is_in_state is_here_or_coming c ≡ true → is_in_state is_held c ≡ true
copy_held None is = is
copy_held (Some c) is = held_coming c.state is

off : (a b : Bool) → a ≡ false → (a && b) ≡ false
off a b e = ap (λ (x : Bool). x && b) e

-- so no space is over its limit
calm_load : (plan : Plan) (st : State) (s : ℕ) → IsCalm plan st → IsOneOf (spaces plan) s → load plan st s ≤ limit plan s
calm_load plan st s calm is =
    let nobody = nobody_at_work plan st calm.sound calm.region in
    let own = total_le (blocks plan) (λ b. when (is_in_state is_here_or_coming (st.copies s b) || is_pinned plan st s b) (bytes plan b)) (λ b. when (is_in_state is_held (st.copies s b)) (bytes plan b))
    (λ b b_is. when_le (is_in_state is_here_or_coming (st.copies s b) || is_pinned plan st s b) (is_in_state is_held (st.copies s b)) (bytes plan b) (λ e. ⊎_elim
    (λ (f : is_in_state is_here_or_coming (st.copies s b) ≡ true). copy_held (st.copies s b) f)
    (λ (f : is_pinned plan st s b ≡ true). absurd (not_pinned plan st s b calm f))
    (or_cases (is_in_state is_here_or_coming (st.copies s b)) (is_pinned plan st s b) e))) in
    let args : active_bytes plan st s ≡ 0 = total_zero (tasks plan) (λ t. when (is_active (st.tasks t) && eqb (place plan t) s) (argument_bytes plan t))
    (λ t t_is. when_false (is_active (st.tasks t) && eqb (place plan t) s) (argument_bytes plan t) (off (is_active (st.tasks t)) (eqb (place plan t) s) (nobody t))) in
    let small : scratch_bytes plan st s ≡ 0 = total_zero (tasks plan) (λ t. when (is_task_held (st.tasks t) && eqb (place plan t) s) (scratch plan t))
    (λ t t_is. when_false (is_task_held (st.tasks t) && eqb (place plan t) s) (scratch plan t) (off (is_task_held (st.tasks t)) (eqb (place plan t) s) (held_is_active (st.tasks t) (nobody t)))) in
    let pin : pin_bytes plan st s ≡ 0 = ap (λ (o : Option ℕ). pin_bytes_in plan o st.pin s) calm.region in
    let within = calm.sound.limits.within s is in
    omega (arith, own, args, small, pin, within)

leaving_idle : (s : CopyState) → is_leaving s ≡ true → is_idle s ≡ true → ⊥
leaving_idle Leaving a c = cc
leaving_idle _ a c = cc

coming_idle : (s : CopyState) → is_coming s ≡ true → is_idle s ≡ true → ⊥
coming_idle Coming a c = cc
coming_idle _ a c = cc

-- no swap is legal
no_swap : (plan : Plan) (st : State) (event : Event) → IsCalm plan st → is_swap event ≡ true → May plan st event → ⊥
no_swap plan st (Pick space block) calm is may = let low = calm_load plan st space calm may.space_is in let over = may.over in omega (arith, low, over)
no_swap plan st (Gone space block) calm is may =
    not_two is_leaving is_idle leaving_idle (st.copies space block) may.leaving (calm.sound.lives.home_idle calm.region calm.pin space block (passes_any is_leaving (st.copies space block) may.leaving))
no_swap plan st (Call space block) calm is may = not_pinned plan st space block calm may.pinned
no_swap plan st (Come space block) calm is may =
    not_two is_coming is_idle coming_idle (st.copies space block) may.coming (calm.sound.lives.home_idle calm.region calm.pin space block (passes_any is_coming (st.copies space block) may.coming))
no_swap plan st _ calm is may = let e : false ≡ true = is in cc

-- where no statement asks for an event there is none
pub swaps_none : (plan : Plan) (st : State) (line : ℕ) (events : List Event) → IsCalm plan st → AreOrdered events → IsRun plan st (with_line line events) → filter is_owed events ≡ [] → events ≡ []
swaps_none plan st line [] calm ordered run none = refl
swaps_none plan st line (event ∷ events) calm ordered run none = by (is_owed event) refl none
  where
    first : (is_owed event || is_swap event) ≡ true
    first = (and_parts (is_owed event || is_swap event) (list_all (λ e. is_owed e || is_swap e) events) ordered).0

    by : (owed : Bool) → is_owed event ≡ owed → cond owed (event ∷ filter is_owed events) (filter is_owed events) ≡ [] → event ∷ events ≡ []
    by true is none = absurd (cc)
    by false is none = absurd (no_swap plan st event calm (sym (ap (λ (b : Bool). b || is_swap event) is) ∙ first) (run_first plan st (record { line = line; event = event }) (with_line line events) run).0.1)
