-- Outside a region no task is at work; without a pin nothing is then pinned, and no load passes what is resident.
use Rattle.std.proofs.Common.{◌≡◌, ℕ, ◌≤◌, true, false, ◌&&◌, ◌||◌, eqb, Option, Some, None, get_or, refl, ap, sym, ◌∙◌, ⊎_elim, arith}
use Rattle.std.specs.List.{list_any, range_with_len}
use Rattle.std.proofs.lemmas.Bool.{and_left, cases_Bool, or_cases, or_from}
use Rattle.std.proofs.lemmas.List.Folds.{list_any_none}
use Rattle.dd_blocks.specs.declared.plan.Plan.{Plan}
use Rattle.dd_machine.specs.declared.task_state.TaskState.{TaskState}
use Rattle.dd_machine.specs.declared.task_state.TaskState.TheVariants.{Waiting, Held, Running, Done}
use Rattle.dd_machine.specs.declared.copy_state.CopyState.{CopyState}
use Rattle.dd_machine.specs.declared.copy_state.CopyState.TheVariants.{Here, Leaving, Out, Coming, Lent}
use Rattle.dd_machine.specs.Bytes.{active_bytes, copy_bytes, is_pinned, is_used, load, pin_bytes, pin_bytes_in, resident, scratch_bytes, when}
use Rattle.dd_machine.specs.Sound.{IsSound}
use Rattle.dd_machine.specs.States.{Copy, State}
use Rattle.dd_machine.specs.Tests.{is_active, is_held, is_here_or_coming, is_in_state, is_pin, is_task_held}
use Rattle.dd_machine.specs.Words.{argument_bytes, blocks, bytes, place, scratch, tasks, total, touches}
use Rattle.dd_machine.proofs.TotalsLemmas.{total_le, total_zero, when_false, when_le}

pub nobody_at_work : (plan : Plan) (st : State) → IsSound plan st → st.region ≡ None → (t : ℕ) → is_active (st.tasks t) ≡ false
nobody_at_work plan st sound out t = ⊎_elim
    (λ (on : is_active (st.tasks t) ≡ true). let o = sound.limits.active_open t on in let is = o.1 in absurd (let h : None ≡ Some o.0 = sym out ∙ is in cc))
    (λ (off : is_active (st.tasks t) ≡ false). off)
    (cases_Bool (is_active (st.tasks t)))

pub nothing_used : (plan : Plan) (st : State) (space block : ℕ) → ((t : ℕ) → is_active (st.tasks t) ≡ false) → list_any (is_used plan st space block) (range_with_len 1 (tasks plan)) ≡ false
nothing_used plan st space block calm = list_any_none (is_used plan st space block) (range_with_len 1 (tasks plan))
    (λ k d lt. and_left (is_active (st.tasks (get_or (range_with_len 1 (tasks plan)) k d))) (eqb (place plan (get_or (range_with_len 1 (tasks plan)) k d)) space && touches plan (get_or (range_with_len 1 (tasks plan)) k d) block) (calm (get_or (range_with_len 1 (tasks plan)) k d)))

pub nothing_pinned : (plan : Plan) (st : State) → IsSound plan st → st.region ≡ None → st.pin ≡ None → (s b : ℕ) → is_pinned plan st s b ≡ false
nothing_pinned plan st sound out no_pin s b =
    or_from (is_pin st.pin s b) (list_any (is_used plan st s b) (range_with_len 1 (tasks plan))) (ap (λ (p : Option (ℕ × ℕ)). is_pin p s b) no_pin) (nothing_used plan st s b (nobody_at_work plan st sound out))

pub held_is_active : (t : TaskState) → is_active t ≡ false → is_task_held t ≡ false
held_is_active Waiting e = refl
held_is_active Held e = cc
held_is_active (Running w) e = refl
held_is_active Done e = refl

held_if : (c : Option Copy) → is_in_state is_here_or_coming c ≡ true → is_in_state is_held c ≡ true
held_if None e = cc
held_if (Some c) e = by c.state e
  where
    by : (s : CopyState) → is_here_or_coming s ≡ true → is_held s ≡ true
    by Here h = refl
    by Leaving h = cc
    by Out h = cc
    by Coming h = refl
    by (Lent t) h = cc

pub quiet_load : (plan : Plan) (st : State) (space : ℕ) → IsSound plan st → st.region ≡ None → st.pin ≡ None → load plan st space ≤ resident plan st space
quiet_load plan st space sound out no_pin =
    let calm = nobody_at_work plan st sound out in
    let own : total (blocks plan) (λ b. when (is_in_state is_here_or_coming (st.copies space b) || is_pinned plan st space b) (bytes plan b)) ≤ copy_bytes plan st space =
    total_le (blocks plan) (λ b. when (is_in_state is_here_or_coming (st.copies space b) || is_pinned plan st space b) (bytes plan b)) (λ b. when (is_in_state is_held (st.copies space b)) (bytes plan b))
    (λ b is. when_le (is_in_state is_here_or_coming (st.copies space b) || is_pinned plan st space b) (is_in_state is_held (st.copies space b)) (bytes plan b)
    (λ e. ⊎_elim (λ (h : is_in_state is_here_or_coming (st.copies space b) ≡ true). held_if (st.copies space b) h)
    (λ (p : is_pinned plan st space b ≡ true). let n = nothing_pinned plan st sound out no_pin space b in cc)
    (or_cases (is_in_state is_here_or_coming (st.copies space b)) (is_pinned plan st space b) e))) in
    let active : active_bytes plan st space ≡ 0 = total_zero (tasks plan) (λ t. when (is_active (st.tasks t) && eqb (place plan t) space) (argument_bytes plan t))
    (λ t is. when_false (is_active (st.tasks t) && eqb (place plan t) space) (argument_bytes plan t) (and_left (is_active (st.tasks t)) (eqb (place plan t) space) (calm t))) in
    let small : scratch_bytes plan st space ≡ 0 = total_zero (tasks plan) (λ t. when (is_task_held (st.tasks t) && eqb (place plan t) space) (scratch plan t))
    (λ t is. when_false (is_task_held (st.tasks t) && eqb (place plan t) space) (scratch plan t) (and_left (is_task_held (st.tasks t)) (eqb (place plan t) space) (held_is_active (st.tasks t) (calm t)))) in
    let pin : pin_bytes plan st space ≡ 0 = ap (λ (o : Option ℕ). pin_bytes_in plan o st.pin space) out in
    omega (arith, own, active, small, pin)
