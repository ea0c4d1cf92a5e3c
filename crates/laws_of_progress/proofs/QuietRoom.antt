-- What fits where all is quiet.
use Rattle.std.proofs.Common.{◌≡◌, ℕ, ◌+◌, ◌<◌, ◌≤◌, Bool, true, false, ◌||◌, ◌&&◌, eqb, Option, Some, None, refl, ap, sym, ◌∙◌, inl, inr, ⊎_elim, arith}
use Rattle.std.proofs.lemmas.Bool.{and_from, and_left, cases_Bool, eq-eqb, false_from_ne_true, or_cases, or_left, or_right}
use Rattle.dd_blocks.specs.declared.plan.Plan.{Plan}
use Rattle.dd_blocks.specs.Numbered.{block_row, task_row}
use Rattle.dd_machine.specs.declared.copy_state.CopyState.{CopyState}
use Rattle.dd_machine.specs.declared.copy_state.CopyState.TheVariants.{Here, Leaving, Out, Coming, Lent}
use Rattle.dd_machine.specs.declared.task_state.TaskState.TheVariants.{Held}
use Rattle.dd_machine.specs.Bytes.{active_bytes, beside_bytes, copy_bytes, is_lent_into, is_pinned, lent_bytes, load, reserved, resident, running_bytes, scratch_bytes, when, order_policy}
use Rattle.dd_machine.specs.GoesOn.{IsQuiet}
use Rattle.dd_machine.specs.Legal.{Fits, MayPick}
use Rattle.dd_machine.specs.Sound.{IsSound}
use Rattle.dd_machine.specs.States as states
use Rattle.dd_machine.specs.States.{State}
use Rattle.dd_machine.specs.Tests.{is_active, is_any, is_held, is_here, is_here_or_coming, is_idle, is_in_state, is_lent, is_out, is_running, is_task_held}
use Rattle.dd_machine.specs.Words.{IsOneOf, argument_bytes, blocks, bytes, limit, place, scratch, spaces, tasks, total, touches}
use Rattle.dd_machine.proofs.TestsLemmas.{not_two, passes_any}
use Rattle.dd_machine.proofs.TotalsLemmas.{total_le, total_less_one, total_zero, when_false, when_le, when_true}
use Rattle.laws_of_progress.proofs.SearchLemmas.{chosen_some, max_has, search, total_has_one}

-- ---- tests of states

idle_lent : (p : ℕ → Bool) (s : CopyState) → is_lent p s ≡ true → is_idle s ≡ true → ⊥
idle_lent p Here a b = cc
idle_lent p Leaving a b = cc
idle_lent p Out a b = cc
idle_lent p Coming a b = cc
idle_lent p (Lent t) a b = cc

idle_held : (c : Option states.Copy) → is_in_state is_idle c ≡ true → is_in_state is_held c ≡ true → is_in_state is_here c ≡ true
idle_held None a b = cc
idle_held (Some c) a b = by c.state a b
  where
    by : (s : CopyState) → is_idle s ≡ true → is_held s ≡ true → is_here s ≡ true
    by Here a b = refl
    by Leaving a b = cc
    by Out a b = cc
    by Coming a b = cc
    by (Lent t) a b = cc

idle_coming : (c : Option states.Copy) → is_in_state is_idle c ≡ true → is_in_state is_here_or_coming c ≡ true → is_in_state is_here c ≡ true
idle_coming None a b = cc
idle_coming (Some c) a b = by c.state a b
  where
    by : (s : CopyState) → is_idle s ≡ true → is_here_or_coming s ≡ true → is_here s ≡ true
    by Here a b = refl
    by Leaving a b = cc
    by Out a b = cc
    by Coming a b = cc
    by (Lent t) a b = cc

here_coming : (c : Option states.Copy) → is_in_state is_here c ≡ true → is_in_state is_here_or_coming c ≡ true
here_coming None a = cc
here_coming (Some c) a = by c.state a
  where
    by : (s : CopyState) → is_here s ≡ true → is_here_or_coming s ≡ true
    by Here a = refl
    by Leaving a = cc
    by Out a = cc
    by Coming a = cc
    by (Lent t) a = cc

pub idle_out : (c : Option states.Copy) → is_in_state is_idle c ≡ true → is_in_state is_here c ≡ false → is_in_state is_out c ≡ true
idle_out None a b = cc
idle_out (Some c) a b = by c.state a b
  where
    by : (s : CopyState) → is_idle s ≡ true → is_here s ≡ false → is_out s ≡ true
    by Here a b = cc
    by Leaving a b = cc
    by Out a b = refl
    by Coming a b = cc
    by (Lent t) a b = cc

pub none_there : (c : Option states.Copy) → is_in_state is_any c ≡ false → c ≡ None
none_there None e = refl
none_there (Some c) e = cc

-- ---- what is resident

pub no_lend : (st : State) (p : ℕ → Bool) (s b : ℕ) → IsQuiet st → is_in_state (is_lent p) (st.copies s b) ≡ false
no_lend st p s b quiet = false_from_ne_true (is_in_state (is_lent p) (st.copies s b)) (λ lent.
    not_two (is_lent p) is_idle (idle_lent p) (st.copies s b) lent (quiet.copies s b (passes_any (is_lent p) (st.copies s b) lent)))

quiet_resident : (plan : Plan) (st : State) (s : ℕ) → IsQuiet st → resident plan st s ≡ copy_bytes plan st s
quiet_resident plan st s quiet =
    let lent : lent_bytes plan st s ≡ 0 = total_zero (spaces plan) (λ x. total (blocks plan) (λ b. when (is_in_state (is_lent (is_lent_into plan st s)) (st.copies x b)) (bytes plan b)))
    (λ x x_is. total_zero (blocks plan) (λ b. when (is_in_state (is_lent (is_lent_into plan st s)) (st.copies x b)) (bytes plan b))
    (λ b b_is. when_false (is_in_state (is_lent (is_lent_into plan st s)) (st.copies x b)) (bytes plan b) (no_lend st (is_lent_into plan st s) x b quiet))) in
    let run : running_bytes plan st s ≡ 0 = total_zero (tasks plan) (λ t. when (is_running (st.tasks t) && eqb (place plan t) s) (argument_bytes plan t))
    (λ t is. when_false (is_running (st.tasks t) && eqb (place plan t) s) (argument_bytes plan t) (and_left (is_running (st.tasks t)) (eqb (place plan t) s) (quiet.tasks t))) in
    omega (arith, lent, run)

-- the blocks that count in the load
abbrev wanted : Plan → State → ℕ → ℕ → Bool
wanted plan st s b = is_in_state is_here_or_coming (st.copies s b) || is_pinned plan st s b

held_wanted : (plan : Plan) (st : State) (s b : ℕ) → IsQuiet st → is_in_state is_held (st.copies s b) ≡ true → wanted plan st s b ≡ true
held_wanted plan st s b quiet held =
    or_left (is_in_state is_here_or_coming (st.copies s b)) (is_pinned plan st s b)
    (here_coming (st.copies s b) (idle_held (st.copies s b) (quiet.copies s b (passes_any is_held (st.copies s b) held)) held))

pub fits_beside : (plan : Plan) (st : State) (s x : ℕ) → IsQuiet st → load plan st s ≤ limit plan s → x ≤ beside_bytes plan st s → Fits plan st s x
fits_beside plan st s x quiet low few =
    let res = quiet_resident plan st s quiet in
    let own : copy_bytes plan st s ≤ total (blocks plan) (λ b. when (wanted plan st s b) (bytes plan b)) =
    total_le (blocks plan) (λ b. when (is_in_state is_held (st.copies s b)) (bytes plan b)) (λ b. when (wanted plan st s b) (bytes plan b))
    (λ b is. when_le (is_in_state is_held (st.copies s b)) (wanted plan st s b) (bytes plan b) (held_wanted plan st s b quiet)) in
    omega (arith, res, own, low, few)

-- a pinned block that isn't Here
pub fits_block : (plan : Plan) (st : State) (s b : ℕ) → IsQuiet st → load plan st s ≤ limit plan s → IsOneOf (blocks plan) b → is_pinned plan st s b ≡ true → is_in_state is_here (st.copies s b) ≡ false → Fits plan st s (bytes plan b)
fits_block plan st s b quiet low b_is pinned away =
    let res = quiet_resident plan st s quiet in
    let not_held : is_in_state is_held (st.copies s b) ≡ false = false_from_ne_true (is_in_state is_held (st.copies s b)) (λ held.
    let h : true ≡ false = sym (idle_held (st.copies s b) (quiet.copies s b (passes_any is_held (st.copies s b) held)) held) ∙ away in cc) in
    let none = when_false (is_in_state is_held (st.copies s b)) (bytes plan b) not_held in
    let some = when_true (wanted plan st s b) (bytes plan b) (or_right (is_in_state is_here_or_coming (st.copies s b)) (is_pinned plan st s b) pinned) in
    let own : copy_bytes plan st s + bytes plan b ≤ total (blocks plan) (λ b. when (wanted plan st s b) (bytes plan b)) =
    total_less_one (blocks plan) (λ b. when (is_in_state is_held (st.copies s b)) (bytes plan b)) (λ b. when (wanted plan st s b) (bytes plan b)) b (bytes plan b) b_is
    (λ k is ne. when_le (is_in_state is_held (st.copies s k)) (wanted plan st s k) (bytes plan k) (held_wanted plan st s k quiet))
    (omega (arith, none, some)) in
    omega (arith, res, own, low)

-- ---- what a Held task takes

pub arguments_beside : (plan : Plan) (st : State) (t : ℕ) → IsOneOf (tasks plan) t → is_active (st.tasks t) ≡ true → argument_bytes plan t ≤ beside_bytes plan st (place plan t)
arguments_beside plan st t is on =
    let s = place plan t in
    let one = when_true (is_active (st.tasks t) && eqb (place plan t) s) (argument_bytes plan t) (and_from (is_active (st.tasks t)) (eqb (place plan t) s) on (eq-eqb (place plan t) s refl)) in
    let all : argument_bytes plan t ≤ active_bytes plan st s = total_has_one (tasks plan) t (argument_bytes plan t) (λ u. when (is_active (st.tasks u) && eqb (place plan u) s) (argument_bytes plan u)) is (omega (arith, one)) in
    omega (arith, all)

scratch_has : (plan : Plan) (t b : ℕ) → touches plan t b ≡ true → bytes plan b ≤ scratch plan t
unfolding scratch
scratch_has plan t b touched = let h = max_has (task_row plan t).blocks (λ block. (block_row plan block).size) 0 b touched in omega (arith, h)

pub scratch_beside : (plan : Plan) (st : State) (t b : ℕ) → IsOneOf (tasks plan) t → st.tasks t ≡ Held → touches plan t b ≡ true → bytes plan b ≤ beside_bytes plan st (place plan t)
scratch_beside plan st t b is held touched =
    let s = place plan t in
    let one = when_true (is_task_held (st.tasks t) && eqb (place plan t) s) (scratch plan t) (and_from (is_task_held (st.tasks t)) (eqb (place plan t) s) (ap is_task_held held) (eq-eqb (place plan t) s refl)) in
    let all : scratch plan t ≤ scratch_bytes plan st s = total_has_one (tasks plan) t (scratch plan t) (λ u. when (is_task_held (st.tasks u) && eqb (place plan u) s) (scratch plan u)) is (omega (arith, one)) in
    let few = scratch_has plan t b touched in
    omega (arith, all, few)

-- ---- a load above the limit

pub picks : (plan : Plan) (st : State) (s : ℕ) → IsSound plan st → IsQuiet st → IsOneOf (spaces plan) s → reserved plan st s ≤ limit plan s → limit plan s < load plan st s → (block : ℕ) × MayPick plan st s block
picks plan st s sound quiet s_is low over = ⊎_elim
    (λ (found : (block : ℕ) × MayPick plan st s block). found)
    (λ (all : (b : ℕ) → IsOneOf (blocks plan) b → is_in_state is_here (st.copies s b) ≡ true → is_pinned plan st s b ≡ true). absurd (
    let few = total_le (blocks plan) (λ b. when (wanted plan st s b) (bytes plan b)) (λ b. when (is_pinned plan st s b) (bytes plan b))
    (λ b is. when_le (wanted plan st s b) (is_pinned plan st s b) (bytes plan b) (λ w. ⊎_elim
    (λ (h : is_in_state is_here_or_coming (st.copies s b) ≡ true). all b is (idle_coming (st.copies s b) (quiet.copies s b (passes_any is_here_or_coming (st.copies s b) h)) h))
    (λ (p : is_pinned plan st s b ≡ true). p)
    (or_cases (is_in_state is_here_or_coming (st.copies s b)) (is_pinned plan st s b) w))) in
    omega (arith, few, low, over)))
    (search (blocks plan) (λ b. is_in_state is_here (st.copies s b) ≡ true → is_pinned plan st s b ≡ true) (λ b is. ⊎_elim
    (λ (pinned : is_pinned plan st s b ≡ true). inr (λ here. pinned))
    (λ (off : is_pinned plan st s b ≡ false). ⊎_elim
    (λ (here : is_in_state is_here (st.copies s b) ≡ true).
    let v = chosen_some (order_policy plan.policy) (is_pinned plan st s) (st.orders s) b (sound.limits.order_has s b here) off in
    inl (v.0, record { space_is = s_is; over = over; is_victim = v.1 }))
    (λ (away : is_in_state is_here (st.copies s b) ≡ false). inr (λ here. let h : true ≡ false = sym here ∙ away in cc))
    (cases_Bool (is_in_state is_here (st.copies s b))))
    (cases_Bool (is_pinned plan st s b))))
