-- In a roomy space no load passes the limit, so no block is picked.
use Rattle.std.proofs.Common.{◌≡◌, ◌≢◌, ℕ, ◌+◌, ◌<◌, ◌≤◌, Bool, true, false, ◌||◌, ◌&&◌, eqb, max, Option, Some, None, refl, ap, sym, ◌∙◌, ⊎_elim, arith}
use Rattle.std.proofs.lemmas.Bool.{and_from, and_left, and_parts, cases_Bool, eqb-true, false_from_ne_true}
use Rattle.dd_blocks.specs.declared.plan.Plan.{Plan}
use Rattle.dd_blocks.specs.Numbered.{proc_row}
use Rattle.dd_machine.specs.declared.task_state.TaskState.{TaskState}
use Rattle.dd_machine.specs.declared.task_state.TaskState.TheVariants.{Waiting, Held, Running, Done}
use Rattle.dd_machine.specs.Bytes.{active_bytes, beside_bytes, is_pinned, load, pin_bytes, pin_bytes_in, scratch_bytes, when}
use Rattle.dd_machine.specs.Roomy.{IsRoomy, all_bytes, beside, most, most_beside, procs}
use Rattle.dd_machine.specs.Sound.{IsSound}
use Rattle.dd_machine.specs.States.{State}
use Rattle.dd_machine.specs.Tests.{is_active, is_here_or_coming, is_in_state, is_task_held}
use Rattle.dd_machine.specs.Words.{IsOneOf, argument_bytes, blocks, bytes, limit, place, proc_of, scratch, tasks, total}
use Rattle.dd_machine.proofs.CalmLemmas.{held_is_active, nobody_at_work}
use Rattle.dd_machine.proofs.TotalsLemmas.{most_up, one_only, total_add, total_le, total_one, total_same, total_swap, total_zero, when_at_most, when_false, when_le, when_true}

-- each task has a processor of the Plan
abbrev pub HasProcs : Plan → Type 0
HasProcs plan = (t : ℕ) → IsOneOf (tasks plan) t → IsOneOf (procs plan) (proc_of plan t)

-- what an active task of the space takes beside its blocks
abbrev taken : Plan → State → ℕ → ℕ → ℕ
taken plan st space t = when (is_active (st.tasks t) && eqb (place plan t) space) (beside plan t)

held_on : (s : TaskState) → is_task_held s ≡ true → is_active s ≡ true
held_on Waiting e = cc
held_on Held e = refl
held_on (Running w) e = cc
held_on Done e = cc

when_add : (a : Bool) (x y : ℕ) → when a x + when a y ≡ when a (x + y)
when_add true x y = refl
when_add false x y = refl

when_pos : (a : Bool) (x : ℕ) → 0 < when a x → a ≡ true
when_pos true x h = refl
when_pos false x h = absurd (omega (arith, h))

tasks_take : (plan : Plan) (st : State) (space : ℕ) → active_bytes plan st space + scratch_bytes plan st space ≤ total (tasks plan) (taken plan st space)
tasks_take plan st space =
    let small : scratch_bytes plan st space ≤ total (tasks plan) (λ t. when (is_active (st.tasks t) && eqb (place plan t) space) (scratch plan t)) =
    total_le (tasks plan) (λ t. when (is_task_held (st.tasks t) && eqb (place plan t) space) (scratch plan t)) (λ t. when (is_active (st.tasks t) && eqb (place plan t) space) (scratch plan t))
    (λ t is. when_le (is_task_held (st.tasks t) && eqb (place plan t) space) (is_active (st.tasks t) && eqb (place plan t) space) (scratch plan t)
    (λ e. let p = and_parts (is_task_held (st.tasks t)) (eqb (place plan t) space) e in and_from (is_active (st.tasks t)) (eqb (place plan t) space) (held_on (st.tasks t) p.0) p.1)) in
    let both = total_add (tasks plan) (λ t. when (is_active (st.tasks t) && eqb (place plan t) space) (argument_bytes plan t)) (λ t. when (is_active (st.tasks t) && eqb (place plan t) space) (scratch plan t)) in
    let join = total_same (tasks plan) (λ t. when (is_active (st.tasks t) && eqb (place plan t) space) (argument_bytes plan t) + when (is_active (st.tasks t) && eqb (place plan t) space) (scratch plan t)) (taken plan st space)
    (λ t is. when_add (is_active (st.tasks t) && eqb (place plan t) space) (argument_bytes plan t) (scratch plan t)) in
    omega (arith, small, both, join)

-- by processors
by_procs : (plan : Plan) (st : State) (space : ℕ) → HasProcs plan → total (tasks plan) (taken plan st space) ≡ total (procs plan) (λ q. total (tasks plan) (λ t. when (eqb (proc_of plan t) q) (taken plan st space t)))
by_procs plan st space has =
    total_same (tasks plan) (taken plan st space) (λ t. total (procs plan) (λ q. when (eqb (proc_of plan t) q) (taken plan st space t)))
    (λ t is. sym (total_one (procs plan) (proc_of plan t) (taken plan st space t) (has t is)))
    ∙ total_swap (tasks plan) (procs plan) (λ t q. when (eqb (proc_of plan t) q) (taken plan st space t))

one_proc : (plan : Plan) (st : State) (space q : ℕ) → IsSound plan st → total (tasks plan) (λ t. when (eqb (proc_of plan t) q) (taken plan st space t)) ≤ when (eqb (proc_row plan q).space space) (most (tasks plan) (λ t. when (eqb (proc_of plan t) q) (beside plan t)))
one_proc plan st space q sound = ⊎_elim
    (λ (here : eqb (proc_row plan q).space space ≡ true).
    let all = when_true (eqb (proc_row plan q).space space) (most (tasks plan) (λ t. when (eqb (proc_of plan t) q) (beside plan t))) here in
    let one = one_only (tasks plan) (λ t. when (eqb (proc_of plan t) q) (taken plan st space t)) (λ t. when (eqb (proc_of plan t) q) (beside plan t))
    (λ t u t_is u_is t_pos u_pos. sound.limits.one_each t u (on t t_pos) (on u u_pos)
    (eqb-true (proc_of plan t) q (when_pos (eqb (proc_of plan t) q) (taken plan st space t) t_pos) ∙ sym (eqb-true (proc_of plan u) q (when_pos (eqb (proc_of plan u) q) (taken plan st space u) u_pos))))
    (λ t is. less t (eqb (proc_of plan t) q)) in
    omega (arith, all, one))
    (λ (away : eqb (proc_row plan q).space space ≡ false).
    let none = total_zero (tasks plan) (λ t. when (eqb (proc_of plan t) q) (taken plan st space t)) (λ t is. ⊎_elim
    (λ (of_q : eqb (proc_of plan t) q ≡ true).
    let elsewhere : eqb (place plan t) space ≡ false = ap (λ (x : ℕ). eqb (proc_row plan x).space space) (eqb-true (proc_of plan t) q of_q) ∙ away in
    when_true (eqb (proc_of plan t) q) (taken plan st space t) of_q ∙ ap (λ (b : Bool). when (is_active (st.tasks t) && b) (beside plan t)) elsewhere ∙ off (is_active (st.tasks t)) (beside plan t))
    (λ (not_q : eqb (proc_of plan t) q ≡ false). when_false (eqb (proc_of plan t) q) (taken plan st space t) not_q)
    (cases_Bool (eqb (proc_of plan t) q))) in
    omega (arith, none))
    (cases_Bool (eqb (proc_row plan q).space space))
  where
    off : (a : Bool) (n : ℕ) → when (a && false) n ≡ 0
    off true n = refl
    off false n = refl

    on : (t : ℕ) → 0 < when (eqb (proc_of plan t) q) (taken plan st space t) → is_active (st.tasks t) ≡ true
    on t pos =
        let inner : 0 < taken plan st space t = let m = when_at_most (eqb (proc_of plan t) q) (taken plan st space t) in omega (arith, pos, m) in
        (and_parts (is_active (st.tasks t)) (eqb (place plan t) space) (when_pos (is_active (st.tasks t) && eqb (place plan t) space) (beside plan t) inner)).0

    less : (t : ℕ) (b : Bool) → when b (taken plan st space t) ≤ when b (beside plan t)
    less t true = when_at_most (is_active (st.tasks t) && eqb (place plan t) space) (beside plan t)
    less t false = omega arith

tasks_beside : (plan : Plan) (st : State) (space : ℕ) → HasProcs plan → IsSound plan st → active_bytes plan st space + scratch_bytes plan st space ≤ most_beside plan space
tasks_beside plan st space has sound =
    let a = tasks_take plan st space in
    let b = by_procs plan st space has in
    let c = total_le (procs plan) (λ q. total (tasks plan) (λ t. when (eqb (proc_of plan t) q) (taken plan st space t))) (λ q. when (eqb (proc_row plan q).space space) (most (tasks plan) (λ t. when (eqb (proc_of plan t) q) (beside plan t))))
    (λ q is. one_proc plan st space q sound) in
    omega (arith, a, b, c)

-- nobody is at work
tasks_calm : (plan : Plan) (st : State) (space : ℕ) → ((t : ℕ) → is_active (st.tasks t) ≡ false) → active_bytes plan st space + scratch_bytes plan st space ≡ 0
tasks_calm plan st space calm =
    let active : active_bytes plan st space ≡ 0 = total_zero (tasks plan) (λ t. when (is_active (st.tasks t) && eqb (place plan t) space) (argument_bytes plan t))
    (λ t is. when_false (is_active (st.tasks t) && eqb (place plan t) space) (argument_bytes plan t) (and_left (is_active (st.tasks t)) (eqb (place plan t) space) (calm t))) in
    let small : scratch_bytes plan st space ≡ 0 = total_zero (tasks plan) (λ t. when (is_task_held (st.tasks t) && eqb (place plan t) space) (scratch plan t))
    (λ t is. when_false (is_task_held (st.tasks t) && eqb (place plan t) space) (scratch plan t) (and_left (is_task_held (st.tasks t)) (eqb (place plan t) space) (held_is_active (st.tasks t) (calm t)))) in
    omega (arith, active, small)

pinned_calm : (plan : Plan) (st : State) (r : ℕ) → IsSound plan st → st.region ≡ Some r → st.pin ≢ None → (t : ℕ) → is_active (st.tasks t) ≡ false
pinned_calm plan st r sound open_is pin t = false_from_ne_true (is_active (st.tasks t)) (λ on.
    let o = sound.limits.active_open t on in
    let done : st.tasks t ≡ Done = sound.limits.pin_calm o.0 o.1 pin t o.2 in
    let h : true ≡ false = sym on ∙ ap is_active done in cc)

pub beside_within : (plan : Plan) (st : State) (space : ℕ) → HasProcs plan → IsSound plan st → beside_bytes plan st space ≤ max (most (blocks plan) (bytes plan)) (most_beside plan space)
beside_within plan st space has sound = by st.region st.pin refl refl
  where
    by : (o : Option ℕ) (p : Option (ℕ × ℕ)) → st.region ≡ o → st.pin ≡ p → beside_bytes plan st space ≤ max (most (blocks plan) (bytes plan)) (most_beside plan space)
    by None p out pin_is =
        let calm = tasks_calm plan st space (nobody_at_work plan st sound out) in
        let pin : pin_bytes plan st space ≡ 0 = ap (λ (o : Option ℕ). pin_bytes_in plan o st.pin space) out in
        omega (arith, calm, pin)
    by (Some r) None open_is pin_is =
        let t = tasks_beside plan st space has sound in
        let pin : pin_bytes plan st space ≡ 0 = ap (λ (o : Option ℕ). pin_bytes_in plan o st.pin space) open_is ∙ ap (λ (p : Option (ℕ × ℕ)). pin_bytes_in plan (Some r) p space) pin_is in
        omega (arith, t, pin)
    by (Some r) (Some p) open_is pin_is =
        let calm = tasks_calm plan st space (pinned_calm plan st r sound open_is (λ none. let h : None ≡ Some p = sym none ∙ pin_is in cc)) in
        let pin : pin_bytes plan st space ≡ when (eqb p.0 space) (bytes plan p.1) = ap (λ (o : Option ℕ). pin_bytes_in plan o st.pin space) open_is ∙ ap (λ (q : Option (ℕ × ℕ)). pin_bytes_in plan (Some r) q space) pin_is in
        let few = when_at_most (eqb p.0 space) (bytes plan p.1) in
        let known = (sound.limits.pin_known p.0 p.1 pin_is).1 in
        let large = most_up (blocks plan) p.1 (bytes plan) known in
        omega (arith, calm, pin, few, large)

pub never_over : (plan : Plan) (st : State) (space : ℕ) → HasProcs plan → IsSound plan st → IsRoomy plan space → load plan st space ≤ limit plan space
never_over plan st space has sound roomy =
    let own : total (blocks plan) (λ b. when (is_in_state is_here_or_coming (st.copies space b) || is_pinned plan st space b) (bytes plan b)) ≤ all_bytes plan =
    total_le (blocks plan) (λ b. when (is_in_state is_here_or_coming (st.copies space b) || is_pinned plan st space b) (bytes plan b)) (bytes plan)
    (λ b is. when_at_most (is_in_state is_here_or_coming (st.copies space b) || is_pinned plan st space b) (bytes plan b)) in
    let rest = beside_within plan st space has sound in
    omega (arith, own, rest, roomy)
