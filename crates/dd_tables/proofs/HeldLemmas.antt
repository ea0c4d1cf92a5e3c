-- What one more task that is Held takes of its space.
use Rattle.std.proofs.Common.{◌≡◌, ◌≢◌, ℕ, zero, suc, ◌+◌, ◌<◌, ◌≤◌, Bool, true, false, ◌||◌, ◌&&◌, cond, eqb, refl, ap, sym, ◌∙◌, ⊎_elim, arith}
use Rattle.std.specs.List.{list_any, range_with_len}
use Rattle.std.proofs.lemmas.Bool.{cases_eq, eq-eqb, ne_eqb}
use Rattle.dd_blocks.specs.declared.plan.Plan.{Plan}
use Rattle.dd_machine.specs.declared.task_state.TaskState.{TaskState}
use Rattle.dd_machine.specs.declared.task_state.TaskState.TheVariants.{Held, Waiting}
use Rattle.dd_machine.specs.Bytes.{active_bytes, beside_bytes, is_pinned, is_used, pin_bytes, reserved, scratch_bytes, when}
use Rattle.dd_machine.specs.Legal.{held_too}
use Rattle.dd_machine.specs.States.{State, at_one}
use Rattle.dd_machine.specs.Tests.{is_active, is_pin, is_task_held}
use Rattle.dd_machine.specs.Words.{IsOneOf, argument_bytes, blocks, bytes, place, scratch, tasks, total, touches}
use Rattle.dd_machine.proofs.TotalsLemmas.{total_more_one, total_same}

any_same : (p q : ℕ → Bool) (a n : ℕ) → ((k : ℕ) → a ≤ k → p k ≡ q k) → list_any p (range_with_len a n) ≡ list_any q (range_with_len a n)
any_same p q a zero same = refl
any_same p q a (suc n) same =
    ap (λ (t : Bool). t || list_any p (range_with_len (a + 1) n)) (same a (omega arith))
    ∙ ap (λ (t : Bool). q a || t) (any_same p q (a + 1) n (λ k le. same k (omega (arith, le))))

or_false_first : (a b : Bool) → (a || b) ≡ ((false || b) || a)
or_false_first true true = refl
or_false_first true false = refl
or_false_first false true = refl
or_false_first false false = refl

or_assoc : (a b c : Bool) → (a || (b || c)) ≡ ((a || b) || c)
or_assoc true b c = refl
or_assoc false b c = refl

-- a test that holds of one number more, where it may hold
any_one : (p q : ℕ → Bool) (t a n : ℕ) → a ≤ t → t < a + n → p t ≡ false → ((k : ℕ) → k ≢ t → q k ≡ p k)
    → list_any q (range_with_len a n) ≡ (list_any p (range_with_len a n) || q t)
any_one p q t a zero low high off same = absurd (omega (arith, low, high))
any_one p q t a (suc n) low high off same = ⊎_elim
    (λ (e : a ≡ t).
    let rest = any_same q p (a + 1) n (λ k le. same k (λ f. omega (arith, le, e, f))) in
    let here : p a ≡ false = ap p e ∙ off in
    ap (λ (x : Bool). q a || x) rest
    ∙ or_false_first (q a) (list_any p (range_with_len (a + 1) n))
    ∙ ap (λ (x : Bool). (x || list_any p (range_with_len (a + 1) n)) || q a) (sym here)
    ∙ ap (λ (k : ℕ). (p a || list_any p (range_with_len (a + 1) n)) || q k) e)
    (λ (ne : a ≡ t → ⊥).
    let rest = any_one p q t (a + 1) n (omega (arith, low, ne)) (omega (arith, high)) off same in
    ap (λ (x : Bool). x || list_any q (range_with_len (a + 1) n)) (same a ne)
    ∙ ap (λ (x : Bool). p a || x) rest
    ∙ or_assoc (p a) (list_any p (range_with_len (a + 1) n)) (q t))
    (cases_eq a t)

held_is : (st : State) (task : ℕ) → (held_too st task).tasks task ≡ Held
unfolding at_one
held_is st task = ap (λ (t : Bool). cond t Held (st.tasks task)) (eq-eqb task task refl)

others : (st : State) (task k : ℕ) → k ≢ task → (held_too st task).tasks k ≡ st.tasks k
unfolding at_one
others st task k ne = ap (λ (t : Bool). cond t Held (st.tasks k)) (ne_eqb k task ne)

-- the blocks that are pinned, or touched by the task
abbrev pub pinned_with : Plan → State → ℕ → ℕ → ℕ
pinned_with plan st space task = total (blocks plan) (λ b. when (is_pinned plan st space b || touches plan task b) (bytes plan b))

module _ (plan : Plan) (st : State) (task : ℕ) (is : IsOneOf (tasks plan) task) (waiting : st.tasks task ≡ Waiting) where
  on : eqb (place plan task) (place plan task) ≡ true
  on = eq-eqb (place plan task) (place plan task) refl

  used : (b : ℕ) → is_used plan (held_too st task) (place plan task) b task ≡ touches plan task b
  used b =
      ap (λ (t : TaskState). is_active t && (eqb (place plan task) (place plan task) && touches plan task b)) (held_is st task)
      ∙ ap (λ (t : Bool). t && touches plan task b) on

  unused : (b : ℕ) → is_used plan st (place plan task) b task ≡ false
  unused b = ap (λ (t : TaskState). is_active t && (eqb (place plan task) (place plan task) && touches plan task b)) waiting

  pinned : (b : ℕ) → is_pinned plan (held_too st task) (place plan task) b ≡ (is_pinned plan st (place plan task) b || touches plan task b)
  pinned b =
      let p = is_used plan st (place plan task) b in
      let q = is_used plan (held_too st task) (place plan task) b in
      let high : task < 1 + tasks plan = (let h = is.1 in omega (arith, h)) in
      let any = any_one p q task 1 (tasks plan) is.0 high (unused b) (λ k ne. ap (λ (t : TaskState). is_active t && (eqb (place plan k) (place plan task) && touches plan k b)) (others st task k ne)) in
      ap (λ (t : Bool). is_pin st.pin (place plan task) b || t) (any ∙ ap (λ (t : Bool). list_any p (range_with_len 1 (tasks plan)) || t) (used b))
      ∙ or_assoc (is_pin st.pin (place plan task) b) (list_any p (range_with_len 1 (tasks plan))) (touches plan task b)

  active : active_bytes plan (held_too st task) (place plan task) ≡ active_bytes plan st (place plan task) + argument_bytes plan task
  active =
      total_more_one (tasks plan) (λ t. when (is_active ((held_too st task).tasks t) && eqb (place plan t) (place plan task)) (argument_bytes plan t))
      (λ t. when (is_active (st.tasks t) && eqb (place plan t) (place plan task)) (argument_bytes plan t)) task (argument_bytes plan task) is
      (λ k _ ne. ap (λ (t : TaskState). when (is_active t && eqb (place plan k) (place plan task)) (argument_bytes plan k)) (others st task k ne))
      (let now : when (is_active ((held_too st task).tasks task) && eqb (place plan task) (place plan task)) (argument_bytes plan task) ≡ argument_bytes plan task =
      ap (λ (t : TaskState). when (is_active t && eqb (place plan task) (place plan task)) (argument_bytes plan task)) (held_is st task) ∙ ap (λ (t : Bool). when t (argument_bytes plan task)) on in
      let before : when (is_active (st.tasks task) && eqb (place plan task) (place plan task)) (argument_bytes plan task) ≡ 0 =
      ap (λ (t : TaskState). when (is_active t && eqb (place plan task) (place plan task)) (argument_bytes plan task)) waiting in
      omega (arith, now, before))

  scratched : scratch_bytes plan (held_too st task) (place plan task) ≡ scratch_bytes plan st (place plan task) + scratch plan task
  scratched =
      total_more_one (tasks plan) (λ t. when (is_task_held ((held_too st task).tasks t) && eqb (place plan t) (place plan task)) (scratch plan t))
      (λ t. when (is_task_held (st.tasks t) && eqb (place plan t) (place plan task)) (scratch plan t)) task (scratch plan task) is
      (λ k _ ne. ap (λ (t : TaskState). when (is_task_held t && eqb (place plan k) (place plan task)) (scratch plan k)) (others st task k ne))
      (let now : when (is_task_held ((held_too st task).tasks task) && eqb (place plan task) (place plan task)) (scratch plan task) ≡ scratch plan task =
      ap (λ (t : TaskState). when (is_task_held t && eqb (place plan task) (place plan task)) (scratch plan task)) (held_is st task) ∙ ap (λ (t : Bool). when t (scratch plan task)) on in
      let before : when (is_task_held (st.tasks task) && eqb (place plan task) (place plan task)) (scratch plan task) ≡ 0 =
      ap (λ (t : TaskState). when (is_task_held t && eqb (place plan task) (place plan task)) (scratch plan task)) waiting in
      omega (arith, now, before))

  pub reserved_held : reserved plan (held_too st task) (place plan task) ≡ pinned_with plan st (place plan task) task + (beside_bytes plan st (place plan task) + (argument_bytes plan task + scratch plan task))
  reserved_held =
      let blocks_are = total_same (blocks plan) (λ b. when (is_pinned plan (held_too st task) (place plan task) b) (bytes plan b))
      (λ b. when (is_pinned plan st (place plan task) b || touches plan task b) (bytes plan b)) (λ b _. ap (λ (t : Bool). when t (bytes plan b)) (pinned b)) in
      let a = active in
      let s = scratched in
      let p : pin_bytes plan (held_too st task) (place plan task) ≡ pin_bytes plan st (place plan task) = refl in
      omega (arith, blocks_are, a, s, p)
