-- What is wanted is pinned, and what is pinned and not Here is wanted.
use Rattle.std.proofs.Common.{◌≡◌, ◌⊎◌, ℕ, ◌+◌, ◌-◌, ◌<◌, ◌≤◌, Bool, true, false, cond, ◌&&◌, eqb, get_or, Option, Some, None, refl, ap, sym, ◌∙◌, subst, inl, inr, ⊎_elim, arith}
use Rattle.std.specs.Prelude.{not}
use Rattle.std.specs.List.{list_any, range_with_len}
use Rattle.std.proofs.lemmas.Bool.{and_from, and_parts, eq-eqb, eqb-true, false_from_ne_true, ne_eqb, not-true, not_from_false, or_cases, or_left, or_right}
use Rattle.std.proofs.lemmas.List.Folds.{Any-from_list_any, list_any_at}
use Rattle.std.proofs.lemmas.List.FromFn.{get_or-range_with_len, length-range_with_len}
use Rattle.dd_blocks.specs.declared.plan.Plan.{Plan}
use Rattle.dd_machine.specs.declared.task_state.TaskState.{TaskState}
use Rattle.dd_machine.specs.declared.task_state.TaskState.TheVariants.{Waiting, Held, Running, Done}
use Rattle.dd_machine.specs.Bytes.{is_pinned, is_used}
use Rattle.dd_machine.specs.Needed.{is_current_at, is_needed, own_space}
use Rattle.dd_machine.specs.Sound.{IsSound}
use Rattle.dd_machine.specs.States.{State}
use Rattle.dd_machine.specs.Tests.{Has, is_active, is_any, is_here, is_in_state, is_pin, is_running}
use Rattle.dd_machine.specs.Words.{IsOf, place, size, tasks, touches}
use Rattle.laws_of_limits.proofs.PinsKept.{same_some}
use Rattle.laws_of_bound.specs.Cost.{is_short, is_stale}
use Rattle.laws_of_bound.proofs.FetchLemmas.{short_absent, short_by, short_needed}
use Rattle.laws_of_bound.proofs.RestLemmas.{Wants}
use Rattle.laws_of_bound.proofs.SumsLemmas.{any_at, any_some}

pub own_task : (plan : Plan) (st : State) (t b : ℕ) → 1 ≤ t → own_space plan st t b ≡ place plan t
own_task plan st t b low = ap (λ (x : Bool). cond x (st.homes b) (place plan t)) (ne_eqb t 0 (λ e. omega (arith, low, e)))

pub pin_tells : (p : Option (ℕ × ℕ)) (s b : ℕ) → is_pin p s b ≡ true → p ≡ Some (s, b)
pin_tells None s b is = absurd cc
pin_tells (Some (x, y)) s b is =
    let parts = and_parts (eqb x s) (eqb y b) is in
    ap (λ (k : ℕ). Some (k, y)) (eqb-true x s parts.0) ∙ ap (λ (k : ℕ). Some (s, k)) (eqb-true y b parts.1)

pub pin_is : (p : Option (ℕ × ℕ)) (s b : ℕ) → p ≡ Some (s, b) → is_pin p s b ≡ true
pin_is p s b is = ap (λ (o : Option (ℕ × ℕ)). is_pin o s b) is ∙ and_from (eqb s s) (eqb b b) (eq-eqb s s refl) (eq-eqb b b refl)

pub wants_pinned : (plan : Plan) (st : State) (r t b : ℕ) → Wants plan st r t b → is_pinned plan st (own_space plan st t b) b ≡ true
wants_pinned plan st r t b wants = ⊎_elim
    (λ (w : IsOf plan r t × (st.tasks t ≡ Held) × (touches plan t b ≡ true)).
    let on : is_active (st.tasks t) ≡ true = ap is_active w.1 in
    let own = own_task plan st t b w.0.0.0 in
    ap (λ (s : ℕ). is_pinned plan st s b) own ∙
    or_right (is_pin st.pin (place plan t) b) (list_any (is_used plan st (place plan t) b) (range_with_len 1 (tasks plan)))
    (list_any_at (is_used plan st (place plan t) b) (range_with_len 1 (tasks plan)) (t - 1) t (omega (arith, length-range_with_len 1 (tasks plan), w.0.0.0, w.0.0.1))
    (let at : get_or (range_with_len 1 (tasks plan)) (t - 1) t ≡ t = get_or-range_with_len 1 (tasks plan) (t - 1) t (omega (arith, w.0.0.0, w.0.0.1)) ∙ (let e : 1 + (t - 1) ≡ t = omega (arith, w.0.0.0) in e) in
    ap (is_used plan st (place plan t) b) at
    ∙ and_from (is_active (st.tasks t)) (eqb (place plan t) (place plan t) && touches plan t b) on (and_from (eqb (place plan t) (place plan t)) (touches plan t b) (eq-eqb (place plan t) (place plan t) refl) w.2))))
    (λ (w : (t ≡ 0) × (is_pin st.pin (st.homes b) b ≡ true)).
    ap (λ (k : ℕ). is_pinned plan st (own_space plan st k b) b) w.0 ∙ or_left (is_pin st.pin (st.homes b) b) (list_any (is_used plan st (st.homes b) b) (range_with_len 1 (tasks plan))) w.1)
    wants

active_is : (x : TaskState) → is_active x ≡ true → (is_running x ≡ true) ⊎ (x ≡ Held)
active_is Waiting on = absurd cc
active_is Held on = inr refl
active_is (Running w) on = inl refl
active_is Done on = absurd cc

pub record IsWanted (plan : Plan) (st : State) (r space block : ℕ) : Type 0 where
  pub task : ℕ
  pub wants : Wants plan st r task block
  pub own : own_space plan st task block ≡ space

pub pinned_wanted : (plan : Plan) (st : State) (r space block : ℕ) → IsSound plan st → st.region ≡ Some r → (is_in_state is_here (st.copies space block) ≡ true → ⊥) → is_pinned plan st space block ≡ true → IsWanted plan st r space block
pinned_wanted plan st r space block sound open_in not_here pinned = ⊎_elim
    (λ (p : is_pin st.pin space block ≡ true).
    let is = pin_tells st.pin space block p in
    let home : st.homes block ≡ space = sound.limits.pin_home r space block open_in is in
    record { task = 0; wants = inr (refl, rw home p); own = home })
    (λ (u : list_any (is_used plan st space block) (range_with_len 1 (tasks plan)) ≡ true).
    let any = Any-from_list_any (is_used plan st space block) (range_with_len 1 (tasks plan)) u in
    let t : ℕ = any.1 in
    let parts = and_parts (is_active (st.tasks t)) (eqb (place plan t) space && touches plan t block) any.4 in
    let both = and_parts (eqb (place plan t) space) (touches plan t block) parts.1 in
    let at : place plan t ≡ space = eqb-true (place plan t) space both.0 in
    let o = sound.limits.active_open t parts.0 in
    let same : o.0 ≡ r = same_some o.0 r st.region o.1 open_in in
    let of : IsOf plan r t = subst (λ (k : ℕ). IsOf plan k t) same o.2 in
    let held : st.tasks t ≡ Held = ⊎_elim
    (λ (run : is_running (st.tasks t) ≡ true). absurd (not_here (subst (λ (x : ℕ). Has st x block is_here) at (sound.limits.running_here t block run both.1))))
    (λ (h : st.tasks t ≡ Held). h)
    (active_is (st.tasks t) parts.0) in
    record { task = t; wants = inl (of, held, both.1); own = own_task plan st t block of.0.0 ∙ at })
    (or_cases (is_pin st.pin space block) (list_any (is_used plan st space block) (range_with_len 1 (tasks plan))) pinned)

-- with no more places needed, and the own copy there as before, no more is short
pub short_same : (plan : Plan) (new st : State) (t b own s : ℕ) → is_in_state is_any (new.copies own b) ≡ is_in_state is_any (st.copies own b)
    → ((i : ℕ) → i < size plan b → is_needed plan new t b s i ≡ true → is_needed plan st t b s i ≡ true)
    → is_short plan new t b own s ≡ true → is_short plan st t b own s ≡ true
short_same plan new st t b own s any needs short =
    short_by plan new t b own s (λ none. short_absent plan st t b own s (sym any ∙ none)) (λ i lt is. short_needed plan st t b own s i lt (needs i lt is)) short

pub stale_same : (plan : Plan) (new st : State) (s b : ℕ) → ((i : ℕ) → i < size plan b → is_current_at plan st s b i ≡ true → is_current_at plan new s b i ≡ true) → is_stale plan new s b ≡ true → is_stale plan st s b ≡ true
unfolding is_stale
stale_same plan new st s b now is =
    let h = any_some (size plan b) (λ i. not (is_current_at plan new s b i)) is in
    let off : is_current_at plan new s b h.0 ≡ false = not-true (is_current_at plan new s b h.0) h.2 in
    any_at (size plan b) (λ i. not (is_current_at plan st s b i)) h.0 h.1
    (not_from_false (is_current_at plan st s b h.0) (false_from_ne_true (is_current_at plan st s b h.0) (λ on. let e : true ≡ false = sym (now h.0 h.1 on) ∙ off in cc)))
