-- What is pinned fits into each space, event by event.
use Rattle.std.proofs.Common.{◌≡◌, ◌≢◌, ℕ, ◌+◌, ◌*◌, ◌≤◌, Bool, true, false, ◌&&◌, eqb, List, [], ◌∷◌, Option, Some, None, refl, ap, sym, ◌∙◌, subst, ⊎_elim, arith}
use Rattle.std.specs.List.{list_any, range_with_len}
use Rattle.std.proofs.lemmas.Bool.{and_from, and_parts, cases_eq, eqb-true, false_from_ne_true, ne_eqb, or_cases, or_left, or_right}
use Rattle.dd_blocks.specs.declared.plan.Plan.{Plan}
use Rattle.dd_machine.specs.declared.event.Event.{Event}
use Rattle.dd_machine.specs.declared.event.Event.TheVariants.{Ask, Rest, Put, Shift, Free, Begin, Hold, Pick, Gone, Make, Call, Come, Lend, Copy, Claim, Finish, Back, Close}
use Rattle.dd_machine.specs.declared.task_state.TaskState.{TaskState}
use Rattle.dd_machine.specs.declared.task_state.TaskState.TheVariants.{Held, Running, Done}
use Rattle.dd_machine.specs.Bytes.{active_bytes, is_pinned, is_used, pin_bytes, pin_bytes_in, reserved, scratch_bytes, when}
use Rattle.dd_machine.specs.Effects.{after}
use Rattle.dd_machine.specs.Legal.{AllDone, May}
use Rattle.dd_machine.specs.Sound.{IsSound}
use Rattle.dd_machine.specs.States.{State, at_one}
use Rattle.dd_machine.specs.Tests.{is_active, is_pin, is_task_held}
use Rattle.dd_machine.specs.Words.{IsOneOf, argument_bytes, blocks, bytes, limit, place, scratch, spaces, tasks, total, touches}
use Rattle.dd_machine.proofs.CalmLemmas.{held_is_active, nobody_at_work, nothing_used}
use Rattle.dd_machine.proofs.ChangesLemmas.{at_one_tells}
use Rattle.dd_machine.proofs.TestsLemmas.{rested_at}
use Rattle.dd_machine.proofs.TotalsLemmas.{total_le, total_le_one, total_zero, when_at_most, when_false, when_le}
use Rattle.dd_blocks.specs.WellFormed.{IsWellFormed}
use Rattle.dd_machine.specs.Runs.{start}
use Rattle.dd_machine.specs.SoundProgress.{SoundProgress}
use Rattle.laws_of_progress.proofs.HomesKept.{ask_fits}

pub any_le : (p q : ℕ → Bool) (xs : List ℕ) → ((x : ℕ) → p x ≡ true → q x ≡ true) → list_any p xs ≡ true → list_any q xs ≡ true
any_le p q [] h e = e
any_le p q (x ∷ xs) h e = ⊎_elim
    (λ (f : p x ≡ true). or_left (q x) (list_any q xs) (h x f))
    (λ (f : list_any p xs ≡ true). or_right (q x) (list_any q xs) (any_le p q xs h f))
    (or_cases (p x) (list_any p xs) e)

-- a task on the space that is at work now was so before
abbrev pub ActiveBefore : Plan → State → State → ℕ → Type 0
ActiveBefore plan st new s = (t : ℕ) → place plan t ≡ s → is_active (new.tasks t) ≡ true → is_active (st.tasks t) ≡ true

abbrev pub HeldOnBefore : Plan → State → State → ℕ → Type 0
HeldOnBefore plan st new s = (t : ℕ) → place plan t ≡ s → is_task_held (new.tasks t) ≡ true → is_task_held (st.tasks t) ≡ true

pub pinned_le : (plan : Plan) (st new : State) (s b : ℕ) → ActiveBefore plan st new s → (is_pin new.pin s b ≡ true → is_pin st.pin s b ≡ true) → is_pinned plan new s b ≡ true → is_pinned plan st s b ≡ true
pinned_le plan st new s b active pin e = ⊎_elim
    (λ (f : is_pin new.pin s b ≡ true). or_left (is_pin st.pin s b) (list_any (is_used plan st s b) (range_with_len 1 (tasks plan))) (pin f))
    (λ (f : list_any (is_used plan new s b) (range_with_len 1 (tasks plan)) ≡ true). or_right (is_pin st.pin s b) (list_any (is_used plan st s b) (range_with_len 1 (tasks plan)))
    (any_le (is_used plan new s b) (is_used plan st s b) (range_with_len 1 (tasks plan)) used f))
    (or_cases (is_pin new.pin s b) (list_any (is_used plan new s b) (range_with_len 1 (tasks plan))) e)
  where
    used : (t : ℕ) → is_used plan new s b t ≡ true → is_used plan st s b t ≡ true
    used t u =
        let p = and_parts (is_active (new.tasks t)) (eqb (place plan t) s && touches plan t b) u in
        let q = and_parts (eqb (place plan t) s) (touches plan t b) p.1 in
        and_from (is_active (st.tasks t)) (eqb (place plan t) s && touches plan t b) (active t (eqb-true (place plan t) s q.0) p.0) p.1

pub reserved_le : (plan : Plan) (st new : State) (s : ℕ) → ActiveBefore plan st new s → HeldOnBefore plan st new s → ((b : ℕ) → is_pin new.pin s b ≡ true → is_pin st.pin s b ≡ true) → pin_bytes plan new s ≤ pin_bytes plan st s
    → reserved plan new s ≤ reserved plan st s
reserved_le plan st new s active held pin few =
    let own = total_le (blocks plan) (λ b. when (is_pinned plan new s b) (bytes plan b)) (λ b. when (is_pinned plan st s b) (bytes plan b))
    (λ b is. when_le (is_pinned plan new s b) (is_pinned plan st s b) (bytes plan b) (pinned_le plan st new s b active (pin b))) in
    let args = total_le (tasks plan) (λ t. when (is_active (new.tasks t) && eqb (place plan t) s) (argument_bytes plan t)) (λ t. when (is_active (st.tasks t) && eqb (place plan t) s) (argument_bytes plan t))
    (λ t is. when_le (is_active (new.tasks t) && eqb (place plan t) s) (is_active (st.tasks t) && eqb (place plan t) s) (argument_bytes plan t)
    (λ e. let p = and_parts (is_active (new.tasks t)) (eqb (place plan t) s) e in and_from (is_active (st.tasks t)) (eqb (place plan t) s) (active t (eqb-true (place plan t) s p.1) p.0) p.1)) in
    let small = total_le (tasks plan) (λ t. when (is_task_held (new.tasks t) && eqb (place plan t) s) (scratch plan t)) (λ t. when (is_task_held (st.tasks t) && eqb (place plan t) s) (scratch plan t))
    (λ t is. when_le (is_task_held (new.tasks t) && eqb (place plan t) s) (is_task_held (st.tasks t) && eqb (place plan t) s) (scratch plan t)
    (λ e. let p = and_parts (is_task_held (new.tasks t)) (eqb (place plan t) s) e in and_from (is_task_held (st.tasks t)) (eqb (place plan t) s) (held t (eqb-true (place plan t) s p.1) p.0) p.1)) in
    omega (arith, own, args, small, few)

-- nobody is at work: beside the pin nothing is reserved
pub calm_reserved : (plan : Plan) (st : State) (s : ℕ) → ((t : ℕ) → is_active (st.tasks t) ≡ false) → reserved plan st s ≤ total (blocks plan) (λ b. when (is_pin st.pin s b) (bytes plan b)) + pin_bytes plan st s
calm_reserved plan st s calm =
    let own = total_le (blocks plan) (λ b. when (is_pinned plan st s b) (bytes plan b)) (λ b. when (is_pin st.pin s b) (bytes plan b))
    (λ b is. when_le (is_pinned plan st s b) (is_pin st.pin s b) (bytes plan b) (λ e. ⊎_elim
    (λ (f : is_pin st.pin s b ≡ true). f)
    (λ (f : list_any (is_used plan st s b) (range_with_len 1 (tasks plan)) ≡ true). absurd (let h : true ≡ false = sym f ∙ nothing_used plan st s b calm in cc))
    (or_cases (is_pin st.pin s b) (list_any (is_used plan st s b) (range_with_len 1 (tasks plan))) e))) in
    let args : active_bytes plan st s ≡ 0 = total_zero (tasks plan) (λ t. when (is_active (st.tasks t) && eqb (place plan t) s) (argument_bytes plan t))
    (λ t is. when_false (is_active (st.tasks t) && eqb (place plan t) s) (argument_bytes plan t) (off (is_active (st.tasks t)) (eqb (place plan t) s) (calm t))) in
    let small : scratch_bytes plan st s ≡ 0 = total_zero (tasks plan) (λ t. when (is_task_held (st.tasks t) && eqb (place plan t) s) (scratch plan t))
    (λ t is. when_false (is_task_held (st.tasks t) && eqb (place plan t) s) (scratch plan t) (off (is_task_held (st.tasks t)) (eqb (place plan t) s) (held_is_active (st.tasks t) (calm t)))) in
    omega (arith, own, args, small)
  where
    off : (a b : Bool) → a ≡ false → (a && b) ≡ false
    off a b e = ap (λ (x : Bool). x && b) e

-- where all tasks of the open region are done nobody is at work
pub done_calm : (plan : Plan) (st : State) → IsSound plan st → ((r : ℕ) → st.region ≡ Some r → AllDone plan st r) → (t : ℕ) → is_active (st.tasks t) ≡ false
done_calm plan st sound done t = false_from_ne_true (is_active (st.tasks t)) (λ on.
    let o = sound.limits.active_open t on in
    let d : st.tasks t ≡ Done = done o.0 o.1 t o.2 in
    let h : true ≡ false = sym on ∙ ap is_active d in cc)

abbrev pub ReservedWithin : Plan → State → Type 0
ReservedWithin plan st = (s : ℕ) → IsOneOf (spaces plan) s → reserved plan st s ≤ limit plan s

below : (a b c : ℕ) → a ≤ b → b ≤ c → a ≤ c
below a b c h k = omega arith

pin_few : (plan : Plan) (o : Option ℕ) (space block s : ℕ) → pin_bytes_in plan o (Some (space, block)) s ≤ when (eqb space s) (bytes plan block)
pin_few plan None space block s = omega arith
pin_few plan (Some r) space block s = omega arith

pin_none : (plan : Plan) (o : Option ℕ) (s : ℕ) → pin_bytes_in plan o None s ≡ 0
pin_none plan None s = refl
pin_none plan (Some r) s = refl

asked : (plan : Plan) (st : State) (space block : ℕ) → IsWellFormed plan → IsSound plan st → SoundProgress plan st → May plan st (Ask space block) → ReservedWithin plan (after plan st (Ask space block))
asked plan st space block well sound able may s s_is =
    let new = after plan st (Ask space block) in
    let calm = calm_reserved plan new s (done_calm plan st sound may.all_done) in
    let none = total_zero (blocks plan) (λ b. 0) (λ k is. refl) in
    let pin : pin_bytes plan new s ≤ when (eqb space s) (bytes plan block) = pin_few plan st.region space block s in
    ⊎_elim
    (λ (same : space ≡ s).
    let one = total_le_one (blocks plan) (λ b. when (eqb space s && eqb block b) (bytes plan b)) (λ b. 0) block (bytes plan block)
    (λ k is ne. (let e = when_false (eqb space s && eqb block k) (bytes plan k) (right (eqb space s) (eqb block k) (ne_eqb block k (λ x. ne (sym x)))) in omega (arith, e)))
    (let e = when_at_most (eqb space s && eqb block block) (bytes plan block) in omega (arith, e)) in
    let few = when_at_most (eqb space s) (bytes plan block) in
    let lim : 2 * bytes plan block ≤ limit plan s = subst (λ (x : ℕ). 2 * bytes plan block ≤ limit plan x) same twice in
    omega (arith, calm, one, none, pin, few, lim))
    (λ (other : space ≡ s → ⊥).
    let off = ne_eqb space s other in
    let zero_all = total_zero (blocks plan) (λ b. when (eqb space s && eqb block b) (bytes plan b)) (λ k is. when_false (eqb space s && eqb block k) (bytes plan k) (ap (λ (x : Bool). x && eqb block k) off)) in
    let gone = when_false (eqb space s) (bytes plan block) off in
    omega (arith, calm, zero_all, pin, gone))
    (cases_eq space s)
  where
    right : (a b : Bool) → b ≡ false → (a && b) ≡ false
    right true b e = e
    right false b e = refl

    twice : 2 * bytes plan block ≤ limit plan space
    twice = by st.region refl
      where
        by : (o : Option ℕ) → st.region ≡ o → 2 * bytes plan block ≤ limit plan space
        by None out = (ask_fits plan st block space well may.block_is (may.due out)).1
        by (Some r) open_is = subst (λ (x : ℕ). 2 * bytes plan block ≤ limit plan x) (may.home r open_is) (able.home_fits block may.block_is).1

-- the state of one task changes
tasks_at : (plan : Plan) (st : State) (task : ℕ) (x : TaskState) (s : ℕ) → (place plan task ≡ s → is_active x ≡ true → is_active (st.tasks task) ≡ true) → (place plan task ≡ s → is_task_held x ≡ true → is_task_held (st.tasks task) ≡ true)
    → reserved plan (record st { tasks = at_one st.tasks task x }) s ≤ reserved plan st s
tasks_at plan st task x s active held = reserved_le plan st (record st { tasks = at_one st.tasks task x }) s (was is_active active) (was is_task_held held) (λ b e. e) (omega arith)
  where
    was : (test : TaskState → Bool) → (place plan task ≡ s → test x ≡ true → test (st.tasks task) ≡ true) → (t : ℕ) → place plan t ≡ s → test (at_one st.tasks task x t) ≡ true → test (st.tasks t) ≡ true
    was test h t at on = ⊎_elim
        (λ (e : (t ≡ task) × (at_one st.tasks task x t ≡ x)). ap (λ (y : ℕ). test (st.tasks y)) e.0 ∙ h (ap (place plan) (sym e.0) ∙ at) (ap test (sym e.1) ∙ on))
        (λ (e : (t ≢ task) × (at_one st.tasks task x t ≡ st.tasks t)). ap test (sym e.1) ∙ on)
        (at_one_tells st.tasks task x t)

pub keeps_reserved_within : (plan : Plan) (st : State) (event : Event) → IsWellFormed plan → IsSound plan st → SoundProgress plan st → May plan st event → ReservedWithin plan (after plan st event)
keeps_reserved_within plan st (Ask space block) well sound able may = asked plan st space block well sound able may
keeps_reserved_within plan st Rest well sound able may = subst (ReservedWithin plan) (sym (rested_at plan st may))
    (λ s s_is.
    let bare = record st { pin = None } in
    let none : pin_bytes plan bare s ≡ 0 = pin_none plan st.region s in
    below (reserved plan bare s) (reserved plan st s) (limit plan s)
    (reserved_le plan st bare s (λ t at on. on) (λ t at on. on) (λ b e. absurd cc) (omega (arith, none)))
    (able.reserved_within s s_is))
keeps_reserved_within plan st (Put block) well sound able may = able.reserved_within
keeps_reserved_within plan st (Shift block space) well sound able may = able.reserved_within
keeps_reserved_within plan st (Free space block) well sound able may = able.reserved_within
keeps_reserved_within plan st (Begin region) well sound able may = λ s s_is.
    let new = after plan st (Begin region) in
    let calm = calm_reserved plan new s (nobody_at_work plan st sound may.outside) in
    let own = total_zero (blocks plan) (λ b. when (is_pin st.pin s b) (bytes plan b)) (λ k is. when_false (is_pin st.pin s k) (bytes plan k) (ap (λ (p : Option (ℕ × ℕ)). is_pin p s k) may.no_pin)) in
    let pin : pin_bytes plan new s ≡ 0 = ap (λ (p : Option (ℕ × ℕ)). pin_bytes_in plan (Some region) p s) may.no_pin in
    omega (arith, calm, own, pin)
keeps_reserved_within plan st (Close region) well sound able may = λ s s_is.
    below (reserved plan (after plan st (Close region)) s) (reserved plan st s) (limit plan s)
    (reserved_le plan st (after plan st (Close region)) s (λ t at on. on) (λ t at on. on) (λ b e. e) (omega arith))
    (able.reserved_within s s_is)
keeps_reserved_within plan st (Hold task) well sound able may = λ s s_is. ⊎_elim
    (λ (same : place plan task ≡ s). subst (λ (x : ℕ). reserved plan (after plan st (Hold task)) x ≤ limit plan x) same may.room)
    (λ (other : place plan task ≡ s → ⊥). below (reserved plan (after plan st (Hold task)) s) (reserved plan st s) (limit plan s)
    (tasks_at plan st task Held s (λ at on. absurd (other at)) (λ at on. absurd (other at))) (able.reserved_within s s_is))
    (cases_eq (place plan task) s)
keeps_reserved_within plan st (Claim task worker) well sound able may = λ s s_is. below (reserved plan (after plan st (Claim task worker)) s) (reserved plan st s) (limit plan s)
    (tasks_at plan st task (Running worker) s (λ at on. ap is_active may.held) (λ at on. absurd cc)) (able.reserved_within s s_is)
keeps_reserved_within plan st (Finish task) well sound able may = λ s s_is. below (reserved plan (after plan st (Finish task)) s) (reserved plan st s) (limit plan s)
    (tasks_at plan st task Done s (λ at on. absurd cc) (λ at on. absurd cc)) (able.reserved_within s s_is)
keeps_reserved_within plan st (Pick space block) well sound able may = able.reserved_within
keeps_reserved_within plan st (Gone space block) well sound able may = able.reserved_within
keeps_reserved_within plan st (Make task block) well sound able may = able.reserved_within
keeps_reserved_within plan st (Call space block) well sound able may = able.reserved_within
keeps_reserved_within plan st (Come space block) well sound able may = able.reserved_within
keeps_reserved_within plan st (Lend task block source) well sound able may = able.reserved_within
keeps_reserved_within plan st (Copy task block source count) well sound able may = able.reserved_within
keeps_reserved_within plan st (Back block source count) well sound able may = able.reserved_within

-- at the start nothing is reserved
pub start_reserved : (plan : Plan) → ReservedWithin plan (start plan)
start_reserved plan s s_is =
    let calm = calm_reserved plan (start plan) s (λ t. refl) in
    let own = total_zero (blocks plan) (λ b. when (is_pin None s b) (bytes plan b)) (λ k is. refl) in
    omega (arith, calm, own)
