-- What entries leave of the spare that copies keep.
use Rattle.std.proofs.Common.{◌≡◌, ℕ, zero, suc, ◌<◌, length, ◌*◌, ◌≤◌, Bool, true, false, ◌&&◌, eqb as nat_eq, inl, inr, [], ◌∷◌, Bor, Option, Some, None, refl, sym, ap, ◌∙◌, subst, ⊎_elim, arith}
use Rattle.std.proofs.lemmas.Bool.{and_parts, cases_Bool, eqb-true}
use Rattle.std.proofs.Math.Nat.{mul-le-mul_right}
use Rattle.dd_blocks.specs.declared.plan.Plan.{Plan}
use Rattle.dd_blocks.specs.WellFormed.{IsWellFormed}
use Rattle.dd_blocks.proofs.NumberedLemmas.{task_names_rows}
use Rattle.dd_holding.specs.Quiet.{is_quiet, is_steady}
use Rattle.dd_holding.specs.Users.{HasSpare, is_user, most_wanted, users, wanted}
use Rattle.dd_ledger.specs.declared.ledger.Ledger.{Ledger}
use Rattle.dd_ledger.specs.Ledgers.{GrowsBy, state_now}
use Rattle.dd_ledger.proofs.GrowsLemmas.{state_next, state_stays}
use Rattle.dd_machine.specs.declared.entry.Entry.{Entry}
use Rattle.dd_machine.specs.declared.event.Event.{Event}
use Rattle.dd_machine.specs.declared.event.Event.TheVariants as event
use Rattle.dd_machine.specs.declared.task_state.TaskState.{TaskState}
use Rattle.dd_machine.specs.declared.task_state.TaskState.TheVariants.{Waiting, Held, Running, Done}
use Rattle.dd_machine.specs.Bytes.{when}
use Rattle.dd_machine.specs.Effects.{after, after_rest}
use Rattle.dd_machine.specs.Legal.{May}
use Rattle.dd_machine.specs.Roomy.{most}
use Rattle.dd_machine.specs.Sound.{IsSound}
use Rattle.dd_machine.specs.States.{State}
use Rattle.dd_machine.specs.Tests.{Has, is_active, is_here, is_in_state, is_running}
use Rattle.dd_machine.specs.Words.{IsOneOf, place, proc_of, size, tasks, total, touches}
use Rattle.dd_machine.proofs.ChangesLemmas.{at_one_tells}
use Rattle.dd_machine.proofs.TotalsLemmas.{one_only, total_le, total_one, total_same, total_swap, total_zero, when_at_most, when_false}
use Rattle.dd_pool.specs.declared.pool.Pool.{Pool}
use Rattle.dd_pool.specs.Places.{IsPlace}
use Rattle.dd_pool.specs.Pools.{copy_at}
use Rattle.dd_pool.proofs.CellsLemmas.{same_or_not}
use Rattle.dd_stamps.specs.declared.stamped.Stamped.{Stamped}
use Rattle.dd_store.specs.declared.store.Slot.{Ghosts as SlotGhosts}
use Rattle.dd_store.specs.declared.store.Store.{Ghosts}
use Rattle.dd_holding.proofs.ChangedLemmas.{none_some}

no_more : {A : Type 0} → false ≡ true → A
no_more e = absurd (cc)

-- what touches no values is steady
pub quiet_steady : (ev : Event) → is_quiet ev ≡ true → is_steady ev ≡ true
quiet_steady (event.Ask space block) quiet = refl
quiet_steady event.Rest quiet = refl
quiet_steady (event.Put block) quiet = refl
quiet_steady (event.Shift block space) quiet = refl
quiet_steady (event.Free space block) quiet = refl
quiet_steady (event.Begin region) quiet = refl
quiet_steady (event.Hold task) quiet = refl
quiet_steady (event.Pick space block) quiet = refl
quiet_steady (event.Gone space block) quiet = refl
quiet_steady (event.Make task block) quiet = refl
quiet_steady (event.Call space block) quiet = refl
quiet_steady (event.Come space block) quiet = refl
quiet_steady (event.Lend task block source) quiet = refl
quiet_steady (event.Copy task block source count) quiet = refl
quiet_steady (event.Claim task worker) quiet = no_more quiet
quiet_steady (event.Finish task) quiet = no_more quiet
quiet_steady (event.Back block source count) quiet = refl
quiet_steady (event.Close region) quiet = refl

-- the same tasks run after a steady event
rest_tasks : (plan : Plan) (st : State) (pin : Option (ℕ × ℕ)) → (after_rest plan st pin).tasks ≡ st.tasks
rest_tasks plan st None = refl
rest_tasks plan st (Some p) = refl

pub running_same : (plan : Plan) (st : State) (ev : Event) → May plan st ev → is_steady ev ≡ true → (t : ℕ) → is_running ((after plan st ev).tasks t) ≡ is_running (st.tasks t)
running_same plan st (event.Ask space block) may steady t = refl
running_same plan st event.Rest may steady t = ap (λ (known : ℕ → TaskState). is_running (known t)) (rest_tasks plan st st.pin)
running_same plan st (event.Put block) may steady t = refl
running_same plan st (event.Shift block space) may steady t = refl
running_same plan st (event.Free space block) may steady t = refl
running_same plan st (event.Begin region) may steady t = refl
running_same plan st (event.Hold task) may steady t = ⊎_elim
    (λ h. ap is_running h.1 ∙ sym (ap (λ (n : ℕ). is_running (st.tasks n)) h.0 ∙ ap is_running may.waiting))
    (λ h. ap is_running h.1)
    (at_one_tells st.tasks task Held t)
running_same plan st (event.Pick space block) may steady t = refl
running_same plan st (event.Gone space block) may steady t = refl
running_same plan st (event.Make task block) may steady t = refl
running_same plan st (event.Call space block) may steady t = refl
running_same plan st (event.Come space block) may steady t = refl
running_same plan st (event.Lend task block source) may steady t = refl
running_same plan st (event.Copy task block source count) may steady t = refl
running_same plan st (event.Claim task worker) may steady t = no_more steady
running_same plan st (event.Finish task) may steady t = no_more steady
running_same plan st (event.Back block source count) may steady t = refl
running_same plan st (event.Close region) may steady t = refl

-- a block that isn't Here has no users
pub unused : (plan : Plan) (st : State) (space block : ℕ) → IsSound plan st → is_in_state is_here (st.copies space block) ≡ false → users plan st space block ≡ 0
unused plan st space block sound away =
    total_zero (tasks plan) (λ t. when (is_user plan st space block t) 1) (λ t _. when_false (is_user plan st space block t) 1 (⊎_elim
    (λ (is : is_user plan st space block t ≡ true).
    let parts = and_parts (is_running (st.tasks t)) (nat_eq (place plan t) space && touches plan t block) is in
    let rest = and_parts (nat_eq (place plan t) space) (touches plan t block) parts.1 in
    let there : place plan t ≡ space = eqb-true (place plan t) space rest.0 in
    let here : Has st (place plan t) block is_here = sound.limits.running_here t block parts.0 rest.1 in
    no_more (sym away ∙ sym (ap (λ (s : ℕ). is_in_state is_here (st.copies s block)) there) ∙ here))
    (λ (no : is_user plan st space block t ≡ false). no)
    (cases_Bool (is_user plan st space block t))))

-- a total of ones
ones : (n : ℕ) → total n (λ k. 1) ≡ n
ones zero = refl
ones (suc n) = let rest = ones n in omega (arith, rest)

most_one : (n : ℕ) → most n (λ k. 1) ≤ 1
most_one zero = omega arith
most_one (suc n) = let rest = most_one n in omega (arith, rest)

-- no more tasks use a block than there are processors
pub few_users : (plan : Plan) (st : State) (space block : ℕ) → IsWellFormed plan → IsSound plan st → users plan st space block ≤ length plan.procs
few_users plan st space block well sound =
    let user = λ (t : ℕ). when (is_user plan st space block t) 1 in
    let on = λ (p t : ℕ). when (nat_eq (proc_of plan t) p) (user t) in
    let split : total (tasks plan) user ≡ total (tasks plan) (λ t. total (length plan.procs) (λ p. on p t)) =
    total_same (tasks plan) user (λ t. total (length plan.procs) (λ p. on p t)) (λ t is. sym (total_one (length plan.procs) (proc_of plan t) (user t) (known t is))) in
    let swap = total_swap (tasks plan) (length plan.procs) (λ t p. on p t) in
    let each : total (length plan.procs) (λ p. total (tasks plan) (λ t. on p t)) ≤ total (length plan.procs) (λ p. 1) =
    total_le (length plan.procs) (λ p. total (tasks plan) (λ t. on p t)) (λ p. 1) (λ p _. alone p) in
    let count = ones (length plan.procs) in
    omega (arith, split, swap, each, count)
  where
    known : (t : ℕ) → IsOneOf (tasks plan) t → IsOneOf (length plan.procs) (proc_of plan t)
    known t is = (task_names_rows plan well t is).proc

    some_when : (a : Bool) (n : ℕ) → 0 < when a n → (a ≡ true) × (0 < n)
    some_when true n some = (refl, some)
    some_when false n some = absurd (omega (arith, some))

    running_active : (s : TaskState) → is_running s ≡ true → is_active s ≡ true
    running_active (Running w) is = refl
    running_active Held is = refl
    running_active Done is = no_more is
    running_active Waiting is = no_more is

    at_most : (t p : ℕ) → when (nat_eq (proc_of plan t) p) (when (is_user plan st space block t) 1) ≤ 1
    at_most t p =
        let outer = when_at_most (nat_eq (proc_of plan t) p) (when (is_user plan st space block t) 1) in
        let inner = when_at_most (is_user plan st space block t) 1 in
        omega (arith, outer, inner)

    runs_on : (t p : ℕ) → 0 < when (nat_eq (proc_of plan t) p) (when (is_user plan st space block t) 1) → (proc_of plan t ≡ p) × (is_running (st.tasks t) ≡ true)
    runs_on t p some =
        let here = some_when (nat_eq (proc_of plan t) p) (when (is_user plan st space block t) 1) some in
        let used = some_when (is_user plan st space block t) 1 here.1 in
        (eqb-true (proc_of plan t) p here.0, (and_parts (is_running (st.tasks t)) (nat_eq (place plan t) space && touches plan t block) used.0).0)

    alone : (p : ℕ) → total (tasks plan) (λ t. when (nat_eq (proc_of plan t) p) (when (is_user plan st space block t) 1)) ≤ 1
    alone p =
        let only = one_only (tasks plan) (λ t. when (nat_eq (proc_of plan t) p) (when (is_user plan st space block t) 1)) (λ t. 1)
        (λ i j _ _ some other.
        let a = runs_on i p some in
        let b = runs_on j p other in
        sound.limits.one_each i j (running_active (st.tasks i) a.1) (running_active (st.tasks j) b.1) (a.0 ∙ sym b.0))
        (λ i _. at_most i p) in
        let one = most_one (tasks plan) in
        omega (arith, only, one)

-- so the most that is wanted is enough
pub most_enough : (plan : Plan) (st : State) (space block : ℕ) → IsWellFormed plan → IsSound plan st → wanted plan st space block ≤ most_wanted plan block
most_enough plan st space block well sound = mul-le-mul_right (2 * size plan block) (few_users plan st space block well sound)

module _ {D S : Type 0} {g : Ghosts D S} {h : SlotGhosts S} where
  -- a ledger that is in a state, with what holds in that state
  pub spare_at : (l u : Ledger) (pool : Pool D S g h) (st : State) → u.plan ≡ l.plan → state_now u ≡ st → HasSpare l.plan.now st pool → HasSpare u.plan.now (state_now u) pool
  spare_at l u pool st same is spare =
      subst (λ (p : Bor Plan). HasSpare p.now (state_now u) pool) (sym same) (subst (λ (x : State). HasSpare l.plan.now x pool) (sym is) spare)

  spare_same : (plan : Plan) (st new : State) (pool : Pool D S g h) → ((t : ℕ) → is_running (new.tasks t) ≡ is_running (st.tasks t)) → HasSpare plan st pool → HasSpare plan new pool
  unfolding HasSpare
  spare_same plan st new pool same spare = λ s b copy is there.
      let count : users plan new s b ≡ users plan st s b = total_same (tasks plan) (λ t. when (is_user plan new s b t) 1) (λ t. when (is_user plan st s b t) 1)
      (λ t _. ap (λ (r : Bool). when (r && (nat_eq (place plan t) s && touches plan t b)) 1) (same t)) in
      subst (λ (n : ℕ). n * (2 * size plan b) ≤ copy.versions.spare) (sym count) (spare s b copy is there)

  -- after a steady entry
  pub steady : (l u : Ledger) (pool : Pool D S g h) (entry : Entry) → GrowsBy l u (entry ∷ []) → May l.plan.now (state_now l) entry.event → is_steady entry.event ≡ true
      → HasSpare l.plan.now (state_now l) pool → HasSpare u.plan.now (state_now u) pool
  steady l u pool entry grows may is spare =
      let plan = l.plan.now in
      let st = state_now l in
      let new = after plan st entry.event in
      spare_at l u pool new grows.plan (state_next l u entry grows) (spare_same plan st new pool (running_same plan st entry.event may is) spare)

  -- after no entry
  pub still_spare : (l u : Ledger) (pool : Pool D S g h) → GrowsBy l u [] → HasSpare l.plan.now (state_now l) pool → HasSpare u.plan.now (state_now u) pool
  still_spare l u pool grows spare = spare_at l u pool (state_now l) grows.plan (state_stays l u grows) spare

  -- where the copies are the same, or have more spare, or are gone
  pub spare_kept : (plan : Plan) (st : State) (pool now : Pool D S g h) → ((s b : ℕ) → IsPlace plan s b → copy_at now s b ≡ copy_at pool s b) → HasSpare plan st pool → HasSpare plan st now
  unfolding HasSpare
  spare_kept plan st pool now same spare = λ s b copy is there. spare s b copy is (sym (same s b is) ∙ there)

  pub spare_put : (plan : Plan) (st : State) (pool now : Pool D S g h) (space block : ℕ) (copy : Stamped) → ((s b : ℕ) → IsPlace plan s b → (s ≡ space → b ≡ block → ⊥) → copy_at now s b ≡ copy_at pool s b)
      → copy_at now space block ≡ Some copy → wanted plan st space block ≤ copy.versions.spare → HasSpare plan st pool → HasSpare plan st now
  unfolding HasSpare
  spare_put plan st pool now space block copy others here enough spare = λ s b c is there.
      elim (same_or_not s space) [
        | inl e ↦ elim (same_or_not b block) [
          | inl f ↦
              let held : Some copy ≡ Some c = sym here ∙ sym (ap (λ (n : ℕ). copy_at now n b) e ∙ ap (copy_at now space) f) ∙ there in
              let one : copy ≡ c = (cc) in
              subst (λ (n : ℕ). wanted plan st n b ≤ c.versions.spare) (sym e) (subst (λ (n : ℕ). wanted plan st space n ≤ c.versions.spare) (sym f)
              (subst (λ (x : Stamped). wanted plan st space block ≤ x.versions.spare) one enough))
          | inr f ↦ spare s b c is (sym (others s b is (λ x y. f y)) ∙ there)
        ]
        | inr e ↦ spare s b c is (sym (others s b is (λ x y. e x)) ∙ there)
      ]

  pub spare_taken : (plan : Plan) (st : State) (pool now : Pool D S g h) (space block : ℕ) → ((s b : ℕ) → IsPlace plan s b → (s ≡ space → b ≡ block → ⊥) → copy_at now s b ≡ copy_at pool s b)
      → copy_at now space block ≡ None → HasSpare plan st pool → HasSpare plan st now
  unfolding HasSpare
  spare_taken plan st pool now space block others gone spare = λ s b c is there.
      elim (same_or_not s space) [
        | inl e ↦ elim (same_or_not b block) [
          | inl f ↦ none_some (copy_at now s b) c (ap (λ (n : ℕ). copy_at now n b) e ∙ ap (copy_at now space) f ∙ gone) there
          | inr f ↦ spare s b c is (sym (others s b is (λ x y. f y)) ∙ there)
        ]
        | inr e ↦ spare s b c is (sym (others s b is (λ x y. e x)) ∙ there)
      ]

  -- without copies
  pub spare_empty : (l : Ledger) (pool : Pool D S g h) → ((s b : ℕ) → copy_at pool s b ≡ None) → HasSpare l.plan.now (state_now l) pool
  unfolding HasSpare
  spare_empty l pool none = λ s b copy _ there. none_some (copy_at pool s b) copy (none s b) there
