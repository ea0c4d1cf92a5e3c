-- A task that ends: what it stores, and what that leaves of a holding's facts.
use Rattle.std.proofs.Common.{◌≡◌, ◌⊎◌, ℕ, suc, ◌+◌, ◌*◌, ◌≤◌, ◌<◌, Bool, true, false, cond, eqb as nat_eq, List, [], ◌∷◌, length, All, Bor, Option, Some, None, refl, sym, ap, ◌∙◌, subst, ⊎_elim, arith}
use Rattle.std.specs.Prelude.{Contains, IsSomeAnd, slice_index}
use Rattle.std.specs.List.Sorted.{IsStrictlyIncreasing}
use Rattle.std.specs.Option.{option_map}
use Rattle.std.proofs.lemmas.Bool.{and_from, cases_Bool, eq-eqb, eqb-true}
use Rattle.std.proofs.lemmas.List.{ext_get_or}
use Rattle.std.proofs.Math.Nat.{mul-le-mul_right, suc-mul}
use Rattle.dd_blocks.specs.declared.plan.Plan.{Plan}
use Rattle.dd_blocks.specs.Numbered.{IsNumberIn, task_row}
use Rattle.dd_blocks.specs.WellFormed.{IsWellFormed}
use Rattle.dd_blocks.specs.PlanElements.{element_of}
use Rattle.dd_blocks.proofs.NumberedLemmas.{task_names_rows}
use Rattle.dd_holding.specs.Facts.{HasHere, HasSlots, IsHolding, IsTelling, stamps}
use Rattle.dd_holding.specs.Users.{HasSpare, users, wanted}
use Rattle.dd_holding.specs.Views.{here_versions, is_in_slot, versions_where_state}
use Rattle.dd_holding.specs.Works.{StoresAll}
use Rattle.dd_holding.proofs.CarriedLemmas.{where_here}
use Rattle.dd_holding.proofs.CarryLemmas.{copy_ours, some_of}
use Rattle.dd_holding.proofs.FactsLemmas.{holding_of}
use Rattle.dd_holding.proofs.HereLemmas.{in_memory, place_there, sound_now, versions_here}
use Rattle.dd_holding.proofs.MoreLemmas.{both_are}
use Rattle.dd_holding.proofs.QuietLemmas.{telling_before}
use Rattle.dd_holding.proofs.SlotsLemmas.{here_slot, no_slot}
use Rattle.dd_holding.proofs.SpareLemmas.{spare_at}
use Rattle.dd_holding.proofs.UsersLemmas.{count_few, is_its, is_its_there, its_or_not, less_users, not_its, one_user, same_users}
use Rattle.dd_ledger.specs.declared.ledger.Ledger.{Ledger}
use Rattle.dd_ledger.specs.Ledgers.{GrowsBy, state_now}
use Rattle.dd_ledger.proofs.GrowsLemmas.{state_next}
use Rattle.dd_lists.proofs.ListsLemmas.{has_number, number_in}
use Rattle.dd_machine.specs.declared.copy_state.CopyState.{CopyState}
use Rattle.dd_machine.specs.declared.copy_state.CopyState.TheVariants.{Here}
use Rattle.dd_machine.specs.declared.entry.Entry.{Entry}
use Rattle.dd_machine.specs.declared.event.Event.TheVariants.{Finish}
use Rattle.dd_machine.specs.declared.task_state.TaskState.{TaskState}
use Rattle.dd_machine.specs.declared.task_state.TaskState.TheVariants.{Waiting, Held, Running, Done}
use Rattle.dd_machine.specs.Effects.{after, after_finish, copy_where, finish_copy, versions_where}
use Rattle.dd_machine.specs.Legal.{Legal, May}
use Rattle.dd_machine.specs.Sound.{IsSound}
use Rattle.dd_machine.specs.States.{Copy, State, at_one}
use Rattle.dd_machine.specs.Tests.{Has, is_active, is_any, is_here, is_in_state, is_running, versions_of}
use Rattle.dd_machine.specs.Words.{IsOneOf, element, place, size, tasks, touches, writes}
use Rattle.dd_machine.proofs.ChangesLemmas.{at_one_same, at_one_tells}
use Rattle.dd_machine.proofs.TestsLemmas.{passes_any}
use Rattle.dd_pool.specs.declared.pool.Pool.{Pool}
use Rattle.dd_pool.specs.Places.{IsPlace}
use Rattle.dd_pool.specs.Pools.{copy_at, out_at}
use Rattle.dd_spans.proofs.MembersLemmas.{all_from_contains}
use Rattle.dd_stamps.specs.Copies.{MayStore, Stores, written_places}
use Rattle.dd_stamps.specs.Stored.{HoldsNumber}
use Rattle.dd_stamps.specs.declared.stamped.Stamped.{Stamped}
use Rattle.dd_stamps.specs.declared.work.Stage.TheVariants.{Ran}
use Rattle.dd_stamps.specs.declared.work.Work.{Work}
use Rattle.dd_store.specs.declared.store.Slot.{Ghosts as SlotGhosts}
use Rattle.dd_store.specs.declared.store.Store.{Ghosts}
use Rattle.laws_of_lives.proofs.ElementsLemmas.{touches_used}
use Rattle.laws_of_versions.proofs.ConflictLemmas.{use_of_write}
use Rattle.laws_of_versions.proofs.WhereLemmas.{copy_where_hit, copy_where_tells, length_copy_where}

-- the entry ends the task of a work that was run
pub record IsFinish (l : Ledger) (entry : Entry) (work : Work) : Type 0 where
  pub well : IsWellFormed l.plan.now
  pub legal : Legal l.plan.now (state_now l) entry
  pub event : entry.event ≡ Finish work.task
  pub plan : work.plan ≡ l.plan
  pub ran : work.stage ≡ Ran

pub running_now : (l : Ledger) (entry : Entry) (work : Work) → IsFinish l entry work → is_running ((state_now l).tasks work.task) ≡ true
running_now l entry work finish = subst (May l.plan.now (state_now l)) finish.event finish.legal.1

running_active : (s : TaskState) → is_running s ≡ true → is_active s ≡ true
running_active (Running w) is = refl
running_active Held is = refl
running_active Done is = absurd (let e : false ≡ true = is in cc)
running_active Waiting is = absurd (let e : false ≡ true = is in cc)

pub finish_task : (l : Ledger) (entry : Entry) (work : Work) → IsFinish l entry work → IsOneOf (tasks l.plan.now) work.task
finish_task l entry work finish =
    ((sound_now l finish.well).limits.active_open work.task (running_active ((state_now l).tasks work.task) (running_now l entry work finish))).2.0

pub finish_here : (l : Ledger) (entry : Entry) (work : Work) (block : ℕ) → IsFinish l entry work → touches l.plan.now work.task block ≡ true → Has (state_now l) (place l.plan.now work.task) block is_here
finish_here l entry work block finish touched = (sound_now l finish.well).limits.running_here work.task block (running_now l entry work finish) touched

pub finish_place : (l : Ledger) (entry : Entry) (work : Work) (block : ℕ) → IsFinish l entry work → touches l.plan.now work.task block ≡ true → IsPlace l.plan.now (place l.plan.now work.task) block
finish_place l entry work block finish touched = place_there l is_here (place l.plan.now work.task) block (finish_here l entry work block finish touched)

-- the versions of a copy after a task's number was set where it writes
numbered_versions : (plan : Plan) (task block : ℕ) (old new : List ℕ) → length old ≡ size plan block
    → HoldsNumber (task_row plan task).accesses (element_of plan block) (size plan block) task old new
    → new ≡ versions_where (λ i. writes plan task (element plan block i)) (λ i. task) 0 old
unfolding writes element
numbered_versions plan task block old new long holds =
    ext_get_or 0 new (versions_where changed (λ i. task) 0 old) (holds.count ∙ sym (length_copy_where changed (λ i. task) copy)) (λ i lt. by i lt (cases_Bool (changed i)))
  where
    changed : ℕ → Bool
    changed i = writes plan task (element plan block i)

    copy : Option Copy
    copy = Some (record { state = Here; versions = old })

    by : (i : ℕ) → i < length new → (changed i ≡ true) ⊎ (changed i ≡ false) → slice_index new i ≡ slice_index (versions_where changed (λ i. task) 0 old) i
    by i lt known =
        let count = holds.count in
        let small : i < size plan block = omega (arith, lt, count, long) in
        let at = holds.each i small in
        ⊎_elim
        (λ (on : changed i ≡ true).
        at ∙ ap (λ (t : Bool). cond t task (slice_index old i)) on ∙ sym (copy_where_hit changed (λ i. task) copy i on (omega (arith, lt, count))))
        (λ (off : changed i ≡ false).
        at ∙ ap (λ (t : Bool). cond t task (slice_index old i)) off
        ∙ ⊎_elim
        (λ (same : slice_index (versions_where changed (λ i. task) 0 old) i ≡ slice_index old i). sym same)
        (λ (hit : (changed i ≡ true) × (slice_index (versions_where changed (λ i. task) 0 old) i ≡ task)). let h : true ≡ false = sym hit.0 ∙ off in absurd (cc))
        (copy_where_tells changed (λ i. task) copy i))
        known

-- a copy in which nothing was set is as it was
unwritten : (test : CopyState → Bool) (changed : ℕ → Bool) (new : ℕ → ℕ) (c : Option Copy) → ((i : ℕ) → i < length (versions_of c) → changed i ≡ false)
    → versions_where_state test (copy_where changed new c) ≡ versions_where_state test c
unwritten test changed new None none = refl
unwritten test changed new (Some c) none =
    ap (λ (vs : List ℕ). cond (test c.state) (Some vs) None)
    (ext_get_or 0 (versions_where changed new 0 c.versions) c.versions (length_copy_where changed new (Some c)) (λ i lt.
    ⊎_elim
    (λ (same : slice_index (versions_where changed new 0 c.versions) i ≡ slice_index c.versions i). same)
    (λ (hit : (changed i ≡ true) × (slice_index (versions_where changed new 0 c.versions) i ≡ new i)).
    let count = length_copy_where changed new (Some c) in
    let h : true ≡ false = sym hit.0 ∙ none i (omega (arith, lt, count)) in absurd (cc))
    (copy_where_tells changed new (Some c) i)))

-- the copies that aren't the task's are seen as they were
module _ (plan : Plan) (st : State) (task : ℕ) (well : IsWellFormed plan) (sound : IsSound plan st) (is : IsOneOf (tasks plan) task) where
  pub finished_others : (test : CopyState → Bool) (s b : ℕ) → is_its plan task s b ≡ false → versions_where_state test (finish_copy plan st task s b) ≡ versions_where_state test (st.copies s b)
  finished_others test s b off = by (nat_eq s (place plan task)) refl
    where
      changed : ℕ → Bool
      changed i = writes plan task (element plan b i)

      untouched : nat_eq s (place plan task) ≡ true → (i : ℕ) → i < length (versions_of (st.copies s b)) → changed i ≡ false
      untouched same i lt = ⊎_elim
          (λ (on : changed i ≡ true). absurd (not_its plan task s b off (eqb-true s (place plan task) same) (touches_used plan well task b i is (small (st.copies s b) refl lt) (use_of_write plan task (element plan b i) on))))
          (λ (no : changed i ≡ false). no)
          (cases_Bool (changed i))
        where
          small : (c : Option Copy) → st.copies s b ≡ c → i < length (versions_of (st.copies s b)) → i < size plan b
          small None at lt = let e : length (versions_of (st.copies s b)) ≡ 0 = ap (λ (c : Option Copy). length (versions_of c)) at in absurd (omega (arith, e, lt))
          small (Some c) at lt = let e = sound.versions.sized s b (ap (is_in_state is_any) at) in omega (arith, e, lt)

      by : (t : Bool) → nat_eq s (place plan task) ≡ t → versions_where_state test (cond t (copy_where changed (λ i. task) (st.copies s b)) (st.copies s b)) ≡ versions_where_state test (st.copies s b)
      by true same = unwritten test changed (λ i. task) (st.copies s b) (untouched same)
      by false same = refl

  pub finished_its : (b : ℕ) → finish_copy plan st task (place plan task) b ≡ copy_where (λ i. writes plan task (element plan b i)) (λ i. task) (st.copies (place plan task) b)
  finished_its b = ap (λ (t : Bool). cond t (copy_where (λ i. writes plan task (element plan b i)) (λ i. task) (st.copies (place plan task) b)) (st.copies (place plan task) b)) (eq-eqb (place plan task) (place plan task) refl)

writes_few : (plan : Plan) (task block : ℕ) → written_places plan task block ≤ size plan block
writes_few plan task block = count_few _ (size plan block)

-- one user less wants so much less
less_wanted : (a b k old new : ℕ) → a + 1 ≤ b → b * k ≤ old → old ≤ new + k → a * k ≤ new
less_wanted a b k old new fewer was spent =
    let up = mul-le-mul_right k fewer in
    let e : (a + 1) * k ≡ a * k + k = one_more a k in
    omega (arith, up, e, was, spent)
  where
    one_more : (a k : ℕ) → (a + 1) * k ≡ a * k + k
    one_more a k = let e : a + 1 ≡ suc a = omega arith in ap (λ (n : ℕ). n * k) e ∙ suc-mul a k

module _ {D S : Type 0} {g : Ghosts D S} {h : SlotGhosts S} where
  -- there is a copy of each block that the task touches, with the room for what it writes
  pub may_store : (l : Ledger) (pool : Pool D S g h) (entry : Entry) (work : Work) (block : ℕ) → IsFinish l entry work → IsHolding l pool → HasSpare l.plan.now (state_now l) pool
      → touches l.plan.now work.task block ≡ true → IsSomeAnd (copy_at pool (place l.plan.now work.task) block) (λ (c : Stamped). MayStore c work)
  unfolding HasSpare
  may_store l pool entry work block finish facts spare touched =
      let plan = l.plan.now in
      let space = place plan work.task in
      let at = finish_place l entry work block finish touched in
      let there = in_memory l pool space block facts at (finish_here l entry work block finish touched) in
      let copy = there.0 in
      let ours = copy_ours l pool space block copy facts at there.1 in
      let one = one_user plan (state_now l) space block work.task (finish_task l entry work finish) (running_now l entry work finish) (is_its_there plan work.task block touched) in
      let most = mul-le-mul_right (2 * size plan block) one in
      let held = spare space block copy at there.1 in
      let few = writes_few plan work.task block in
      let room : 2 * written_places plan work.task block ≤ copy.versions.spare = omega (arith, most, held, few) in
      some_of (λ (c : Stamped). MayStore c work) (copy_at pool space block) copy there.1 (record {
        plan = finish.plan ∙ sym ours.0;
        ran = finish.ran;
        spare = subst (λ (b : ℕ). 2 * written_places copy.plan.now work.task b ≤ copy.versions.spare) (sym ours.1)
            (subst (λ (p : Bor Plan). 2 * written_places p.now work.task block ≤ copy.versions.spare) (sym ours.0) room);
      })

  -- what a work made was stored into a copy
  pub record IsStored (pool now : Pool D S g h) (work : Work) (space b : ℕ) : Type 0 where
    pub old : Stamped
    pub new : Stamped
    pub was : copy_at pool space b ≡ Some old
    pub is : copy_at now space b ≡ Some new
    pub stored : Stores old work new

  its_copy : (pool now : Pool D S g h) (work : Work) (plan : Plan) (space b : ℕ) → StoresAll pool now work space (task_row plan work.task).blocks → touches plan work.task b ≡ true → IsStored pool now work space b
  its_copy pool now work plan space b stores touched =
      let both = both_are (λ c d. Stores c work d) (copy_at pool space b) (copy_at now space b) (stores.stored b (number_in (task_row plan work.task).blocks b touched)) in
      record { old = both.0; new = both.1; was = both.2; is = both.3; stored = both.4 }

  other_copy : (l : Ledger) (pool now : Pool D S g h) (work : Work) → IsHolding l pool → StoresAll pool now work (place l.plan.now work.task) (task_row l.plan.now work.task).blocks
      → (s b : ℕ) → IsPlace l.plan.now s b → is_its l.plan.now work.task s b ≡ false → copy_at now s b ≡ copy_at pool s b
  other_copy l pool now work facts stores s b at off =
      stores.others s b (subst (λ (p : Bor Plan). IsPlace p.now s b) (sym facts.planned) at)
      (λ same has. not_its l.plan.now work.task s b off same (has_number (task_row l.plan.now work.task).blocks b has))

  -- the versions, and the spare, of such a copy
  its_versions : (l : Ledger) (pool now : Pool D S g h) (entry : Entry) (work : Work) (b : ℕ) → IsFinish l entry work → IsHolding l pool → touches l.plan.now work.task b ≡ true
      → (one : IsStored pool now work (place l.plan.now work.task) b)
      → one.new.versions.list ≡ versions_where (λ i. writes l.plan.now work.task (element l.plan.now b i)) (λ i. work.task) 0 (versions_of ((state_now l).copies (place l.plan.now work.task) b))
  its_versions l pool now entry work b finish facts touched one =
      let plan = l.plan.now in
      let space = place plan work.task in
      let c = (state_now l).copies space b in
      let here = finish_here l entry work b finish touched in
      let at = finish_place l entry work b finish touched in
      let ours = copy_ours l pool space b one.old facts at one.was in
      let are = versions_here l pool space b one.old facts at here one.was in
      let long : length one.old.versions.list ≡ size plan b = ap length are ∙ (sound_now l finish.well).versions.sized space b (passes_any is_here c here) in
      let holds = subst (λ (k : ℕ). HoldsNumber (task_row plan work.task).accesses (element_of plan k) (size plan k) work.task one.old.versions.list one.new.versions.list) ours.1
      (subst (λ (p : Bor Plan). HoldsNumber (task_row p.now work.task).accesses (element_of p.now one.old.block) (size p.now one.old.block) work.task one.old.versions.list one.new.versions.list) ours.0 one.stored.versions) in
      numbered_versions plan work.task b one.old.versions.list one.new.versions.list long holds
      ∙ ap (versions_where (λ i. writes plan work.task (element plan b i)) (λ i. work.task) 0) are

  its_spare : (l : Ledger) (pool now : Pool D S g h) (entry : Entry) (work : Work) (b : ℕ) → IsFinish l entry work → IsHolding l pool → touches l.plan.now work.task b ≡ true
      → (one : IsStored pool now work (place l.plan.now work.task) b) → one.old.versions.spare ≤ one.new.versions.spare + 2 * size l.plan.now b
  its_spare l pool now entry work b finish facts touched one =
      let plan = l.plan.now in
      let space = place plan work.task in
      let ours = copy_ours l pool space b one.old facts (finish_place l entry work b finish touched) one.was in
      let spent = subst (λ (k : ℕ). one.old.versions.spare ≤ one.new.versions.spare + 2 * written_places plan work.task k) ours.1
      (subst (λ (p : Bor Plan). one.old.versions.spare ≤ one.new.versions.spare + 2 * written_places p.now work.task one.old.block) ours.0 one.stored.spare) in
      let few = writes_few plan work.task b in
      omega (arith, spent, few)

  -- what is left once all was stored
  pub finished : (l u : Ledger) (pool now : Pool D S g h) (entry : Entry) (work : Work) → IsFinish l entry work → (IsTelling (SlotGhosts.tells h) l → work.told.mark ≡ true) → GrowsBy l u (entry ∷ [])
      → StoresAll pool now work (place l.plan.now work.task) (task_row l.plan.now work.task).blocks → IsHolding l pool → HasSpare l.plan.now (state_now l) pool
      → IsHolding u now × HasSpare u.plan.now (state_now u) now
  unfolding HasHere HasSlots HasSpare
  finished l u pool now entry work finish work_told grows stores facts spare =
      let plan = l.plan.now in
      let st = state_now l in
      let task = work.task in
      let space = place plan task in
      let new = after_finish plan st task in
      let is : state_now u ≡ new = state_next l u entry grows ∙ ap (after plan st) finish.event in
      let sound = sound_now l finish.well in
      let task_is = finish_task l entry work finish in
      let planned : pool.plan.now ≡ plan = ap (λ (p : Bor Plan). p.now) facts.planned in
      let now_planned : now.plan.now ≡ plan = ap (λ (p : Bor Plan). p.now) stores.rest.plan ∙ planned in
      let others = other_copy l pool now work facts stores in
      let stored = λ (b : ℕ) (touched : touches plan task b ≡ true). its_copy pool now work plan space b stores touched in
      let seen = λ (test : CopyState → Bool). finished_others plan st task finish.well sound task_is test in
      let place_now = λ (s b : ℕ) (at : IsPlace now.plan.now s b). subst (λ (p : Plan). IsPlace p s b) now_planned at in
      let back = λ (s b : ℕ) (at : IsPlace plan s b). subst (λ (p : Plan). IsPlace p s b) (sym planned) at in (
        holding_of l u now new grows.plan is (stores.rest.plan ∙ facts.planned)
            (λ s b at. ⊎_elim
            (λ (its : (s ≡ space) × (touches plan task b ≡ true) × (is_its plan task s b ≡ true)).
            let one = stored b its.1 in
            let here = finish_here l entry work b finish its.1 in
            ap (λ (n : ℕ). option_map stamps (copy_at now n b)) its.0 ∙ ap (option_map stamps) one.is ∙ ap Some (its_versions l pool now entry work b finish facts its.1 one)
            ∙ sym (where_here (λ i. writes plan task (element plan b i)) (λ i. task) (st.copies space b) here)
            ∙ sym (ap here_versions (finished_its plan st task finish.well sound task_is b))
            ∙ sym (ap (λ (n : ℕ). here_versions (new.copies n b)) its.0))
            (λ (off : is_its plan task s b ≡ false). ap (option_map stamps) (others s b at off) ∙ facts.here s b at ∙ sym (seen is_here s b off))
            (its_or_not plan task s b))
            (λ s b out at held.
            let was : out_at pool s b ≡ Some out = sym (stores.rest.outs s b) ∙ held in
            ⊎_elim
            (λ (its : (s ≡ space) × (touches plan task b ≡ true) × (is_its plan task s b ≡ true)).
            absurd (no_slot l pool space b (finish_place l entry work b finish its.1) facts (here_slot (st.copies space b) (finish_here l entry work b finish its.1)) out
            (subst (λ (n : ℕ). out_at pool n b ≡ Some out) its.0 was)))
            (λ (off : is_its plan task s b ≡ false). seen is_in_slot s b off ∙ facts.slots s b out at was)
            (its_or_not plan task s b))
            (λ tells.
            let before = telling_before (SlotGhosts.tells h) l u entry grows tells in
            let told = facts.told before in
            record {
              copies = λ s b copy at held. ⊎_elim
                  (λ (its : (s ≡ space) × (touches plan task b ≡ true) × (is_its plan task s b ≡ true)).
                  let one = stored b its.1 in
                  let same : Some one.new ≡ Some copy = sym one.is ∙ subst (λ (n : ℕ). copy_at now n b ≡ Some copy) its.0 held in
                  let eq : one.new ≡ copy = (cc) in
                  let was = told.copies space b one.old (back space b (finish_place l entry work b finish its.1)) one.was in
                  sym (ap (λ (x : Stamped). x.told.mark) eq) ∙ one.stored.told ∙ and_from one.old.told.mark work.told.mark was (work_told before))
                  (λ (off : is_its plan task s b ≡ false). told.copies s b copy (back s b (place_now s b at)) (sym (others s b (place_now s b at) off) ∙ held))
                  (its_or_not plan task s b);
              slots = λ s b out at held. told.slots s b out (back s b (place_now s b at)) (sym (stores.rest.outs s b) ∙ held);
            }),
        spare_at l u now new grows.plan is (λ s b copy at held. ⊎_elim
            (λ (its : (s ≡ space) × (touches plan task b ≡ true) × (is_its plan task s b ≡ true)).
            let one = stored b its.1 in
            let same : Some one.new ≡ Some copy = sym one.is ∙ subst (λ (n : ℕ). copy_at now n b ≡ Some copy) its.0 held in
            let eq : one.new ≡ copy = (cc) in
            let fewer = less_users plan st new space b task task_is (rest_stay st task) (running_now l entry work finish) (ap is_running (at_one_same st.tasks task Done)) (is_its_there plan task b its.1) in
            let enough = less_wanted (users plan new space b) (users plan st space b) (2 * size plan b) one.old.versions.spare one.new.versions.spare fewer
            (spare space b one.old (finish_place l entry work b finish its.1) one.was) (its_spare l pool now entry work b finish facts its.1 one) in
            subst (λ (n : ℕ). wanted plan new n b ≤ copy.versions.spare) (sym its.0) (subst (λ (x : Stamped). wanted plan new space b ≤ x.versions.spare) eq enough))
            (λ (off : is_its plan task s b ≡ false).
            subst (λ (n : ℕ). n * (2 * size plan b) ≤ copy.versions.spare) (sym (same_users plan st new s b task (rest_stay st task) off)) (spare s b copy at (sym (others s b at off) ∙ held)))
            (its_or_not plan task s b)),
      )
    where
      rest_stay : (st : State) (task : ℕ) (t : ℕ) → (t ≡ task → ⊥) → at_one st.tasks task Done t ≡ st.tasks t
      rest_stay st task t other = ⊎_elim (λ e. absurd (other e.0)) (λ e. e.1) (at_one_tells st.tasks task Done t)

  -- what storing asks for, by the blocks of the task
  pub stores_all : (l : Ledger) (pool : Pool D S g h) (entry : Entry) (work : Work) (space : ℕ) (blocks : List ℕ) → IsFinish l entry work → IsHolding l pool → HasSpare l.plan.now (state_now l) pool
      → space ≡ place l.plan.now work.task → blocks ≡ (task_row l.plan.now work.task).blocks
      → All (λ b. IsNumberIn pool.plan.now.blocks b) blocks × IsStrictlyIncreasing blocks × All (λ b. IsSomeAnd (copy_at pool space b) (λ (c : Stamped). MayStore c work)) blocks
  stores_all l pool entry work space blocks finish facts spare at are =
      let plan = l.plan.now in
      let is = finish_task l entry work finish in
      let known : All (λ b. IsNumberIn plan.blocks b) blocks = subst (All (λ b. IsNumberIn plan.blocks b)) (sym are) (task_names_rows plan finish.well work.task is).blocks in (
        subst (λ (p : Bor Plan). All (λ b. IsNumberIn p.now.blocks b) blocks) (sym facts.planned) known,
        subst IsStrictlyIncreasing (sym are) (finish.well.tasks work.task is).blocks.rising,
        all_from_contains (λ b. IsSomeAnd (copy_at pool space b) (λ (c : Stamped). MayStore c work)) blocks (λ b has.
            subst (λ (s : ℕ). IsSomeAnd (copy_at pool s b) (λ (c : Stamped). MayStore c work)) (sym at)
            (may_store l pool entry work b finish facts spare (has_number (task_row plan work.task).blocks b (subst (λ (bs : List ℕ). Contains bs b) are has)))),
      )

  pub finished_all : (l u : Ledger) (pool now : Pool D S g h) (entry : Entry) (work : Work) (space : ℕ) (blocks : List ℕ) → IsFinish l entry work → (IsTelling (SlotGhosts.tells h) l → work.told.mark ≡ true)
      → GrowsBy l u (entry ∷ []) → space ≡ place l.plan.now work.task → blocks ≡ (task_row l.plan.now work.task).blocks → StoresAll pool now work space blocks → IsHolding l pool
      → HasSpare l.plan.now (state_now l) pool → IsHolding u now × HasSpare u.plan.now (state_now u) now
  finished_all l u pool now entry work space blocks finish work_told grows at are stores facts spare =
      finished l u pool now entry work finish work_told grows (subst (λ (s : ℕ). StoresAll pool now work s (task_row l.plan.now work.task).blocks) at (subst (StoresAll pool now work space) are stores)) facts spare
