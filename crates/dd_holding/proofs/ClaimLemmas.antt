-- A task that begins to run: what it finds, and what that leaves of a holding's facts.
use Rattle.std.proofs.Common.{◌≡◌, ℕ, ◌*◌, ◌≤◌, ◌<◌, Bool, true, false, List, [], ◌∷◌, ◌+◌, length, get_or, take, All, Bor, Option, Some, Result, Ok, Err, refl, sym, ap, ◌∙◌, subst, ⊎_elim, arith}
use Rattle.std.specs.Prelude.{◌==◌, Contains, IsSomeAnd, OnOk, not, slice_index}
use Rattle.std.specs.List.{filter}
use Rattle.std.proofs.lemmas.Bool.{eq-eqb}
use Rattle.std.proofs.lemmas.List.Filters.{length-filter_both}
use Rattle.std.proofs.lemmas.List.{take_more}
use Rattle.std.proofs.lemmas.List.Elements.{All-contains, All-push}
use Rattle.dd_blocks.specs.declared.plan.Plan.{Plan}
use Rattle.dd_blocks.specs.Elements.{task_reads}
use Rattle.dd_blocks.specs.Numbered.{task_row}
use Rattle.dd_blocks.specs.PlanElements.{element_of}
use Rattle.dd_blocks.specs.WellFormed.{IsWellFormed}
use Rattle.dd_holding.specs.Facts.{IsHolding}
use Rattle.dd_holding.specs.Users.{HasSpare, most_wanted}
use Rattle.dd_holding.proofs.CarryLemmas.{known_of, room_some, some_of}
use Rattle.dd_holding.proofs.FactsLemmas.{holding_of}
use Rattle.dd_holding.proofs.HereLemmas.{place_there, sound_now}
use Rattle.dd_holding.proofs.QuietLemmas.{here_still, slots_still, telling_before}
use Rattle.dd_holding.proofs.SpareLemmas.{most_enough, spare_at}
use Rattle.dd_holding.proofs.StoreLemmas.{among_all}
use Rattle.dd_holding.proofs.UsersLemmas.{its_or_not, same_users}
use Rattle.dd_ledger.specs.declared.ledger.Ledger.{Ledger}
use Rattle.dd_ledger.specs.Ledgers.{GrowsBy, state_now}
use Rattle.dd_ledger.proofs.GrowsLemmas.{state_next}
use Rattle.dd_lists.proofs.ListsLemmas.{number_in}
use Rattle.dd_machine.specs.declared.entry.Entry.{Entry}
use Rattle.dd_machine.specs.declared.event.Event.{Event}
use Rattle.dd_machine.specs.declared.event.Event.TheVariants.{Claim}
use Rattle.dd_machine.specs.declared.task_state.TaskState.TheVariants.{Running}
use Rattle.dd_machine.specs.Effects.{after}
use Rattle.dd_machine.specs.Legal.{May, MayClaim}
use Rattle.dd_machine.specs.Sound.{IsSound}
use Rattle.dd_machine.specs.States.{State, at_one}
use Rattle.dd_machine.specs.Tests.{is_active, is_here, versions_of}
use Rattle.dd_machine.specs.Words.{IsOneOf, element, place, reads, size, tasks, touches}
use Rattle.dd_machine.proofs.ChangesLemmas.{at_one_tells}
use Rattle.dd_machine.proofs.TestsLemmas.{read_version}
use Rattle.dd_meaning.specs.Versions.{needed_version}
use Rattle.dd_pool.specs.declared.pool.Pool.{Pool}
use Rattle.dd_pool.specs.Places.{IsPlace}
use Rattle.dd_pool.specs.Pools.{copy_at}
use Rattle.dd_spans.proofs.MembersLemmas.{all_from_contains, contains_filter}
use Rattle.dd_stamps.specs.declared.stamped.Stamped.{Stamped}
use Rattle.dd_store.specs.declared.store.Slot.{Ghosts as SlotGhosts}
use Rattle.dd_store.specs.declared.store.Store.{Ghosts}
use Rattle.laws_of_lives.proofs.OrderlyLemmas.{orderly}
use Rattle.laws_of_versions.proofs.ClosedLemmas.{current_is_need}

pub claim_may : (l : Ledger) (ev : Event) (task worker : ℕ) → ev ≡ Claim task worker → May l.plan.now (state_now l) ev → MayClaim l.plan.now (state_now l) task worker
claim_may l ev task worker event may = subst (May l.plan.now (state_now l)) event may

pub claim_task : (l : Ledger) (task worker : ℕ) → IsWellFormed l.plan.now → MayClaim l.plan.now (state_now l) task worker → IsOneOf (tasks l.plan.now) task
claim_task l task worker well may = ((sound_now l well).limits.active_open task (ap is_active may.held)).2.0

pub claim_place : (l : Ledger) (task worker block : ℕ) → MayClaim l.plan.now (state_now l) task worker → touches l.plan.now task block ≡ true → IsPlace l.plan.now (place l.plan.now task) block
claim_place l task worker block may touched = place_there l is_here (place l.plan.now task) block (may.all_here block touched)

-- a copy in the task's space has the versions that it finds
pub finds : (l : Ledger) (task worker block : ℕ) (versions : List ℕ) → IsWellFormed l.plan.now → MayClaim l.plan.now (state_now l) task worker → touches l.plan.now task block ≡ true
    → versions ≡ versions_of ((state_now l).copies (place l.plan.now task) block) → (p : ℕ) → p < size l.plan.now block → task_reads (task_row l.plan.now task) (element_of l.plan.now block p) ≡ true
    → slice_index versions p ≡ needed_version l.plan.now (element_of l.plan.now block p) task
unfolding element reads
finds l task worker block versions well may touched are p lt read =
    ap (λ (vs : List ℕ). slice_index vs p) are
    ∙ read_version l.plan.now (state_now l) task block p (may.all_current block touched) lt read
    ∙ current_is_need l.plan.now (state_now l) task (element l.plan.now block p) well (orderly l.plan.now well) (sound_now l well) (ap is_active may.held) read

-- the blocks of a task, one by one
pub its_room : {A E : Type 0} (r : Result A E) (plan : Plan) (task space : ℕ) (blocks : List ℕ) (P : ℕ → ℕ → Type 0) → space ≡ place plan task → blocks ≡ (task_row plan task).blocks → OnOk r (All (P space) blocks)
    → OnOk r ((b : ℕ) → touches plan task b ≡ true → P (place plan task) b)
its_room (Err e) plan task space blocks P at are room = tt
its_room (Ok x) plan task space blocks P at are room = λ b touched.
    subst (λ (s : ℕ). P s b) at (All-contains (P space) blocks b room (subst (λ (bs : List ℕ). Contains bs b) (sym are) (number_in (task_row plan task).blocks b touched)))

-- what a task finds in a copy, by another spelling of the Plan and the block
abbrev Finds : Bor Plan → ℕ → ℕ → List ℕ → Type 0
Finds plan task b versions = (p : ℕ) → p < size plan.now b → task_reads (task_row plan.now task) (element_of plan.now b p) ≡ true → slice_index versions p ≡ needed_version plan.now (element_of plan.now b p) task

pub finds_at : (l : Ledger) (task worker block : ℕ) (versions : List ℕ) (plan : Bor Plan) (b : ℕ) → IsWellFormed l.plan.now → MayClaim l.plan.now (state_now l) task worker → touches l.plan.now task block ≡ true
    → versions ≡ versions_of ((state_now l).copies (place l.plan.now task) block) → plan ≡ l.plan → b ≡ block → Finds plan task b versions
finds_at l task worker block versions plan b well may touched are same is =
    subst (λ (p : Bor Plan). Finds p task b versions) (sym same) (subst (λ (k : ℕ). Finds l.plan task k versions) (sym is) (finds l task worker block versions well may touched are))

-- fewer are left once one was collected
pub left_less : (xs ys : List ℕ) (x : ℕ) → Contains xs x → ys ≡ filter (λ b. not (b == x)) xs → length ys < length xs
left_less xs ys x has are =
    let both = length-filter_both (λ b. not (b == x)) (λ b. b == x) (λ b. sym (not_not (b == x))) xs in
    let one = contains_filter (λ b. b == x) xs x has (eq-eqb x x refl) in
    let some = one.1 in
    let count = ap length are in
    omega (arith, both, some, count)
  where
    not_not : (a : Bool) → not (not a) ≡ a
    not_not true = refl
    not_not false = refl

-- where no copy has less spare there is room as before
pub kept_room : (o p : Option Stamped) (n : ℕ) → ((c : Stamped) → o ≡ Some c → IsSomeAnd p (λ (d : Stamped). c.versions.spare ≤ d.versions.spare)) → IsSomeAnd o (λ (c : Stamped). n ≤ c.versions.spare)
    → IsSomeAnd p (λ (d : Stamped). n ≤ d.versions.spare)
kept_room o p n more room =
    let was = room_some o n room in
    let enough = was.2 in
    let now = room_some p was.0.versions.spare (more was.0 was.1) in
    let grown = now.2 in
    some_of (λ (d : Stamped). n ≤ d.versions.spare) p now.0 now.1 (omega (arith, enough, grown))

-- one more has room
pub room_more : (P Q : ℕ → Type 0) (blocks : List ℕ) (i : ℕ) → i < length blocks → ((b : ℕ) → Contains blocks b → P b → Q b) → All P (take i blocks) → Q (get_or blocks i 0) → All Q (take (i + 1) blocks)
room_more P Q blocks i lt keeps so_far one =
    subst (All Q) (sym (take_more blocks i 0 lt)) (All-push Q (take i blocks) (get_or blocks i 0)
    (all_from_contains Q (take i blocks) (λ b has. keeps b (among_all blocks i b has) (All-contains P (take i blocks) b so_far has))) one)

module _ {D S : Type 0} {g : Ghosts D S} {h : SlotGhosts S} where
  -- after a Claim, with the most spare that may be wanted where the task touches
  pub claimed : (l u : Ledger) (pool : Pool D S g h) (entry : Entry) (task worker : ℕ) → IsWellFormed l.plan.now → GrowsBy l u (entry ∷ []) → entry.event ≡ Claim task worker
      → ((b : ℕ) → touches l.plan.now task b ≡ true → IsSomeAnd (copy_at pool (place l.plan.now task) b) (λ (c : Stamped). most_wanted l.plan.now b ≤ c.versions.spare))
      → IsHolding l pool → HasSpare l.plan.now (state_now l) pool → IsHolding u pool × HasSpare u.plan.now (state_now u) pool
  unfolding HasSpare
  claimed l u pool entry task worker well grows event room facts spare =
      let plan = l.plan.now in
      let st = state_now l in
      let new = after plan st (Claim task worker) in
      let is : state_now u ≡ new = state_next l u entry grows ∙ ap (after plan st) event in
      let sound : IsSound plan new = subst (λ (x : State). IsSound plan x) is (subst (λ (p : Bor Plan). IsSound p.now (state_now u)) grows.plan
      (sound_now u (subst (λ (p : Bor Plan). IsWellFormed p.now) (sym grows.plan) well))) in (
        holding_of l u pool new grows.plan is facts.planned (here_still plan st new pool (λ s b. refl) facts.here) (slots_still plan st new pool (λ s b. refl) facts.slots) (λ tells. facts.told (telling_before (SlotGhosts.tells h) l u entry grows tells)),
        spare_at l u pool new grows.plan is (λ s b copy at there. ⊎_elim
            (λ its.
            let least = most_enough plan new s b well sound in
            let held : copy_at pool (place plan task) b ≡ Some copy = sym (ap (λ (n : ℕ). copy_at pool n b) its.0) ∙ there in
            let enough = known_of (λ (c : Stamped). most_wanted plan b ≤ c.versions.spare) (copy_at pool (place plan task) b) copy held (room b its.1) in
            omega (arith, least, enough))
            (λ off. subst (λ (n : ℕ). n * (2 * size plan b) ≤ copy.versions.spare) (sym (same_users plan st new s b task (others st) off)) (spare s b copy at there))
            (its_or_not plan task s b)),
      )
    where
      others : (st : State) (t : ℕ) → (t ≡ task → ⊥) → at_one st.tasks task (Running worker) t ≡ st.tasks t
      others st t other = ⊎_elim (λ e. absurd (other e.0)) (λ e. e.1) (at_one_tells st.tasks task (Running worker) t)
