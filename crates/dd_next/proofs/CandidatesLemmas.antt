-- The candidates of a task are the events that lead it on, but for its Claim.
use Rattle.std.proofs.Common.{◌≡◌, ℕ, zero, suc, ◌<◌, ◌≤◌, Bool, true, false, cond, ◌||◌, eqb, List, [], ◌∷◌, ◌++◌, length, get_or, Option, Some, None, refl, ap, sym, ◌∙◌, subst, ⊎_elim, arith}
use Rattle.std.specs.Prelude.{not, IfSome, IsNone}
use Rattle.std.specs.List.{All, Contains, range_with_len}
use Rattle.std.proofs.lemmas.Bool.{and_parts, cases_Bool, eq-eqb, eqb-true, ne_eqb, or_cases}
use Rattle.std.proofs.lemmas.List.Elements.{All-append, All-cons, All-contains, All-contains_itself, All-map, All-nil, Contains-append_left, Contains-append_right}
use Rattle.dd_lists.proofs.ListsLemmas.{All-flat_map, Contains-flat_map, Contains-map, has_number as has_number_of, number_in}
use Rattle.dd_blocks.specs.declared.plan.Plan.{Plan}
use Rattle.dd_blocks.specs.Numbered.{task_row}
use Rattle.dd_blocks.specs.WellFormed.{IsWellFormed}
use Rattle.dd_blocks.proofs.ElementsLemmas.{use_of_read}
use Rattle.dd_blocks.proofs.PlanElementsLemmas.{touches_used}
use Rattle.dd_recency.proofs.VictimLemmas.{victim-among}
use Rattle.dd_machine.specs.declared.copy_state.CopyState.{CopyState}
use Rattle.dd_machine.specs.declared.copy_state.CopyState.TheVariants as state
use Rattle.dd_machine.specs.declared.event.Event.{Event}
use Rattle.dd_machine.specs.declared.event.Event.TheVariants.{Pick, Make, Call, Lend, Copy, Claim}
use Rattle.dd_machine.specs.declared.task_state.TaskState.TheVariants.{Held}
use Rattle.dd_machine.specs.Bytes.{is_pinned, load, order_policy, victim}
use Rattle.dd_machine.specs.GoesOn.{LeadsHeldOn}
use Rattle.dd_machine.specs.Legal.{May, MayCopy, MayFetch}
use Rattle.dd_machine.specs.Needed.{is_needed, needed, own_space, source}
use Rattle.dd_machine.specs.Sound.{IsSound}
use Rattle.dd_machine.specs.States as states
use Rattle.dd_machine.specs.States.{State}
use Rattle.dd_machine.specs.Tests.{Has, is_active, is_here, is_here_or_lent, is_in_state}
use Rattle.dd_machine.specs.Words.{IsOneOf, blocks, element, limit, place, reads, size, spaces, tasks, touches}
use Rattle.dd_machine.proofs.RangesLemmas.{kept_one}
use Rattle.dd_machine.proofs.TestsLemmas.{passes_any}
use Rattle.dd_tables.proofs.ListsLemmas.{any_range}
use Rattle.dd_next.specs.Claims.{is_claim}
use Rattle.dd_next.specs.Candidates.{calls, candidates, copies, copies_of, copy_from, lends, lends_of, makes, picks, with_blocks}
use Rattle.dd_next.specs.First.{IsFirstLegal}
use Rattle.dd_next.proofs.FirstLemmas.{first_head, first_may, first_none, first_some, first_tail, none_legal, none_of_none, only_legal}

-- ---- the first legal one is one of the list, and where there is none no event of the list is legal
pub some_has : (plan : Plan) (st : State) (P : Event → Type 0) (xs : List Event) (event : Event) → All P xs → IsFirstLegal plan st xs (Some event) → P event
unfolding IsFirstLegal
some_has plan st P [] event all first = absurd (let no_way : Some event ≡ None = first in cc)
some_has plan st P (x ∷ xs) event all first = ⊎_elim
    (λ (h : May plan st x × (Some event ≡ Some x)). subst P (let e : x ≡ event = let s : Some event ≡ Some x = h.1 in cc in e) (all 0 x (omega arith)))
    (λ (h : (May plan st x → ⊥) × IsFirstLegal plan st xs (Some event)). some_has plan st P xs event (λ k d lt. all (suc k) d (omega (arith, lt))) h.1)
    first

pub none_all : (plan : Plan) (st : State) (xs : List Event) → IsFirstLegal plan st xs None → All (λ event. May plan st event → ⊥) xs
unfolding IsFirstLegal
none_all plan st [] none = All-nil (λ event. May plan st event → ⊥)
none_all plan st (x ∷ xs) none = ⊎_elim
    (λ (h : May plan st x × (None ≡ Some x)). absurd (let no_way : None ≡ Some x = h.1 in cc))
    (λ (h : (May plan st x → ⊥) × IsFirstLegal plan st xs None). All-cons (λ event. May plan st event → ⊥) x xs h.0 (none_all plan st xs h.1))
    none

-- ---- each candidate leads the task on
copy_leads : (plan : Plan) (st : State) (task block source : ℕ) → All (LeadsHeldOn plan st task) (copy_from plan st task block source)
copy_leads plan st task block source = by (is_in_state is_here (st.copies source block)) refl
  where
    by : (t : Bool) → is_in_state is_here (st.copies source block) ≡ t → All (LeadsHeldOn plan st task) (cond t (Copy task block source (length (needed plan st task block source)) ∷ []) [])
    by true is = All-cons (LeadsHeldOn plan st task) (Copy task block source (length (needed plan st task block source))) [] (refl, is) (All-nil (LeadsHeldOn plan st task))
    by false is = All-nil (LeadsHeldOn plan st task)

pub all_lead : (plan : Plan) (st : State) (task : ℕ) → All (LeadsHeldOn plan st task) (candidates plan st task)
all_lead plan st task =
    let found = (task_row plan task).blocks in
    let space = place plan task in
    let P = LeadsHeldOn plan st task in
    All-append P (picks plan space) (with_blocks plan st task found)
    (All-map P (λ b. Pick space b) (range_with_len 1 (blocks plan)) (λ k d lt. refl))
    (All-append P (makes task found) (calls space found ++ (copies plan st task found ++ lends plan task found))
    (All-map P (λ b. Make task b) found (λ k d lt. refl))
    (All-append P (calls space found) (copies plan st task found ++ lends plan task found)
    (All-map P (λ b. Call space b) found (λ k d lt. (refl, has_number_of found (get_or found k d) (All-contains_itself found k d lt))))
    (All-append P (copies plan st task found) (lends plan task found)
    (All-flat_map P (copies_of plan st task) found (λ k d lt.
    All-flat_map P (copy_from plan st task (get_or found k d)) (range_with_len 1 (spaces plan)) (λ j x less. copy_leads plan st task (get_or found k d) (get_or (range_with_len 1 (spaces plan)) j x))))
    (All-flat_map P (lends_of plan task) found (λ k d lt. All-map P (λ s. Lend task (get_or found k d) s) (range_with_len 1 (spaces plan)) (λ j x less. refl))))))

-- ---- each legal event that does is a candidate
in_range : (n k : ℕ) → IsOneOf n k → Contains (range_with_len 1 n) k
in_range n k is = number_in (range_with_len 1 n) k (any_range (λ x. eqb x k) 1 n k is.0 (omega (arith, is.1)) (eq-eqb k k refl))

-- the victim is a block of the Plan
pub picked_known : (plan : Plan) (st : State) (space block : ℕ) → IsSound plan st → victim plan st space ≡ Some block → IsOneOf (blocks plan) block
picked_known plan st space block sound is =
    let there : Contains (st.orders space) block = subst (λ (o : Option ℕ). IfSome o (Contains (st.orders space))) is (victim-among (order_policy plan.policy) (is_pinned plan st space) (st.orders space)) in
    let here = sound.limits.order_here space block (has_number_of (st.orders space) block there) in
    (sound.progress.copy_known space block (passes_any is_here (st.copies space block) here)).1

-- a task touches a block of which it needs something
touched : (plan : Plan) (st : State) (task block source : ℕ) → IsWellFormed plan → IsOneOf (tasks plan) task → 0 < length (needed plan st task block source) → touches plan task block ≡ true
unfolding reads element
touched plan st task block source well is some =
    let one = kept_one (is_needed plan st task block source) 0 (size plan block) some in
    let i = one.0 in
    let wants = (and_parts (eqb task 0 || reads plan task (element plan block i)) _ one.3).0 in
    ⊎_elim
    (λ (e : eqb task 0 ≡ true). absurd (let zero_is = eqb-true task 0 e in omega (arith, zero_is, is.0)))
    (λ (h : reads plan task (element plan block i) ≡ true).
    has_number_of (task_row plan task).blocks block (touches_used plan well task block i is (omega (arith, one.2)) (use_of_read (task_row plan task) (element plan block i) h)))
    (or_cases (eqb task 0) (reads plan task (element plan block i)) wants)

copy_there : (plan : Plan) (st : State) (task block source : ℕ) → Has st source block is_here → Contains (copy_from plan st task block source) (Copy task block source (length (needed plan st task block source)))
copy_there plan st task block source here =
    let event = Copy task block source (length (needed plan st task block source)) in
    subst (λ (t : Bool). Contains (cond t (event ∷ []) []) event) (sym here) (All-contains_itself (event ∷ []) 0 event (omega arith))

is_candidate : (plan : Plan) (st : State) (task : ℕ) (event : Event) → IsWellFormed plan → IsSound plan st → IsOneOf (tasks plan) task → is_claim event ≡ false → LeadsHeldOn plan st task event → May plan st event → Contains (candidates plan st task) event
is_candidate plan st task (Pick space block) well sound is other leads may =
    let known = picked_known plan st space block sound may.is_victim in
    subst (λ (s : ℕ). Contains (candidates plan st task) (Pick s block)) (sym leads)
    (Contains-append_left (picks plan (place plan task)) (with_blocks plan st task (task_row plan task).blocks) (Pick (place plan task) block)
    (Contains-map (λ b. Pick (place plan task) b) (range_with_len 1 (blocks plan)) block (in_range (blocks plan) block known)))
is_candidate plan st task (Make t block) well sound is other leads may =
    let found = (task_row plan task).blocks in
    let has : touches plan task block ≡ true = subst (λ (x : ℕ). touches plan x block ≡ true) leads may.touched in
    subst (λ (x : ℕ). Contains (candidates plan st task) (Make x block)) (sym leads)
    (Contains-append_right (picks plan (place plan task)) (with_blocks plan st task found) (Make task block)
    (Contains-append_left (makes task found) (calls (place plan task) found ++ (copies plan st task found ++ lends plan task found)) (Make task block)
    (Contains-map (λ b. Make task b) found block (number_in found block has))))
is_candidate plan st task (Call space block) well sound is other leads may =
    let found = (task_row plan task).blocks in
    let here = place plan task in
    subst (λ (s : ℕ). Contains (candidates plan st task) (Call s block)) (sym leads.0)
    (Contains-append_right (picks plan here) (with_blocks plan st task found) (Call here block)
    (Contains-append_right (makes task found) (calls here found ++ (copies plan st task found ++ lends plan task found)) (Call here block)
    (Contains-append_left (calls here found) (copies plan st task found ++ lends plan task found) (Call here block)
    (Contains-map (λ b. Call here b) found block (number_in found block leads.1)))))
is_candidate plan st task (Copy t block source count) well sound is other leads may =
    let found = (task_row plan task).blocks in
    let here = place plan task in
    let exact : count ≡ length (needed plan st task block source) = may.1.exact ∙ ap (λ (x : ℕ). length (needed plan st x block source)) leads.0 in
    let some : 0 < length (needed plan st task block source) = subst (λ (n : ℕ). 0 < n) exact may.1.some_needed in
    let event = Copy task block source (length (needed plan st task block source)) in
    let same : event ≡ Copy t block source count = ap (λ (n : ℕ). Copy task block source n) (sym exact) ∙ ap (λ (x : ℕ). Copy x block source count) (sym leads.0) in
    subst (Contains (candidates plan st task)) same
    (Contains-append_right (picks plan here) (with_blocks plan st task found) event
    (Contains-append_right (makes task found) (calls here found ++ (copies plan st task found ++ lends plan task found)) event
    (Contains-append_right (calls here found) (copies plan st task found ++ lends plan task found) event
    (Contains-append_left (copies plan st task found) (lends plan task found) event
    (Contains-flat_map (copies_of plan st task) found block event (number_in found block (touched plan st task block source well is some))
    (Contains-flat_map (copy_from plan st task block) (range_with_len 1 (spaces plan)) source event (in_range (spaces plan) source may.1.source_is) (copy_there plan st task block source leads.1)))))))
is_candidate plan st task (Lend t block source) well sound is other leads may =
    let found = (task_row plan task).blocks in
    let here = place plan task in
    let some : 0 < length (needed plan st task block source) = subst (λ (x : ℕ). 0 < length (needed plan st x block source)) leads may.some_needed in
    let event = Lend task block source in
    subst (λ (x : ℕ). Contains (candidates plan st task) (Lend x block source)) (sym leads)
    (Contains-append_right (picks plan here) (with_blocks plan st task found) event
    (Contains-append_right (makes task found) (calls here found ++ (copies plan st task found ++ lends plan task found)) event
    (Contains-append_right (calls here found) (copies plan st task found ++ lends plan task found) event
    (Contains-append_right (copies plan st task found) (lends plan task found) event
    (Contains-flat_map (lends_of plan task) found block event (number_in found block (touched plan st task block source well is some))
    (Contains-map (λ s. Lend task block s) (range_with_len 1 (spaces plan)) source (in_range (spaces plan) source may.source_is)))))))
is_candidate plan st task (Claim t worker) well sound is other leads may = absurd cc
is_candidate plan st task _ well sound is other leads may = absurd leads

-- where none of them is legal, nothing that leads the task on is but its Claim
none_leads : (plan : Plan) (st : State) (task : ℕ) (event : Event) → IsWellFormed plan → IsSound plan st → IsOneOf (tasks plan) task
    → IsFirstLegal plan st (candidates plan st task) None → LeadsHeldOn plan st task event → May plan st event → is_claim event ≡ true
none_leads plan st task event well sound is none leads may = ⊎_elim
    (λ (claim : is_claim event ≡ true). claim)
    (λ (other : is_claim event ≡ false).
    absurd (All-contains (λ e. May plan st e → ⊥) (candidates plan st task) event (none_all plan st (candidates plan st task) none) (is_candidate plan st task event well sound is other leads may) may))
    (cases_Bool (is_claim event))

-- a Held task is one of the Plan
pub held_known : (plan : Plan) (st : State) (task : ℕ) → IsSound plan st → st.tasks task ≡ Held → IsOneOf (tasks plan) task
held_known plan st task sound held = (sound.limits.active_open task (ap is_active held)).2.0

-- ---- a copy from one space: none without it Here, without the own copy Here, or with nothing needed; or else the one
pub no_copy_away : (plan : Plan) (st : State) (task block source : ℕ) → is_in_state is_here (st.copies source block) ≡ false → IsFirstLegal plan st (copy_from plan st task block source) None
no_copy_away plan st task block source away =
    subst (λ (t : Bool). IsFirstLegal plan st (cond t (Copy task block source (length (needed plan st task block source)) ∷ []) []) None) (sym away) (none_of_none plan st)

not_copied : (plan : Plan) (st : State) (task block source : ℕ) → (MayCopy plan st task block source (length (needed plan st task block source)) → ⊥) → IsFirstLegal plan st (copy_from plan st task block source) None
not_copied plan st task block source not = by (is_in_state is_here (st.copies source block))
  where
    by : (t : Bool) → IsFirstLegal plan st (cond t (Copy task block source (length (needed plan st task block source)) ∷ []) []) None
    by true = first_tail plan st (Copy task block source (length (needed plan st task block source))) [] None (λ may. not may.1) (none_of_none plan st)
    by false = none_of_none plan st

-- the space of a task
pub own_place : (plan : Plan) (st : State) (task block : ℕ) → 1 ≤ task → own_space plan st task block ≡ place plan task
own_place plan st task block is = ap (λ (t : Bool). cond t (st.homes block) (place plan task)) (ne_eqb task 0 (λ e. omega (arith, e, is)))

pub no_copy_to : (plan : Plan) (st : State) (task block source : ℕ) → 1 ≤ task → is_in_state is_here (st.copies (place plan task) block) ≡ false → IsFirstLegal plan st (copy_from plan st task block source) None
no_copy_to plan st task block source is away = not_copied plan st task block source (λ may. absurd (
    let h : true ≡ false = sym may.here ∙ ap (λ (s : ℕ). is_in_state is_here (st.copies s block)) (own_place plan st task block is) ∙ away in cc))

pub no_copy_of_none : (plan : Plan) (st : State) (task block source : ℕ) → length (needed plan st task block source) ≡ 0 → IsFirstLegal plan st (copy_from plan st task block source) None
no_copy_of_none plan st task block source none = not_copied plan st task block source (λ may. let some = may.some_needed in absurd (omega (arith, some, none)))

here_gives : (task : ℕ) (c : Option states.Copy) → is_in_state is_here c ≡ true → is_in_state (is_here_or_lent task) c ≡ true
here_gives task None e = cc
here_gives task (Some c) e = by c.state e
  where
    by : (s : CopyState) → is_here s ≡ true → is_here_or_lent task s ≡ true
    by state.Here e = refl
    by state.Leaving e = cc
    by state.Out e = cc
    by state.Coming e = cc
    by (state.Lent t) e = cc

fetches : (st : State) (task block : ℕ) → 1 ≤ task → st.tasks task ≡ Held → MayFetch st task block
fetches st zero block is held = absurd (omega (arith, is))
fetches st (suc t) block is held = held

-- the parts of a legal copy
pub record IsCopied (plan : Plan) (st : State) (task block source : ℕ) : Type 0 where
  pub source_is : IsOneOf (spaces plan) source
  pub block_is : IsOneOf (blocks plan) block
  pub task_is : 1 ≤ task
  pub held : st.tasks task ≡ Held
  pub there : is_in_state is_here (st.copies source block) ≡ true
  pub here : is_in_state is_here (st.copies (place plan task) block) ≡ true
  pub some : 0 < length (needed plan st task block source)

pub copied : (plan : Plan) (st : State) (task block source : ℕ) → IsCopied plan st task block source → IsFirstLegal plan st (copy_from plan st task block source) (Some (Copy task block source (length (needed plan st task block source))))
copied plan st task block source is =
    let event = Copy task block source (length (needed plan st task block source)) in
    let may : MayCopy plan st task block source (length (needed plan st task block source)) = record {
      source_is = is.source_is;
      block_is = is.block_is;
      asked = fetches st task block is.task_is is.held;
      here = ap (λ (s : ℕ). is_in_state is_here (st.copies s block)) (own_place plan st task block is.task_is) ∙ is.here;
      gives = here_gives task (st.copies source block) is.there;
      exact = refl;
      some_needed = is.some;
    } in
    subst (λ (t : Bool). IsFirstLegal plan st (cond t (event ∷ []) []) (Some event)) (sym is.there) (first_head plan st event [] (is.task_is, may))

-- ---- the pick of a space
pub no_pick : (plan : Plan) (st : State) (space : ℕ) → load plan st space ≤ limit plan space → IsFirstLegal plan st (picks plan space) None
no_pick plan st space low = none_legal plan st (λ b. Pick space b) (range_with_len 1 (blocks plan)) (λ b may. let over = may.over in absurd (omega (arith, low, over)))

pub no_victim : (plan : Plan) (st : State) (space : ℕ) → victim plan st space ≡ None → IsFirstLegal plan st (picks plan space) None
no_victim plan st space none = none_legal plan st (λ b. Pick space b) (range_with_len 1 (blocks plan)) (λ b may. absurd (let no_way : None ≡ Some b = sym none ∙ may.is_victim in cc))

pub picked : (plan : Plan) (st : State) (space block : ℕ) → IsSound plan st → IsOneOf (spaces plan) space → limit plan space < load plan st space → victim plan st space ≡ Some block → IsFirstLegal plan st (picks plan space) (Some (Pick space block))
picked plan st space block sound space_is over is =
    let known = picked_known plan st space block sound is in
    only_legal plan st (λ b. Pick space b) (range_with_len 1 (blocks plan)) block (any_range (λ x. eqb x block) 1 (blocks plan) block known.0 (omega (arith, known.1)) (eq-eqb block block refl))
    (record { space_is = space_is; over = over; is_victim = is })
    (λ b ne may. ne (let e : Some b ≡ Some block = sym may.is_victim ∙ is in cc))

-- ---- the first of all, by the part that has it
pub from_makes : (plan : Plan) (st : State) (task : ℕ) (found : List ℕ) (event : Event) → IsFirstLegal plan st (makes task found) (Some event) → IsFirstLegal plan st (with_blocks plan st task found) (Some event)
from_makes plan st task found event first = first_some plan st (makes task found) (calls (place plan task) found ++ (copies plan st task found ++ lends plan task found)) event first

pub from_calls : (plan : Plan) (st : State) (task space : ℕ) (found : List ℕ) (event : Event) → space ≡ place plan task → IsFirstLegal plan st (makes task found) None → IsFirstLegal plan st (calls space found) (Some event) → IsFirstLegal plan st (with_blocks plan st task found) (Some event)
from_calls plan st task space found event is none first =
    first_none plan st (makes task found) (calls (place plan task) found ++ (copies plan st task found ++ lends plan task found)) (Some event) none
    (first_some plan st (calls (place plan task) found) (copies plan st task found ++ lends plan task found) event (subst (λ (s : ℕ). IsFirstLegal plan st (calls s found) (Some event)) is first))

-- none is made, and none called back
after_calls : (plan : Plan) (st : State) (task space : ℕ) (found : List ℕ) (result : Option Event) → space ≡ place plan task → IsFirstLegal plan st (makes task found) None → IsFirstLegal plan st (calls space found) None
    → IsFirstLegal plan st (copies plan st task found ++ lends plan task found) result → IsFirstLegal plan st (with_blocks plan st task found) result
after_calls plan st task space found result is none no_call rest =
    first_none plan st (makes task found) (calls (place plan task) found ++ (copies plan st task found ++ lends plan task found)) result none
    (first_none plan st (calls (place plan task) found) (copies plan st task found ++ lends plan task found) result (subst (λ (s : ℕ). IsFirstLegal plan st (calls s found) None) is no_call) rest)

pub from_copies : (plan : Plan) (st : State) (task space : ℕ) (found : List ℕ) (event : Event) → space ≡ place plan task → IsFirstLegal plan st (makes task found) None → IsFirstLegal plan st (calls space found) None
    → IsFirstLegal plan st (copies plan st task found) (Some event) → IsFirstLegal plan st (with_blocks plan st task found) (Some event)
from_copies plan st task space found event is none no_call first = after_calls plan st task space found (Some event) is none no_call (first_some plan st (copies plan st task found) (lends plan task found) event first)

pub from_lends : (plan : Plan) (st : State) (task space : ℕ) (found : List ℕ) (result : Option Event) → space ≡ place plan task → IsFirstLegal plan st (makes task found) None → IsFirstLegal plan st (calls space found) None
    → IsFirstLegal plan st (copies plan st task found) None → IsFirstLegal plan st (lends plan task found) result → IsFirstLegal plan st (with_blocks plan st task found) result
from_lends plan st task space found result is none no_call no_copy last = after_calls plan st task space found result is none no_call (first_none plan st (copies plan st task found) (lends plan task found) result no_copy last)

pub from_picks : (plan : Plan) (st : State) (task space : ℕ) (event : Event) → space ≡ place plan task → IsFirstLegal plan st (picks plan space) (Some event) → IsFirstLegal plan st (candidates plan st task) (Some event)
from_picks plan st task space event is first =
    first_some plan st (picks plan (place plan task)) (with_blocks plan st task (task_row plan task).blocks) event (subst (λ (s : ℕ). IsFirstLegal plan st (picks plan s) (Some event)) is first)

pub from_blocks : (plan : Plan) (st : State) (task space : ℕ) (found : List ℕ) (result : Option Event) → space ≡ place plan task → found ≡ (task_row plan task).blocks → IsFirstLegal plan st (picks plan space) None
    → IsFirstLegal plan st (with_blocks plan st task found) result → IsFirstLegal plan st (candidates plan st task) result
from_blocks plan st task space found result is same none rest =
    first_none plan st (picks plan (place plan task)) (with_blocks plan st task (task_row plan task).blocks) result (subst (λ (s : ℕ). IsFirstLegal plan st (picks plan s) None) is none)
    (subst (λ (xs : List ℕ). IsFirstLegal plan st (with_blocks plan st task xs) result) same rest)

-- ---- what the first of all is
pub found_leads : (plan : Plan) (st : State) (task : ℕ) (result : Option Event) → IsFirstLegal plan st (candidates plan st task) result → IfSome result (λ event. LeadsHeldOn plan st task event × May plan st event)
found_leads plan st task None first = tt
found_leads plan st task (Some event) first = (some_has plan st (LeadsHeldOn plan st task) (candidates plan st task) event (all_lead plan st task) first, first_may plan st (candidates plan st task) event first)

pub none_found : (plan : Plan) (st : State) (task : ℕ) (result : Option Event) → IsWellFormed plan → IsSound plan st → st.tasks task ≡ Held → IsFirstLegal plan st (candidates plan st task) result
    → IsNone result → (event : Event) → LeadsHeldOn plan st task event → May plan st event → is_claim event ≡ true
none_found plan st task None well sound held first none event leads may = none_leads plan st task event well sound (held_known plan st task sound held) first leads may
none_found plan st task (Some found) well sound held first none event leads may = absurd (let no_way : true ≡ false = none in cc)
