-- What each event does to the number of endings.
use Rattle.std.proofs.Common.{◌≡◌, ℕ, ◌+◌, ◌≤◌, Bool, true, false, inl, inr, Option, None, refl, sym, ap, ◌∙◌, arith}
use Rattle.std.specs.Prelude.{is_some}
use Rattle.dd_blocks.specs.declared.plan.Plan.{Plan}
use Rattle.dd_ledger.specs.Endings.{endings, ends, finishes, frees, opens}
use Rattle.dd_machine.specs.declared.copy_state.CopyState.{CopyState}
use Rattle.dd_machine.specs.declared.copy_state.CopyState.TheVariants.{Here, Leaving, Out, Coming, Lent}
use Rattle.dd_machine.specs.declared.event.Event.{Event}
use Rattle.dd_machine.specs.declared.event.Event.TheVariants.{Ask, Rest, Put, Shift, Free, Begin, Hold, Pick, Gone, Make, Call, Come, Lend, Copy, Claim, Finish, Back, Close}
use Rattle.dd_machine.specs.declared.task_state.TaskState.{TaskState}
use Rattle.dd_machine.specs.declared.task_state.TaskState.TheVariants.{Waiting, Held, Running, Done}
use Rattle.dd_machine.specs.Bytes.{when}
use Rattle.dd_machine.specs.Effects.{after, finish_copy, fresh, in_state}
use Rattle.dd_machine.specs.Legal.{May}
use Rattle.dd_machine.specs.Runs.{start}
use Rattle.dd_machine.specs.Sound.{IsSound}
use Rattle.dd_machine.specs.States as states
use Rattle.dd_machine.specs.States.{State, at_copy, at_one, blank}
use Rattle.dd_machine.specs.Tests.{is_active, is_any, is_idle, is_in_state, is_running}
use Rattle.dd_machine.specs.Words.{IsOneOf, blocks, place, spaces, tasks, total}
use Rattle.dd_machine.proofs.ChangesLemmas.{at_copy_other, at_copy_same, at_one_other, at_one_same, at_one_tells}
use Rattle.dd_machine.proofs.TestsLemmas.{any_copied, any_finished, any_in_state, passes_any, rested_at, same_at}
use Rattle.dd_machine.proofs.TotalsLemmas.{total_le, total_le_one, total_less_one, total_same, total_zero, when_at_most, when_le}

-- the copies by space and block, and their number
abbrev Copies : Type 0
Copies = ℕ → ℕ → Option states.Copy

abbrev copies_in : Plan → Copies → ℕ → ℕ
copies_in plan copies s = total (blocks plan) (λ b. when (is_in_state is_any (copies s b)) 1)

abbrev copies_count : Plan → Copies → ℕ
copies_count plan copies = total (spaces plan) (λ s. copies_in plan copies s)

-- where the same copies are there, their number is the same
copies_same : (plan : Plan) (old new : Copies) → ((s b : ℕ) → is_in_state is_any (new s b) ≡ is_in_state is_any (old s b)) → copies_count plan new ≡ copies_count plan old
copies_same plan old new same =
    total_same (spaces plan) (λ s. copies_in plan new s) (λ s. copies_in plan old s)
    (λ s _. total_same (blocks plan) (λ b. when (is_in_state is_any (new s b)) 1) (λ b. when (is_in_state is_any (old s b)) 1) (λ b _. ap (λ (t : Bool). when t 1) (same s b)))

in_same : (plan : Plan) (old : Copies) (space block : ℕ) (new : CopyState) → copies_count plan (at_copy old space block (in_state new (old space block))) ≡ copies_count plan old
in_same plan old space block new =
    copies_same plan old (at_copy old space block (in_state new (old space block)))
    (same_at (is_in_state is_any) old space block (in_state new (old space block)) (any_in_state new (old space block)))

-- one changed copy is one more at most
copies_more : (plan : Plan) (old : Copies) (space block : ℕ) (copy : Option states.Copy) → copies_count plan (at_copy old space block copy) ≤ copies_count plan old + 1
copies_more plan old space block copy =
    let new = at_copy old space block copy in
    total_le_one (spaces plan) (λ s. copies_in plan new s) (λ s. copies_in plan old s) space 1
    (λ s _ apart. total_le (blocks plan) (λ b. when (is_in_state is_any (new s b)) 1) (λ b. when (is_in_state is_any (old s b)) 1)
    (λ b _. when_le (is_in_state is_any (new s b)) (is_in_state is_any (old s b)) 1 (λ is. sym (ap (is_in_state is_any) (at_copy_other old space block copy s b (λ e _. apart e))) ∙ is)))
    (total_le_one (blocks plan) (λ b. when (is_in_state is_any (new space b)) 1) (λ b. when (is_in_state is_any (old space b)) 1) block 1
    (λ b _ apart. when_le (is_in_state is_any (new space b)) (is_in_state is_any (old space b)) 1 (λ is. sym (ap (is_in_state is_any) (at_copy_other old space block copy space b (λ _ e. apart e))) ∙ is))
    (let most = when_at_most (is_in_state is_any (new space block)) 1 in omega (arith, most)))

-- a copy that goes is one less
copies_less : (plan : Plan) (old : Copies) (space block : ℕ) → IsOneOf (spaces plan) space → IsOneOf (blocks plan) block → is_in_state is_any (old space block) ≡ true
    → copies_count plan (at_copy old space block None) + 1 ≤ copies_count plan old
copies_less plan old space block a_space a_block there =
    let new = at_copy old space block None in
    total_less_one (spaces plan) (λ s. copies_in plan new s) (λ s. copies_in plan old s) space 1 a_space
    (λ s _ apart. total_le (blocks plan) (λ b. when (is_in_state is_any (new s b)) 1) (λ b. when (is_in_state is_any (old s b)) 1)
    (λ b _. when_le (is_in_state is_any (new s b)) (is_in_state is_any (old s b)) 1 (λ is. sym (ap (is_in_state is_any) (at_copy_other old space block None s b (λ e _. apart e))) ∙ is)))
    (total_less_one (blocks plan) (λ b. when (is_in_state is_any (new space b)) 1) (λ b. when (is_in_state is_any (old space b)) 1) block 1 a_block
    (λ b _ apart. when_le (is_in_state is_any (new space b)) (is_in_state is_any (old space b)) 1 (λ is. sym (ap (is_in_state is_any) (at_copy_other old space block None space b (λ _ e. apart e))) ∙ is))
    (let gone : when (is_in_state is_any (new space block)) 1 ≡ 0 = ap (λ (c : Option states.Copy). when (is_in_state is_any c) 1) (at_copy_same old space block None) in
    let was : when (is_in_state is_any (old space block)) 1 ≡ 1 = ap (λ (t : Bool). when t 1) there in
    omega (arith, gone, was)))

-- the Running tasks of some states, and their number
abbrev running_count : Plan → (ℕ → TaskState) → ℕ
running_count plan known = total (tasks plan) (λ t. when (is_running (known t)) 1)

-- a task that doesn't run now is no more than it was; one that runs now is one more at most; one that ran and ends is one less
running_le : (plan : Plan) (known : ℕ → TaskState) (task : ℕ) (new : TaskState) → is_running new ≡ false → running_count plan (at_one known task new) ≤ running_count plan known
running_le plan known task new not =
    total_le (tasks plan) (λ t. when (is_running (at_one known task new t)) 1) (λ t. when (is_running (known t)) 1)
    (λ t _. when_le (is_running (at_one known task new t)) (is_running (known t)) 1
    (λ is. elim (at_one_tells known task new t) [
      | inl h ↦ absurd (let both : true ≡ false = sym is ∙ ap is_running h.1 ∙ not in cc)
      | inr h ↦ sym (ap is_running h.1) ∙ is
    ]))

running_more : (plan : Plan) (known : ℕ → TaskState) (task : ℕ) (new : TaskState) → running_count plan (at_one known task new) ≤ running_count plan known + 1
running_more plan known task new =
    total_le_one (tasks plan) (λ t. when (is_running (at_one known task new t)) 1) (λ t. when (is_running (known t)) 1) task 1
    (λ t _ apart. when_le (is_running (at_one known task new t)) (is_running (known t)) 1 (λ is. sym (ap is_running (at_one_other known task new t apart)) ∙ is))
    (let most = when_at_most (is_running (at_one known task new task)) 1 in omega (arith, most))

running_less : (plan : Plan) (known : ℕ → TaskState) (task : ℕ) (new : TaskState) → IsOneOf (tasks plan) task → is_running (known task) ≡ true → is_running new ≡ false
    → running_count plan (at_one known task new) + 1 ≤ running_count plan known
running_less plan known task new a_task was not =
    total_less_one (tasks plan) (λ t. when (is_running (at_one known task new t)) 1) (λ t. when (is_running (known t)) 1) task 1 a_task
    (λ t _ apart. when_le (is_running (at_one known task new t)) (is_running (known t)) 1 (λ is. sym (ap is_running (at_one_other known task new t apart)) ∙ is))
    (let gone : when (is_running (at_one known task new task)) 1 ≡ 0 = ap (λ (s : TaskState). when (is_running s) 1) (at_one_same known task new) ∙ ap (λ (t : Bool). when t 1) not in
    let ran : when (is_running (known task)) 1 ≡ 1 = ap (λ (t : Bool). when t 1) was in
    omega (arith, gone, ran))

idle_any : (c : Option states.Copy) → is_in_state is_idle c ≡ true → is_in_state is_any c ≡ true
idle_any c is = passes_any is_idle c is

running_active : (s : TaskState) → is_running s ≡ true → is_active s ≡ true
running_active (Running w) is = refl
running_active Held is = refl
running_active Done is = absurd (let h : false ≡ true = is in cc)
running_active Waiting is = absurd (let h : false ≡ true = is in cc)

-- an event ends no more than there was to end, and adds no more than it says
pub endings_after : (plan : Plan) (st : State) (event : Event) → IsSound plan st → May plan st event → endings plan (after plan st event) + ends event ≤ endings plan st + opens event
unfolding endings
endings_after plan st (Ask space block) sound may = omega arith
endings_after plan st Rest sound may =
    let now : endings plan (after plan st Rest) ≡ finishes plan st + (frees plan st + (0 + when (is_some st.region) 1)) = ap (endings plan) (rested_at plan st may) in
    let was : when (is_some st.pin) 1 ≡ 1 = ap (λ (t : Bool). when t 1) may.pinned in
    omega (arith, now, was)
endings_after plan st (Put block) sound may = let more = copies_more plan st.copies (st.homes block) block (fresh plan block 0) in omega (arith, more)
endings_after plan st (Shift block space) sound may =
    let home = st.homes block in
    let there = idle_any (st.copies home block) may.idle in
    let less = copies_less plan st.copies home block (sound.progress.copy_known home block there).0 may.block_is there in
    let more = copies_more plan (at_copy st.copies home block None) space block (in_state Here (st.copies home block)) in
    omega (arith, less, more)
endings_after plan st (Free space block) sound may =
    let less = copies_less plan st.copies space block may.space_is may.block_is (idle_any (st.copies space block) may.idle) in omega (arith, less)
endings_after plan st (Begin region) sound may = omega arith
endings_after plan st (Hold task) sound may = let le = running_le plan st.tasks task Held refl in omega (arith, le)
endings_after plan st (Pick space block) sound may = let same = in_same plan st.copies space block Leaving in omega (arith, same)
endings_after plan st (Gone space block) sound may = let same = in_same plan st.copies space block Out in omega (arith, same)
endings_after plan st (Make task block) sound may = let more = copies_more plan st.copies (place plan task) block (fresh plan block blank) in omega (arith, more)
endings_after plan st (Call space block) sound may = let same = in_same plan st.copies space block Coming in omega (arith, same)
endings_after plan st (Come space block) sound may = let same = in_same plan st.copies space block Here in omega (arith, same)
endings_after plan st (Lend task block source) sound may = let same = in_same plan st.copies source block (Lent task) in omega (arith, same)
endings_after plan st (Copy task block source count) sound may =
    let same = copies_same plan st.copies (after plan st (Copy task block source count)).copies (any_copied plan st task block source count) in omega (arith, same)
endings_after plan st (Claim task worker) sound may = let more = running_more plan st.tasks task (Running worker) in omega (arith, more)
endings_after plan st (Finish task) sound may =
    let same = copies_same plan st.copies (λ s b. finish_copy plan st task s b) (any_finished plan st task) in
    let less = running_less plan st.tasks task Done (sound.limits.active_open task (running_active (st.tasks task) may)).2.0 may refl in
    omega (arith, same, less)
endings_after plan st (Back block source count) sound may =
    let same = copies_same plan st.copies (after plan st (Back block source count)).copies (any_copied plan st 0 block source count) in omega (arith, same)
endings_after plan st (Close region) sound may =
    let was : when (is_some st.region) 1 ≡ 1 = ap (λ (r : Option ℕ). when (is_some r) 1) may.open_is in omega (arith, was)

-- at the start there is nothing to end
pub nothing_ends : (plan : Plan) → endings plan (start plan) ≡ 0
unfolding endings
nothing_ends plan =
    let waits : running_count plan (start plan).tasks ≡ 0 = total_zero (tasks plan) (λ t. when (is_running ((start plan).tasks t)) 1) (λ t _. refl) in
    let empty : copies_count plan (start plan).copies ≡ 0 =
    total_zero (spaces plan) (λ s. copies_in plan (start plan).copies s) (λ s _. total_zero (blocks plan) (λ b. when (is_in_state is_any ((start plan).copies s b)) 1) (λ b _. refl)) in
    omega (arith, waits, empty)
