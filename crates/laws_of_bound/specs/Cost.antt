-- How many entries an open region may still take: a sum that falls at each of them.
use Rattle.std.specs.Prelude.{ℕ, zero, suc, ◌+◌, ◌-◌, ◌*◌, nat_eq, not, Bool, false, ◌&&◌, ◌||◌, Option, Some, None, if◌then◌else◌}
use Rattle.dd_blocks.specs.declared.plan.Plan.{Plan}
use Rattle.dd_machine.specs.declared.copy_state.CopyState.{CopyState}
use Rattle.dd_machine.specs.declared.copy_state.CopyState.TheVariants.{Here, Leaving, Out, Coming, Lent}
use Rattle.dd_machine.specs.declared.task_state.TaskState.{TaskState}
use Rattle.dd_machine.specs.declared.task_state.TaskState.TheVariants.{Waiting, Held, Running, Done}
use Rattle.dd_machine.specs.Bytes.{when}
use Rattle.dd_machine.specs.Needed.{is_current_at, is_needed, own_space}
use Rattle.dd_machine.specs.States.{Copy, State}
use Rattle.dd_machine.specs.Tests.{is_any, is_done, is_in_state, is_lent, is_pin}
use Rattle.dd_machine.specs.Words.{blocks, is_of, size, spaces, tasks, total, touches}

-- a number below n passes the test
abbrev pub any_below : ℕ → (ℕ → Bool) → Bool
any_below zero test = false
any_below (suc n) test = any_below n test || test n

-- what a copy may still cost before it is Out, and one entry more where it isn't at the home
abbrev pub state_cost : CopyState → ℕ
state_cost Here = 2
state_cost Leaving = 1
state_cost Out = 0
state_cost Coming = 3
state_cost (Lent t) = 0

abbrev pub copy_cost : Bool → Option Copy → ℕ
copy_cost away None = 0
copy_cost away (Some copy) = state_cost copy.state + when away 1

abbrev pub copies_cost : Plan → State → ℕ
copies_cost plan st = total (spaces plan) (λ s. total (blocks plan) (λ b. copy_cost (not (nat_eq s (st.homes b))) (st.copies s b)))

-- to bring the own copy
abbrev pub bring_of : CopyState → ℕ
bring_of Here = 0
bring_of Leaving = 4
bring_of Out = 4
bring_of Coming = 0
bring_of (Lent t) = 4

abbrev pub bring_cost : Option Copy → ℕ
bring_cost None = 4
bring_cost (Some copy) = bring_of copy.state

-- there is no own copy yet, or an element is needed from the space
abbrev pub is_short : Plan → State → ℕ → ℕ → ℕ → ℕ → Bool
is_short plan st task block own from = not (is_in_state is_any (st.copies own block)) || any_below (size plan block) (is_needed plan st task block from)

-- to get what is needed from another space
abbrev pub send_of : Bool → Bool → ℕ
send_of lent short = if lent then 1 else when short 2

unfoldable pub send_cost : Plan → State → ℕ → ℕ → ℕ → ℕ → ℕ
send_cost plan st task block own from = send_of (is_in_state (is_lent (λ t. nat_eq t task)) (st.copies from block)) (is_short plan st task block own from)

-- to have the block in the own space, with all that is needed
unfoldable pub fetch_at : Plan → State → ℕ → ℕ → ℕ → ℕ
fetch_at plan st task block own = bring_cost (st.copies own block) + total (spaces plan) (λ s. when (not (nat_eq s own)) (send_cost plan st task block own s))

abbrev pub fetch_cost : Plan → State → ℕ → ℕ → ℕ
fetch_cost plan st task block = fetch_at plan st task block (own_space plan st task block)

abbrev pub most_fetch : Plan → ℕ
most_fetch plan = 4 + 2 * (spaces plan - 1)

-- to have a task done
abbrev pub task_weight : TaskState → ℕ
task_weight Waiting = 3
task_weight Held = 2
task_weight (Running w) = 1
task_weight Done = 0

abbrev pub touch_weight : Plan → TaskState → ℕ → ℕ
touch_weight plan Waiting fetch = most_fetch plan
touch_weight plan Held fetch = fetch
touch_weight plan (Running w) fetch = 0
touch_weight plan Done fetch = 0

abbrev pub task_cost : Plan → ℕ → TaskState → (ℕ → ℕ) → ℕ
task_cost plan task state fetch = task_weight state + total (blocks plan) (λ b. when (touches plan task b) (touch_weight plan state (fetch b)))

abbrev pub tasks_cost : Plan → State → ℕ → ℕ
tasks_cost plan st region = total (tasks plan) (λ t. when (is_of plan region t) (task_cost plan t (st.tasks t) (fetch_cost plan st t)))

-- a task of the region isn't done; a version of a copy isn't current
unfoldable pub any_undone : Plan → (ℕ → TaskState) → ℕ → Bool
any_undone plan states region = any_below (suc (tasks plan)) (λ t. is_of plan region t && not (is_done (states t)))

unfoldable pub is_stale : Plan → State → ℕ → ℕ → Bool
is_stale plan st space block = any_below (size plan block) (λ i. not (is_current_at plan st space block i))

-- to have the home copy current
abbrev pub block_weight : Plan → Bool → Bool → ℕ → ℕ
block_weight plan pinned waits fetch = if pinned then suc fetch else when waits (2 + most_fetch plan)

abbrev pub block_cost : Plan → State → ℕ → ℕ → ℕ
block_cost plan st region b = block_weight plan (is_pin st.pin (st.homes b) b) (any_undone plan st.tasks region || is_stale plan st (st.homes b) b) (fetch_at plan st 0 b (st.homes b))

abbrev pub blocks_cost : Plan → State → ℕ → ℕ
blocks_cost plan st region = total (blocks plan) (block_cost plan st region)

abbrev pub region_cost : Plan → State → ℕ → ℕ
region_cost plan st region = copies_cost plan st + (tasks_cost plan st region + blocks_cost plan st region)
