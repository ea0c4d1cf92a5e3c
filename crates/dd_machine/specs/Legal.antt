-- When an event is legal: the facts of each of the eighteen.
use Rattle.std.specs.Prelude.{◌≡◌, ◌≢◌, ℕ, zero, suc, ◌+◌, ◌≤◌, ◌<◌, true, false, length, is_some, Some, None}
use Rattle.dd_blocks.specs.declared.plan.Plan.{Plan}
use Rattle.dd_blocks.specs.Numbered.{task_row}
use Rattle.dd_machine.specs.declared.entry.Entry.{Entry}
use Rattle.dd_machine.specs.declared.event.Event.{Event}
use Rattle.dd_machine.specs.declared.event.Event.TheVariants.{Ask, Rest, Put, Shift, Free, Begin, Hold, Pick, Gone, Make, Call, Come, Lend, Copy, Claim, Finish, Back, Close}
use Rattle.dd_machine.specs.declared.task_state.TaskState.TheVariants.{Waiting, Held, Running, Done}
use Rattle.dd_machine.specs.Bytes.{resident, load, reserved, victim, is_pinned}
use Rattle.dd_machine.specs.Needed.{needed, is_current, own_space, reads_current}
use Rattle.dd_machine.specs.Owed.{left, next_event, next_line}
use Rattle.dd_machine.specs.States.{State, at_one}
use Rattle.dd_machine.specs.Tests.{Has, HasNoLend, is_in_state, is_any, is_here, is_leaving, is_out, is_coming, is_idle, is_here_or_lent, is_active, is_running}
use Rattle.dd_machine.specs.Words.{IsOneOf, IsOf, spaces, blocks, tasks, limit, bytes, place, proc_of, touches, has_number, argument_bytes}

-- so many workers there are
abbrev pub workers : ℕ
workers = 64

-- so many bytes fit into the space: with its resident bytes they are at most its limit
abbrev pub Fits : Plan → State → ℕ → ℕ → Type 0
Fits plan st space more = resident plan st space + more ≤ limit plan space

-- the event is the next of the statements
abbrev pub IsNext : Plan → State → Event → Type 0
IsNext plan st event = next_event (left plan st.progress) ≡ Some event

-- every task of the region is done
abbrev pub AllDone : Plan → State → ℕ → Type 0
AllDone plan st region = (t : ℕ) → IsOf plan region t → st.tasks t ≡ Done

-- a block may be asked for: the next of the statements, or, where a region is open, a home copy that isn't current
pub record MayAsk (plan : Plan) (st : State) (space block : ℕ) : Type 0 where
  pub space_is : IsOneOf (spaces plan) space
  pub block_is : IsOneOf (blocks plan) block
  pub no_pin : st.pin ≡ None
  pub due : st.region ≡ None → IsNext plan st (Ask space block)
  pub all_done : (r : ℕ) → st.region ≡ Some r → AllDone plan st r
  pub home : (r : ℕ) → st.region ≡ Some r → st.homes block ≡ space
  pub there : (r : ℕ) → st.region ≡ Some r → Has st space block is_any
  pub stale : (r : ℕ) → st.region ≡ Some r → is_current plan st space block ≡ false

-- the pin may be given up: its copy is Here, in an open region with all versions current, and no copy is Leaving
pub record MayRest (plan : Plan) (st : State) : Type 0 where
  pub due : st.region ≡ None → IsNext plan st Rest
  pub pinned : is_some st.pin ≡ true
  pub here : (s b : ℕ) → st.pin ≡ Some (s, b) → Has st s b is_here
  pub current : (r s b : ℕ) → st.region ≡ Some r → st.pin ≡ Some (s, b) → is_current plan st s b ≡ true
  pub none_leaving : (s b : ℕ) → is_in_state is_leaving (st.copies s b) ≡ false

-- the pinned block may be made at its home: it is the next of the statements, it has no copy, and it fits
pub record MayPut (plan : Plan) (st : State) (block : ℕ) : Type 0 where
  pub block_is : IsOneOf (blocks plan) block
  pub outside : st.region ≡ None
  pub due : IsNext plan st (Put block)
  pub pin : st.pin ≡ Some (st.homes block, block)
  pub absent : (s : ℕ) → st.copies s block ≡ None
  pub fits : Fits plan st (st.homes block) (bytes plan block)

-- the pinned block may get its home in the space of the pin: its home copy stands elsewhere, Here or Out, and it fits
pub record MayShift (plan : Plan) (st : State) (block space : ℕ) : Type 0 where
  pub block_is : IsOneOf (blocks plan) block
  pub space_is : IsOneOf (spaces plan) space
  pub outside : st.region ≡ None
  pub due : IsNext plan st (Shift block space)
  pub pin : st.pin ≡ Some (space, block)
  pub elsewhere : st.homes block ≢ space
  pub idle : Has st (st.homes block) block is_idle
  pub fits : Fits plan st space (bytes plan block)

-- a copy may be freed: the next of the statements, or, where a region is open, one that isn't at the home, where all is current
pub record MayFree (plan : Plan) (st : State) (space block : ℕ) : Type 0 where
  pub space_is : IsOneOf (spaces plan) space
  pub block_is : IsOneOf (blocks plan) block
  pub idle : Has st space block is_idle
  pub due : st.region ≡ None → IsNext plan st (Free space block)
  pub at_home : st.region ≡ None → st.homes block ≡ space
  pub all_done : (r : ℕ) → st.region ≡ Some r → AllDone plan st r
  pub no_pin : (r : ℕ) → st.region ≡ Some r → st.pin ≡ None
  pub elsewhere : (r : ℕ) → st.region ≡ Some r → st.homes block ≢ space
  pub home_there : (r : ℕ) → st.region ≡ Some r → Has st (st.homes block) block is_any
  pub home_current : (r : ℕ) → st.region ≡ Some r → is_current plan st (st.homes block) block ≡ true

-- the next region may begin
pub record MayBegin (plan : Plan) (st : State) (region : ℕ) : Type 0 where
  pub no_pin : st.pin ≡ None
  pub outside : st.region ≡ None
  pub due : IsNext plan st (Begin region)

-- the state in which the task is Held
abbrev pub held_too : State → ℕ → State
held_too st task = record st { tasks = at_one st.tasks task Held }

-- a waiting task of the open region may be held: its dependencies are done, its processor has no other task that is Held
-- or Running, and with it what is pinned still fits
pub record MayHold (plan : Plan) (st : State) (task : ℕ) : Type 0 where
  pub task_is : IsOneOf (tasks plan) task
  pub of_region : st.region ≡ Some (task_row plan task).region
  pub waiting : st.tasks task ≡ Waiting
  pub deps_done : (d : ℕ) → has_number (task_row plan task).deps d ≡ true → st.tasks d ≡ Done
  pub alone : (t : ℕ) → IsOneOf (tasks plan) t → proc_of plan t ≡ proc_of plan task → is_active (st.tasks t) ≡ false
  pub room : reserved plan (held_too st task) (place plan task) ≤ limit plan (place plan task)

-- the victim of a space may start to leave: the load is above the limit
pub record MayPick (plan : Plan) (st : State) (space block : ℕ) : Type 0 where
  pub space_is : IsOneOf (spaces plan) space
  pub over : limit plan space < load plan st space
  pub is_victim : victim plan st space ≡ Some block

-- a copy that was leaving is out
pub record MayGone (plan : Plan) (st : State) (space block : ℕ) : Type 0 where
  pub space_is : IsOneOf (spaces plan) space
  pub block_is : IsOneOf (blocks plan) block
  pub leaving : Has st space block is_leaving

-- a Held task may get a copy of a block that it touches, all blank: its space has none, and the block fits
pub record MayMake (plan : Plan) (st : State) (task block : ℕ) : Type 0 where
  pub held : st.tasks task ≡ Held
  pub touched : touches plan task block ≡ true
  pub absent : st.copies (place plan task) block ≡ None
  pub fits : Fits plan st (place plan task) (bytes plan block)

-- a pinned copy that is Out may be brought back: the block fits
pub record MayCall (plan : Plan) (st : State) (space block : ℕ) : Type 0 where
  pub space_is : IsOneOf (spaces plan) space
  pub block_is : IsOneOf (blocks plan) block
  pub out : Has st space block is_out
  pub pinned : is_pinned plan st space block ≡ true
  pub fits : Fits plan st space (bytes plan block)

-- a copy that was coming is here
pub record MayCome (plan : Plan) (st : State) (space block : ℕ) : Type 0 where
  pub space_is : IsOneOf (spaces plan) space
  pub block_is : IsOneOf (blocks plan) block
  pub coming : Has st space block is_coming

-- the task is Held; 0 stands for the write-back: a region is open, and the pin is on the block's home copy
abbrev pub MayFetch : State → ℕ → ℕ → Type 0
MayFetch st zero block = (is_some st.region ≡ true) × (st.pin ≡ Some (st.homes block, block))
MayFetch st (suc t) block = st.tasks (suc t) ≡ Held

-- a copy that is Out may be lent: its block is Here for the one that asks, who needs some of its elements and has no other
-- lend, and the block fits once more there
pub record MayLend (plan : Plan) (st : State) (task block source : ℕ) : Type 0 where
  pub source_is : IsOneOf (spaces plan) source
  pub block_is : IsOneOf (blocks plan) block
  pub asked : MayFetch st task block
  pub here : Has st (own_space plan st task block) block is_here
  pub no_lend : HasNoLend st task
  pub out : Has st source block is_out
  pub some_needed : 0 < length (needed plan st task block source)
  pub fits : Fits plan st (own_space plan st task block) (bytes plan block)

-- the needed elements may be copied from a copy that is Here or lent for this: for a task a Copy, for 0 a Back
pub record MayCopy (plan : Plan) (st : State) (task block source count : ℕ) : Type 0 where
  pub source_is : IsOneOf (spaces plan) source
  pub block_is : IsOneOf (blocks plan) block
  pub asked : MayFetch st task block
  pub here : Has st (own_space plan st task block) block is_here
  pub gives : Has st source block (is_here_or_lent task)
  pub exact : count ≡ length (needed plan st task block source)
  pub some_needed : 0 < count

-- the number is one of a task, not the 0 of the write-back
abbrev pub IsTask : ℕ → Type 0
IsTask task = 1 ≤ task

-- a Held task may start: its blocks are Here, all that it reads is current, it has no lend, the worker runs nothing, and its
-- arguments fit
pub record MayClaim (plan : Plan) (st : State) (task worker : ℕ) : Type 0 where
  pub held : st.tasks task ≡ Held
  pub all_here : (b : ℕ) → touches plan task b ≡ true → Has st (place plan task) b is_here
  pub all_current : (b : ℕ) → touches plan task b ≡ true → reads_current plan st task b ≡ true
  pub no_lend : HasNoLend st task
  pub worker_is : IsOneOf workers worker
  pub worker_free : (t : ℕ) → IsOneOf (tasks plan) t → st.tasks t ≢ Running worker
  pub fits : Fits plan st (place plan task) (argument_bytes plan task)

-- the open region may end: every task is done, there is no pin, and every copy is one at home, Here or Out, all current
pub record MayClose (plan : Plan) (st : State) (region : ℕ) : Type 0 where
  pub open_is : st.region ≡ Some region
  pub all_done : AllDone plan st region
  pub no_pin : st.pin ≡ None
  pub idle : (s b : ℕ) → Has st s b is_any → Has st s b is_idle
  pub at_home : (s b : ℕ) → Has st s b is_any → st.homes b ≡ s
  pub current : (s b : ℕ) → Has st s b is_any → is_current plan st s b ≡ true

-- an event is legal
abbrev pub May : Plan → State → Event → Type 0
May plan st (Ask space block) = MayAsk plan st space block
May plan st Rest = MayRest plan st
May plan st (Put block) = MayPut plan st block
May plan st (Shift block space) = MayShift plan st block space
May plan st (Free space block) = MayFree plan st space block
May plan st (Begin region) = MayBegin plan st region
May plan st (Hold task) = MayHold plan st task
May plan st (Pick space block) = MayPick plan st space block
May plan st (Gone space block) = MayGone plan st space block
May plan st (Make task block) = MayMake plan st task block
May plan st (Call space block) = MayCall plan st space block
May plan st (Come space block) = MayCome plan st space block
May plan st (Lend task block source) = MayLend plan st task block source
May plan st (Copy task block source count) = IsTask task × MayCopy plan st task block source count
May plan st (Claim task worker) = MayClaim plan st task worker
May plan st (Finish task) = is_running (st.tasks task) ≡ true
May plan st (Back block source count) = MayCopy plan st 0 block source count
May plan st (Close region) = MayClose plan st region

-- an entry is legal where its event is, and it has the line of the next entry of the statements
abbrev pub Legal : Plan → State → Entry → Type 0
Legal plan st entry = (next_line (left plan st.progress) ≡ Some entry.line) × May plan st entry.event
