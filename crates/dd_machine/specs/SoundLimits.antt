-- The sound state: the limits, the orders, the pin, and who is at work.
use Rattle.std.specs.Prelude.{◌≡◌, ◌≢◌, ℕ, ◌≤◌, ◌<◌, nat_eq, true, Some, None}
use Rattle.dd_blocks.specs.declared.plan.Plan.{Plan}
use Rattle.dd_machine.specs.declared.task_state.TaskState.TheVariants.{Running}
use Rattle.dd_machine.specs.Bytes.{resident}
use Rattle.dd_machine.specs.Legal.{AllDone}
use Rattle.dd_machine.specs.Needed.{is_needed}
use Rattle.dd_machine.specs.States.{State}
use Rattle.dd_machine.specs.Tests.{Has, is_here, is_lent, is_active, is_running}
use Rattle.dd_machine.specs.Words.{IsOneOf, IsOf, spaces, blocks, limit, size, has_number, touches, place, proc_of}

-- a region is open
abbrev pub IsOpen : State → Type 0
IsOpen st = (r : ℕ) × (st.region ≡ Some r)

-- a copy that is lent for the write-back is one of the pinned block at its home, and is still needed
abbrev pub IsLentToPin : Plan → State → ℕ → ℕ → Type 0
IsLentToPin plan st space block = (st.pin ≡ Some (st.homes block, block)) × ((i : ℕ) × (i < size plan block) × (is_needed plan st 0 block space i ≡ true))

pub record SoundLimits (plan : Plan) (st : State) : Type 0 where
  -- no space holds more than its limit
  pub within : (s : ℕ) → IsOneOf (spaces plan) s → resident plan st s ≤ limit plan s
  -- the order of a space has its Here blocks
  pub order_here : (s b : ℕ) → has_number (st.orders s) b ≡ true → Has st s b is_here
  pub order_has : (s b : ℕ) → Has st s b is_here → has_number (st.orders s) b ≡ true
  -- the blocks of a Running task are Here
  pub running_here : (t b : ℕ) → is_running (st.tasks t) ≡ true → touches plan t b ≡ true → Has st (place plan t) b is_here
  -- a copy is lent only while a region is open; one that is lent for the write-back is of the pinned block
  pub lends_open : (s b : ℕ) → Has st s b (is_lent (λ t. true)) → IsOpen st
  pub lends_pinned : (s b : ℕ) → Has st s b (is_lent (λ t. nat_eq t 0)) → IsLentToPin plan st s b
  -- a task that is Held or Running is of the open region, alone on its processor, and alone with its worker
  pub active_open : (t : ℕ) → is_active (st.tasks t) ≡ true → (r : ℕ) × (st.region ≡ Some r) × IsOf plan r t
  pub one_each : (t u : ℕ) → is_active (st.tasks t) ≡ true → is_active (st.tasks u) ≡ true → proc_of plan t ≡ proc_of plan u → t ≡ u
  pub one_worker : (t u w : ℕ) → st.tasks t ≡ Running w → st.tasks u ≡ Running w → t ≡ u
  -- the pin is on a block of the Plan; in an open region only where every task is done, and at the home
  pub pin_calm : (r : ℕ) → st.region ≡ Some r → st.pin ≢ None → AllDone plan st r
  pub pin_home : (r s b : ℕ) → st.region ≡ Some r → st.pin ≡ Some (s, b) → st.homes b ≡ s
  pub pin_known : (s b : ℕ) → st.pin ≡ Some (s, b) → IsOneOf (spaces plan) s × IsOneOf (blocks plan) b
