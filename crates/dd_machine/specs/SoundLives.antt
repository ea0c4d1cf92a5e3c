-- The sound state: what the entries that the statements made leave, and what stands outside a region.
use Rattle.std.specs.Prelude.{◌≡◌, ◌≢◌, ℕ, ◌<◌, true, false, Some, None}
use Rattle.dd_blocks.specs.declared.plan.Plan.{Plan}
use Rattle.dd_blocks.specs.Numbered.{block_row, task_row}
use Rattle.dd_blocks.specs.Elements.{Element}
use Rattle.dd_machine.specs.declared.event.Event.TheVariants.{Close}
use Rattle.dd_machine.specs.declared.task_state.TaskState.TheVariants.{Done}
use Rattle.dd_machine.specs.Bytes.{is_pinned}
use Rattle.dd_machine.specs.Legal.{IsNext}
use Rattle.dd_machine.specs.Made.{home_made, is_live, pin_made, was_begun, was_closed}
use Rattle.dd_machine.specs.Needed.{is_current}
use Rattle.dd_machine.specs.Owed.{IsPosition, made}
use Rattle.dd_machine.specs.States.{State}
use Rattle.dd_machine.specs.Tests.{Has, is_in_state, is_any, is_coming, is_idle, is_waiting}
use Rattle.dd_machine.specs.Words.{IsOneOf, IsOf, tasks, touches, writes}

pub record SoundLives (plan : Plan) (st : State) : Type 0 where
  -- a block has a home copy exactly from its Put to its Free; its home and the pin are those of the entries made
  pub home_live : (b : ℕ) → is_live (made plan st.progress) b ≡ is_in_state is_any (st.copies (st.homes b) b)
  pub home_is : (b : ℕ) → home_made (block_row plan b).home (made plan st.progress) b ≡ st.homes b
  pub pin_is : st.region ≡ None → st.pin ≡ pin_made (made plan st.progress)
  -- an open region was begun, and its Close is next; what its tasks touch is live
  pub open_next : (r : ℕ) → st.region ≡ Some r → IsNext plan st (Close r)
  pub open_begun : (r : ℕ) → st.region ≡ Some r → was_begun (made plan st.progress) r ≡ true
  pub touched_live : (r t b : ℕ) → st.region ≡ Some r → IsOf plan r t → touches plan t b ≡ true → is_live (made plan st.progress) b ≡ true
  -- outside a region every copy is at home and current, and without a pin it is Here or Out
  pub at_home : st.region ≡ None → (s b : ℕ) → Has st s b is_any → st.homes b ≡ s
  pub home_current : st.region ≡ None → (s b : ℕ) → Has st s b is_any → is_current plan st s b ≡ true
  pub home_idle : st.region ≡ None → st.pin ≡ None → (s b : ℕ) → Has st s b is_any → Has st s b is_idle
  -- where the run stands is a position
  pub position : IsPosition plan st.progress
  -- a task that doesn't wait is of a region that was begun; every task of one that was closed is done, and of each before an open one
  pub begun : (t : ℕ) → is_waiting (st.tasks t) ≡ false → was_begun (made plan st.progress) (task_row plan t).region ≡ true
  pub closed_done : (t : ℕ) → IsOneOf (tasks plan) t → was_closed (made plan st.progress) (task_row plan t).region ≡ true → st.tasks t ≡ Done
  pub earlier_done : (r t : ℕ) → st.region ≡ Some r → IsOneOf (tasks plan) t → (task_row plan t).region < r → st.tasks t ≡ Done
  -- the current version is 0, or that of a done task that writes the element
  pub current_done : (e : Element) → st.current e ≢ 0 → (st.tasks (st.current e) ≡ Done) × (writes plan (st.current e) e ≡ true)
  -- a copy that is coming is pinned
  pub coming_pinned : (s b : ℕ) → Has st s b is_coming → is_pinned plan st s b ≡ true
