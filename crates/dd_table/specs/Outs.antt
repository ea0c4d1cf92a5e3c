-- What is out of a table.
use Rattle.std.specs.Prelude.{◌≡◌, ◌≢◌, ℕ, zero, suc, false, List, Option, None, Some, option_map, slice_get, take}
use Rattle.dd_blocks.specs.declared.plan.Plan.{Plan}
use Rattle.dd_machine.specs.declared.entry.Entry.{Entry}
use Rattle.dd_machine.specs.declared.event.Event.{Event}
use Rattle.dd_machine.specs.declared.event.Event.TheVariants.{Claim}
use Rattle.dd_machine.specs.declared.task_state.TaskState.TheVariants.{Running}
use Rattle.dd_machine.specs.Bytes.{when}
use Rattle.dd_machine.specs.Runs.{has_pick}
use Rattle.dd_machine.specs.States.{State}
use Rattle.dd_machine.specs.Tests.{is_running}
use Rattle.dd_machine.specs.Words.{tasks, total}
use Rattle.dd_stamps.specs.declared.work.Work.{Work}
use Rattle.dd_store.specs.declared.store.Slot.{Ghosts as SlotGhosts}
use Rattle.dd_store.specs.declared.store.Store.{Ghosts}
use Rattle.dd_table.specs.declared.table.Table.{Table}
use Rattle.dd_table.specs.Tables.{state_now}

-- the event of an entry, by its number from 1
abbrev pub event_at : List Entry → ℕ → Option Event
event_at entries zero = None
event_at entries (suc n) = option_map (λ (e : Entry). e.event) (slice_get entries n)

-- no task runs on the worker; no task runs at all
abbrev pub HasNone : State → ℕ → Type 0
HasNone st worker = (task : ℕ) → st.tasks task ≢ Running worker

abbrev pub HasNothingOut : State → Type 0
HasNothingOut st = (task : ℕ) → is_running (st.tasks task) ≡ false

-- how many tasks run
abbrev pub running_count : Plan → State → ℕ
running_count plan st = total (tasks plan) (λ t. when (is_running (st.tasks t)) 1)

module _ {D S : Type 0} {g : Ghosts D S} {h : SlotGhosts S} where
  -- the work is out of the table: the entry of its number is its Claim, its task runs with its worker, and it says whether an
  -- entry up to that number is a Pick
  pub record IsOut (t : Table D S g h) (w : Work) : Type 0 where
    pub plan : w.plan ≡ t.holding.ledger.plan
    pub claimed : event_at t.holding.ledger.journal.items w.number ≡ Some (Claim w.task w.worker)
    pub running : (state_now t).tasks w.task ≡ Running w.worker
    pub picked : w.picked ≡ has_pick (take w.number t.holding.ledger.journal.items)
