-- The state that the tables stand for.
use Rattle.std.specs.Prelude.{ℕ, ◌<◌, List, [], length}
use Rattle.dd_blocks.specs.declared.plan.Plan.{Plan}
use Rattle.dd_recency.specs.Recency.{Recency}
use Rattle.dd_machine.specs.declared.task_state.TaskState.{TaskState}
use Rattle.dd_machine.specs.declared.task_state.TaskState.TheVariants.{Waiting}
use Rattle.dd_machine.specs.States.{State}
use Rattle.dd_tables.specs.declared.tables.Tables.{Tables}
use Rattle.dd_copies.specs.CopyTables.{copies_of}
use Rattle.dd_tables.specs.Currents.{current_of}
use Rattle.dd_copies.specs.Numbers.{at_number, or_else}

-- the order of a space, how far a task is, and the home of a block
unfoldable pub orders_of : List Recency → ℕ → List ℕ
orders_of orders space = (or_else (record { blocks = []; room = 0 }) (at_number orders space)).blocks

unfoldable pub tasks_of : List TaskState → ℕ → TaskState
tasks_of states task = or_else Waiting (at_number states task)

unfoldable pub homes_of : List ℕ → ℕ → ℕ
homes_of homes block = or_else 0 (at_number homes block)

-- the state that the tables stand for
abbrev pub state_of : Plan → Tables → State
state_of plan tables = record {
  copies = copies_of tables.copies;
  orders = orders_of tables.orders.items;
  tasks = tasks_of tables.tasks.items;
  current = current_of plan tables.current.list;
  homes = homes_of tables.homes.items;
  moved = tables.moved;
  region = tables.region;
  pin = tables.pin;
  progress = record { row = tables.row; made = tables.made };
}

-- the order of a space may have one more block
unfoldable pub HasRoom : List Recency → ℕ → Type 0
HasRoom orders space =
    let order = or_else (record { blocks = []; room = 0 }) (at_number orders space) in
    length order.blocks < order.room
