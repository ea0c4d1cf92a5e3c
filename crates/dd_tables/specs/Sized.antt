-- The sizes of the tables, and what is kept beside the state.
use Rattle.std.specs.Prelude.{ℕ, ◌≡◌, ◌≢◌, ◌+◌, ◌≤◌, true, List, length, Some, All}
use Rattle.dd_blocks.specs.declared.plan.Plan.{Plan}
use Rattle.dd_blocks.specs.Layout.{elements_in}
use Rattle.dd_recency.specs.Recency.{Recency}
use Rattle.dd_machine.specs.Owed.{left, next_entry}
use Rattle.dd_machine.specs.declared.task_state.TaskState.{TaskState}
use Rattle.dd_machine.specs.Tests.{is_active}
use Rattle.dd_machine.specs.Words.{IsOneOf, blocks, proc_of, rows, spaces, tasks}
use Rattle.dd_tables.specs.declared.tables.Tables.{Tables}
use Rattle.dd_copies.specs.CopyTables.{IsTable}
use Rattle.dd_copies.specs.Numbers.{at_number}
use Rattle.dd_tables.specs.Tables.{state_of, tasks_of}

-- for each processor the task that is Held or Running on it, or 0
pub record IsAtWork (plan : Plan) (states : ℕ → TaskState) (at_work : List ℕ) : Type 0 where
  pub procs : length at_work ≡ length plan.procs
  pub active : (t : ℕ) → is_active (states t) ≡ true → IsOneOf (tasks plan) t × (at_number at_work (proc_of plan t) ≡ Some t)
  pub there : (p t : ℕ) → at_number at_work p ≡ Some t → t ≢ 0 → (is_active (states t) ≡ true) × (proc_of plan t ≡ p)

-- the tables are those of the Plan: a row for each of its spaces, tasks, blocks and elements, in each order room for two blocks
-- more than there are, and who is at work and the next entry as the state has them
pub record IsSized (plan : Plan) (tables : Tables) : Type 0 where
  pub copies : IsTable (spaces plan) (blocks plan) tables.copies
  pub orders : length tables.orders.items ≡ spaces plan
  pub room : All (λ (order : Recency). order.room ≡ blocks plan + 2) tables.orders.items
  pub tasks : length tables.tasks.items ≡ tasks plan
  pub current : length tables.current.list ≡ elements_in plan.arrays
  pub homes : length tables.homes.items ≡ blocks plan
  pub row : tables.row ≤ rows plan
  pub at_work : IsAtWork plan (tasks_of tables.tasks.items) tables.at_work.items
  pub next : tables.next ≡ next_entry (left plan (state_of plan tables).progress)
