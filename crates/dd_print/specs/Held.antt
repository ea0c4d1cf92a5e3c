-- The values that a state of the machine stands for: each element has the value of its current version.
use Rattle.std.specs.Prelude.{◌≡◌, ℕ, ◌≤◌, ℤ, ◌||◌, not, true, List, length, map}
use Rattle.std.specs.List.{range_with_len}
use Rattle.dd_blocks.specs.declared.plan.Plan.{Plan}
use Rattle.dd_blocks.specs.Elements.{Element}
use Rattle.dd_blocks.specs.Grids.{element_count}
use Rattle.dd_blocks.specs.Numbered.{array_row, block_row}
use Rattle.dd_blocks.specs.PlanElements.{element_of}
use Rattle.dd_kernels.specs.Lists.{element, sum_below, wrapped}
use Rattle.dd_machine.specs.Runs.{has_pick}
use Rattle.dd_machine.specs.States.{State}
use Rattle.dd_machine.specs.Tests.{is_done}
use Rattle.dd_machine.specs.Words.{IsOneOf, tasks}
use Rattle.dd_meaning.specs.Values.{value_at}
use Rattle.dd_store.specs.declared.store.Slot.{Ghosts as SlotGhosts}
use Rattle.dd_store.specs.declared.store.Store.{Ghosts}
use Rattle.dd_table.specs.declared.table.Table.{Table}

-- the value of an element: that after the task whose version is current, the last done task that writes the element
abbrev pub current_value : Plan → State → Element → ℤ
current_value plan st e = value_at plan (st.current e) e

-- the first n tasks are done, and no others
pub record AreDone (plan : Plan) (st : State) (n : ℕ) : Type 0 where
  pub first : (t : ℕ) → IsOneOf (tasks plan) t → is_done (st.tasks t) ≡ true → t ≤ n
  pub all : (t : ℕ) → IsOneOf (tasks plan) t → t ≤ n → is_done (st.tasks t) ≡ true

-- the values of an array, column by column: those that it has in the world after n tasks where these are done (the law `done_values`)
abbrev pub values_now : Plan → State → ℕ → List ℤ
values_now plan st array = map (λ p. current_value plan st (record { array = array; pos = p })) (range_with_len 0 (element_count (array_row plan array).grid))

-- the values of a block, place by place
abbrev pub block_values : Plan → State → ℕ → List ℤ
block_values plan st block = map (λ p. current_value plan st (element_of plan block p)) (range_with_len 0 (block_row plan block).size)

-- the sum of some values, which wraps
abbrev pub list_sum : List ℤ → ℤ
list_sum values = wrapped (sum_below (length values) (element values))

module _ {D S : Type 0} {g : Ghosts D S} {h : SlotGhosts S} where
  -- slots tell what was written, or nothing was spilled so far
  abbrev pub IsTelling : Table D S g h → Type 0
  IsTelling t = (SlotGhosts.tells h || not (has_pick t.holding.ledger.journal.items)) ≡ true
