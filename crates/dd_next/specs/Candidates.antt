-- The events that may lead a Held task on, in the order in which they are tried.
use Rattle.std.specs.Prelude.{ℕ, List, [], ◌∷◌, ◌++◌, map, length, if◌then◌else◌}
use Rattle.std.specs.List.{flat_map, range_with_len}
use Rattle.dd_blocks.specs.declared.plan.Plan.{Plan}
use Rattle.dd_blocks.specs.Numbered.{task_row}
use Rattle.dd_machine.specs.declared.event.Event.{Event}
use Rattle.dd_machine.specs.declared.event.Event.TheVariants.{Pick, Make, Call, Lend, Copy}
use Rattle.dd_machine.specs.Needed.{needed}
use Rattle.dd_machine.specs.States.{State}
use Rattle.dd_machine.specs.Tests.{is_here, is_in_state}
use Rattle.dd_machine.specs.Words.{blocks, place, spaces}

-- a block of a space is spilled, the least first
abbrev pub picks : Plan → ℕ → List Event
picks plan space = map (λ b. Pick space b) (range_with_len 1 (blocks plan))

-- a task gets a copy of one of some blocks; one of them is called back into a space
abbrev pub makes : ℕ → List ℕ → List Event
makes task found = map (λ b. Make task b) found

abbrev pub calls : ℕ → List ℕ → List Event
calls space found = map (λ b. Call space b) found

-- the elements of a block that a task needs from a space are copied from there, where its copy is Here
abbrev pub copy_from : Plan → State → ℕ → ℕ → ℕ → List Event
copy_from plan st task block source = if is_in_state is_here (st.copies source block) then Copy task block source (length (needed plan st task block source)) ∷ [] else []

-- from each space, the least first; of each of some blocks
abbrev pub copies_of : Plan → State → ℕ → ℕ → List Event
copies_of plan st task block = flat_map (copy_from plan st task block) (range_with_len 1 (spaces plan))

abbrev pub copies : Plan → State → ℕ → List ℕ → List Event
copies plan st task found = flat_map (copies_of plan st task) found

-- the copy of a block in a space is lent to a task, the least space first; of each of some blocks
abbrev pub lends_of : Plan → ℕ → ℕ → List Event
lends_of plan task block = map (λ s. Lend task block s) (range_with_len 1 (spaces plan))

abbrev pub lends : Plan → ℕ → List ℕ → List Event
lends plan task found = flat_map (lends_of plan task) found

-- of some blocks, rising: copies of them are made, called back, brought up to date, and lent for that
abbrev pub with_blocks : Plan → State → ℕ → List ℕ → List Event
with_blocks plan st task found = makes task found ++ (calls (place plan task) found ++ (copies plan st task found ++ lends plan task found))

-- all of them: a block of the task's space is spilled, and what serves the blocks that it touches, which the Plan lists rising
abbrev pub candidates : Plan → State → ℕ → List Event
candidates plan st task = picks plan (place plan task) ++ with_blocks plan st task (task_row plan task).blocks
