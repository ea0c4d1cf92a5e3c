-- The values of single elements, task after task.
use Rattle.std.specs.Prelude.{ℕ, ◌-◌, ℤ, pos, List, map, slice_index_or}
use Rattle.dd_blocks.specs.declared.plan.Plan.{Plan}
use Rattle.dd_blocks.specs.Numbered.{task_row}
use Rattle.dd_meaning.specs.Steps.{computed, gathered, world_after}
use Rattle.dd_blocks.specs.Elements.{Element}
use Rattle.dd_meaning.specs.Worlds.{World, values_of}

-- the value of an element in a world
abbrev pub value_in : World → Element → ℤ
value_in world e = slice_index_or (values_of world e.array) e.pos (pos 0)

-- its value after the first k tasks of a script
abbrev pub value_at : Plan → ℕ → Element → ℤ
value_at plan k e = value_in (world_after plan k) e

-- what the task with a number finds at its accesses
abbrev pub inputs_of : Plan → ℕ → List (List ℤ)
inputs_of plan t = map (gathered (world_after plan (t - 1))) (task_row plan t).accesses

-- and what its kernel makes of it
abbrev pub outputs_of : Plan → ℕ → List (List ℤ)
outputs_of plan t = computed (world_after plan (t - 1)) (task_row plan t)
