-- What a task does to a world, and the worlds after each task of a script.
use Rattle.std.specs.Prelude.{ℕ, ◌-◌, ℤ, pos, List, [], ◌∷◌, map, take, slice_index_or, slice_set, cond}
use Rattle.std.specs.List.{fold}
use Rattle.dd_kernels.specs.Table.{results}
use Rattle.dd_views.specs.IndexList.{index_list}
use Rattle.dd_blocks.specs.declared.access_row.AccessRow.{AccessRow}
use Rattle.dd_blocks.specs.declared.plan.Plan.{Plan}
use Rattle.dd_blocks.specs.declared.task_row.TaskRow.{TaskRow}
use Rattle.dd_blocks.specs.Elements.{writes}
use Rattle.dd_blocks.specs.Tasks.{shapes_in}
use Rattle.dd_meaning.specs.Worlds.{World, values_of, filled_world}

-- the values at the positions of an access, in its order
abbrev pub gathered : World → AccessRow → List ℤ
gathered world access = map (λ p. slice_index_or (values_of world access.view.array) p (pos 0)) (index_list access.view)

-- the values of an array after each position of a list got the value that stands beside it
abbrev pub put_at : List ℕ → List ℤ → List ℤ → List ℤ
put_at [] values array = array
put_at (p ∷ ps) [] array = array
put_at (p ∷ ps) (v ∷ vs) array = put_at ps vs (slice_set array p v)

-- the world after the values of an access were stored, where it is written
abbrev pub stored_one : World → AccessRow → List ℤ → World
stored_one world access values =
    cond (writes access.mode) (slice_set world (access.view.array - 1) (put_at (index_list access.view) values (values_of world access.view.array))) world

-- all accesses one after the other: where they overlap, a later one wins
abbrev pub stored : World → List AccessRow → List (List ℤ) → World
stored world [] lists = world
stored world (access ∷ more) [] = world
stored world (access ∷ more) (values ∷ lists) = stored (stored_one world access values) more lists

-- what the kernel of a task makes of its accesses; one that the kernel only writes is gathered too, and counts
-- for nothing (the clause `overwritten` of dd_apply's calls)
abbrev pub computed : World → TaskRow → List (List ℤ)
computed world task = results task.kernel task.scalar (shapes_in task.accesses) (map (gathered world) task.accesses)

-- the world after a task
abbrev pub step : World → TaskRow → World
step world task = stored world task.accesses (computed world task)

-- the world after the first tasks of a script, so many
abbrev pub world_after : Plan → ℕ → World
world_after plan n = fold step (filled_world plan) (take n plan.tasks)
