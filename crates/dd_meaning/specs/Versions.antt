-- The versions of an element: the numbers of the tasks that write it, and 0 for what it holds at first.
use Rattle.std.specs.Prelude.{ℕ, zero, suc, ◌-◌, Bool, true, ◌&&◌, nat_eq, nat_le, cond, List, length, count_by}
use Rattle.std.specs.List.{filter, range_with_len}
use Rattle.dd_blocks.specs.declared.plan.Plan.{Plan}
use Rattle.dd_blocks.specs.declared.task_row.TaskRow.{TaskRow}
use Rattle.dd_blocks.specs.Elements.{Element, task_writes}
use Rattle.dd_blocks.specs.Numbered.{task_row}

-- the greatest number up to n that passes a test, or 0
abbrev pub latest : (ℕ → Bool) → ℕ → ℕ
latest passes zero = zero
latest passes (suc n) = cond (passes (suc n)) (suc n) (latest passes n)

-- of the tasks up to n that pass a test, the greatest that writes the element, or 0
abbrev pub last_writer_among : Plan → (ℕ → Bool) → Element → ℕ → ℕ
last_writer_among plan passes e n = latest (λ t. passes t && task_writes (task_row plan t) e) n

-- of all tasks up to n
abbrev pub last_writer : Plan → Element → ℕ → ℕ
last_writer plan e n = last_writer_among plan (λ t. true) e n

-- the version that a task finds
abbrev pub needed_version : Plan → Element → ℕ → ℕ
needed_version plan e t = last_writer plan e (t - 1)

-- how many tasks there are up to the end of a region, since the tasks stand region by region
abbrev pub tasks_through : Plan → ℕ → ℕ
tasks_through plan region = count_by (λ (t : TaskRow). nat_le t.region region) plan.tasks

-- the numbers of the tasks of a region
abbrev pub tasks_in : Plan → ℕ → List ℕ
tasks_in plan region = filter (λ t. nat_eq (task_row plan t).region region) (range_with_len 1 (length plan.tasks))

-- the version with which a region begins, and the one with which it ends
abbrev pub opening_version : Plan → ℕ → Element → ℕ
opening_version plan region e = last_writer plan e (tasks_through plan (region - 1))

abbrev pub last_version : Plan → ℕ → Element → ℕ
last_version plan region e = last_writer plan e (tasks_through plan region)
