-- Worked examples of what a region moves: each computes. The first array has its home in the first space, the second in
-- the second, and so on in turn.
use Rattle.std.proofs.Common.{◌≡◌, ℕ, pos, List, [], ◌∷◌, map, refl}
use Rattle.dd_kernels.specs.declared.kernel.Kernel.TheVariants.{Add, Copy, Fill}
use Rattle.dd_kernels.specs.declared.signature.Mode.TheVariants.{Read, Write, Both}
use Rattle.dd_blocks.specs.declared.fill.Fill.TheVariants.{Const, Zeros}
use Rattle.dd_blocks.specs.declared.plan.Plan.{Plan}
use Rattle.dd_blocks.specs.declared.what.What.TheVariants.{Put, Print, Moved, MoveTo, Region}
use Rattle.dd_blocks.specs.PlanElements.{elements}
use Rattle.dd_meaning.specs.Moves.{moved, moves_to, triples_of}
use Rattle.dd_meaning.proofs.SmallPlans.{access, array_of, column_view, plan_of, row_view, span_of, task_of}

-- how often the first region moves each element
abbrev each_moved : Plan → List ℕ
each_moved plan = map (triples_of plan 1 (moves_to plan 1)) (elements plan)

-- one task writes an array of four, another reads two of its elements in the other space: these two move
abbrev half_read : Plan
half_read = plan_of (array_of 4 1 Zeros 1 0 ∷ array_of 2 1 Zeros 2 4 ∷ [])
    (task_of Fill (pos 7) 1 (access Write (column_view 1 4 (span_of 1 (pos 1) 4)) ∷ [])
    ∷ task_of Copy (pos 0) 2 (access Write (column_view 2 2 (span_of 1 (pos 1) 2)) ∷ access Read (column_view 1 4 (span_of 1 (pos 1) 2)) ∷ []) ∷ [])
    (Put 1 ∷ Put 2 ∷ Region 1 ∷ Moved ∷ Print 2 ∷ [])

two_of_four : moved half_read 1 ≡ 2
two_of_four = refl

-- they are read there once more after another task: a version enters a space once
abbrev read_twice : Plan
read_twice = plan_of (array_of 4 1 Zeros 1 0 ∷ array_of 2 1 Zeros 2 4 ∷ array_of 2 1 Zeros 3 6 ∷ [])
    (task_of Fill (pos 7) 1 (access Write (column_view 1 4 (span_of 1 (pos 1) 4)) ∷ [])
    ∷ task_of Copy (pos 0) 2 (access Write (column_view 2 2 (span_of 1 (pos 1) 2)) ∷ access Read (column_view 1 4 (span_of 1 (pos 1) 2)) ∷ [])
    ∷ task_of Fill (pos 1) 1 (access Write (column_view 3 2 (span_of 1 (pos 1) 2)) ∷ [])
    ∷ task_of Add (pos 0) 2 (access Both (column_view 2 2 (span_of 1 (pos 1) 2)) ∷ access Read (column_view 1 4 (span_of 1 (pos 1) 2)) ∷ []) ∷ [])
    (Put 1 ∷ Put 2 ∷ Put 3 ∷ Region 1 ∷ Moved ∷ Print 2 ∷ [])

once_each : moved read_twice 1 ≡ 2
once_each = refl

-- a version that is only written over moves nowhere, the last one goes home
abbrev written_over : Plan
written_over = plan_of (array_of 1 4 Zeros 1 0 ∷ [])
    (task_of Fill (pos 1) 1 (access Write (row_view 1 (span_of 1 (pos 1) 4)) ∷ [])
    ∷ task_of Fill (pos 2) 2 (access Write (row_view 1 (span_of 1 (pos 1) 4)) ∷ []) ∷ [])
    (Put 1 ∷ Region 1 ∷ Moved ∷ Print 1 ∷ [])

last_goes_home : moved written_over 1 ≡ 4
last_goes_home = refl

-- where the array was moved to the other space before, what the task wrote goes there
abbrev moved_before : Plan
moved_before = plan_of (array_of 1 4 Zeros 1 0 ∷ [])
    (task_of Fill (pos 1) 1 (access Write (row_view 1 (span_of 1 (pos 1) 4)) ∷ []) ∷ [])
    (Put 1 ∷ MoveTo 1 2 ∷ Region 1 ∷ Moved ∷ Print 1 ∷ [])

to_the_new_home : moved moved_before 1 ≡ 4
to_the_new_home = refl

abbrev not_moved_before : Plan
not_moved_before = plan_of (array_of 1 4 Zeros 1 0 ∷ [])
    (task_of Fill (pos 1) 1 (access Write (row_view 1 (span_of 1 (pos 1) 4)) ∷ []) ∷ [])
    (Put 1 ∷ Region 1 ∷ Moved ∷ Print 1 ∷ [])

is_at_home : moved not_moved_before 1 ≡ 0
is_at_home = refl

-- a task reads an array at home and writes the other one away from its home; the next task writes the first one away
-- from its home: each array goes home, and nothing else moves
abbrev read_then_written : Plan
read_then_written = plan_of (array_of 1 2 (Const (pos 5)) 1 0 ∷ array_of 1 2 Zeros 2 2 ∷ [])
    (task_of Copy (pos 0) 1 (access Write (row_view 2 (span_of 1 (pos 1) 2)) ∷ access Read (row_view 1 (span_of 1 (pos 1) 2)) ∷ [])
    ∷ task_of Fill (pos 9) 2 (access Write (row_view 1 (span_of 1 (pos 1) 2)) ∷ []) ∷ [])
    (Put 1 ∷ Put 2 ∷ Region 1 ∷ Print 2 ∷ Print 1 ∷ Moved ∷ [])

both_go_home : each_moved read_then_written ≡ 1 ∷ 1 ∷ 1 ∷ 1 ∷ []
both_go_home = refl

-- an array is read in the other space as it is when the region begins
abbrev opening_read : Plan
opening_read = plan_of (array_of 1 2 (Const (pos 5)) 1 0 ∷ array_of 1 2 Zeros 2 2 ∷ [])
    (task_of Copy (pos 0) 2 (access Write (row_view 2 (span_of 1 (pos 1) 2)) ∷ access Read (row_view 1 (span_of 1 (pos 1) 2)) ∷ []) ∷ [])
    (Put 1 ∷ Put 2 ∷ Region 1 ∷ Moved ∷ [])

opening_moves : each_moved opening_read ≡ 1 ∷ 1 ∷ 0 ∷ 0 ∷ []
opening_moves = refl
