-- The tasks of a region stand side by side.
use Rattle.std.proofs.Common.{◌≡◌, ℕ, ◌-◌, ◌<◌, ◌≤◌, true, false, ltb, List, length, get_or, ap, arith}
use Rattle.std.specs.List.Sorted.{IsPartitionPoint}
use Rattle.std.proofs.lemmas.Bool.{ltb-false, ltb-true}
use Rattle.dd_blocks.specs.declared.plan.Plan.{Plan}
use Rattle.dd_blocks.specs.declared.task_row.TaskRow.{TaskRow}
use Rattle.dd_blocks.specs.Numbered.{no_task, task_row}
use Rattle.dd_blocks.specs.WellFormed.{IsWellFormed}
use Rattle.dd_blocks.proofs.NumberedLemmas.{numbered-get}
use Rattle.dd_machine.specs.Words.{tasks}

-- a later task is of no earlier region
pub regions_rise : (plan : Plan) (t u : ℕ) → IsWellFormed plan → 1 ≤ t → t ≤ u → u ≤ tasks plan → (task_row plan t).region ≤ (task_row plan u).region
regions_rise plan t u well some le within =
    let at_t : task_row plan t ≡ get_or plan.tasks (t - 1) no_task = numbered-get no_task plan.tasks t some in
    let at_u : task_row plan u ≡ get_or plan.tasks (u - 1) no_task = numbered-get no_task plan.tasks u (omega (arith, some, le)) in
    rw (at_t, at_u) (well.regions.tasks (t - 1) (u - 1) no_task (omega (arith, le)) (omega (arith, some, le, within)))

-- the cut parts the tasks of earlier regions from the others
abbrev pub IsCut : ℕ → List TaskRow → ℕ → Type 0
IsCut region rows k = IsPartitionPoint (λ (row : TaskRow). ltb row.region region ≡ true) (λ (row : TaskRow). ltb row.region region ≡ false) rows k

pub before_cut : (plan : Plan) (region k : ℕ) (rows : List TaskRow) → rows ≡ plan.tasks → IsCut region rows k → (t : ℕ) → 1 ≤ t → t ≤ k → (task_row plan t).region < region
before_cut plan region k rows same cut t some le =
    let at_t : task_row plan t ≡ get_or plan.tasks (t - 1) no_task = numbered-get no_task plan.tasks t some in
    let on : ltb (get_or rows (t - 1) no_task).region region ≡ true = cut.0 (t - 1) no_task (omega arith) (omega (arith, some, le)) in
    rw at_t (ltb-true (get_or plan.tasks (t - 1) no_task).region region (rw same at on))

pub behind_cut : (plan : Plan) (region k : ℕ) (rows : List TaskRow) → rows ≡ plan.tasks → IsCut region rows k → (t : ℕ) → k < t → t ≤ tasks plan → region ≤ (task_row plan t).region
behind_cut plan region k rows same cut t lt within =
    let long = ap (λ (xs : List TaskRow). length xs) same in
    let at_t : task_row plan t ≡ get_or plan.tasks (t - 1) no_task = numbered-get no_task plan.tasks t (omega (arith, lt)) in
    let off : ltb (get_or rows (t - 1) no_task).region region ≡ false = cut.1 (t - 1) no_task (omega (arith, lt)) (omega (arith, lt, within, long)) in
    rw at_t (ltb-false (get_or plan.tasks (t - 1) no_task).region region (rw same at off))
