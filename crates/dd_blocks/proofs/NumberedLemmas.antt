-- Rows by their numbers.
use Rattle.std.proofs.Common.{◌≡◌, ℕ, zero, suc, ◌-◌, ◌<◌, ◌≤◌, Bool, true, false, List, length, get_or, sym, ap, subst, ◌∙◌, arith, ⊎_elim}
use Rattle.std.specs.List.{list_any}
use Rattle.std.proofs.lemmas.Bool.{cases_lt}
use Rattle.std.proofs.lemmas.List.{get_or_default, get_or_past}
use Rattle.std.proofs.lemmas.List.Elements.{All-get_or}
use Rattle.dd_blocks.specs.declared.access_row.AccessRow.{AccessRow}
use Rattle.dd_blocks.specs.declared.plan.Plan.{Plan}
use Rattle.dd_blocks.specs.declared.task_row.TaskRow.{TaskRow}
use Rattle.dd_blocks.specs.Numbered.{IsNumberIn, no_task, numbered, task_row}
use Rattle.dd_blocks.specs.WellFormed.{IsWellFormed, TaskNamesRows}

pub numbered-get : {Row : Type 0} (none : Row) (rows : List Row) (n : ℕ) → 1 ≤ n → numbered none rows n ≡ get_or rows (n - 1) none
numbered-get none rows zero low = absurd (omega arith)
numbered-get none rows (suc n) low = let e : n ≡ suc n - 1 = omega arith in ap (λ (i : ℕ). get_or rows i none) e

-- the row of a number stands one place before it, whatever stands for no row
pub row_at : {Row : Type 0} (none d : Row) (rows : List Row) (n : ℕ) → IsNumberIn rows n → get_or rows (n - 1) d ≡ numbered none rows n
row_at none d rows n within = get_or_default rows (n - 1) d none (omega (arith, within.0, within.1)) ∙ sym (numbered-get none rows n within.0)

-- a task by its number names rows of the Plan
pub task_names_rows : (plan : Plan) → IsWellFormed plan → (t : ℕ) → IsNumberIn plan.tasks t → TaskNamesRows plan (task_row plan t)
task_names_rows plan well t within =
    subst (TaskNamesRows plan) (sym (numbered-get no_task plan.tasks t within.0)) (All-get_or (TaskNamesRows plan) plan.tasks (t - 1) no_task (omega arith) well.names.tasks)

-- a task one of whose accesses passes a test is one of the Plan's
pub task_within : (plan : Plan) (p : AccessRow → Bool) (t : ℕ) → list_any p (task_row plan t).accesses ≡ true → IsNumberIn plan.tasks t
task_within plan p zero some = absurd (cc)
task_within plan p (suc t) some =
    ⊎_elim
    (λ (lt : t < length plan.tasks). let both : IsNumberIn plan.tasks (suc t) = (omega arith, omega arith) in both)
    (λ (past : length plan.tasks ≤ t).
    let none : list_any p (task_row plan (suc t)).accesses ≡ false = ap (λ (row : TaskRow). list_any p row.accesses) (get_or_past plan.tasks t no_task past) in
    absurd (let no : true ≡ false = sym some ∙ none in cc))
    (cases_lt t (length plan.tasks))
