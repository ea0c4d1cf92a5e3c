use Rattle.std.proofs.Common.{◌≤◌, refl, ap, ◌∙◌, sym, arith}
use Rattle.dd_blocks.specs.declared.task_row.TaskRow.{TaskRow}
use Rattle.dd_history.proofs.RowsLemmas.{not_of_region, of_region}
use Rattle.dd_history.proofs.rows.source_in.Goals as goal
use Rattle.dd_history.proofs.rows.source_in.Goals.{else-version-ne0-via-then-version-ne0+else-task-region, else-version-ne0-via-else-version-ne0}

pub returns-then-task-region : goal.returns-then-task-region
returns-then-task-region c =
    let some : 1 ≤ c.args.version = omega (arith, c.if-version-ne0.true) in
    let same = ap (λ (t : TaskRow). t.region) (sym c.task.ensures) ∙ c.if-task-region.true in
    rw (of_region c.args.plan.now c.args.region c.args.version (some, c.requires.version) same) c.place_of.ensures

pub returns-else-version-ne0 : goal.returns-else-version-ne0
returns-else-version-ne0 c =
    elim c.else-version-ne0.branch [
      | else-version-ne0-via-then-version-ne0+else-task-region w ↦
          rw (not_of_region c.args.plan.now c.args.region c.args.version (λ some same. w.if-task-region.false (ap (λ (t : TaskRow). t.region) w.task.ensures ∙ same))) refl
      | else-version-ne0-via-else-version-ne0 w ↦
          rw (not_of_region c.args.plan.now c.args.region c.args.version (λ some same. absurd (omega (arith, some, w.if-version-ne0.false)))) refl
    ]
