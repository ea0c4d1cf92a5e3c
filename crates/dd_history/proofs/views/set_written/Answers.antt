use Rattle.std.proofs.Common.{◌≡◌, ◌+◌, ◌<◌, ◌≤◌, List, length, take, sym, ap, ◌∙◌, arith}
use Rattle.std.specs.List.{list_any}
use Rattle.std.proofs.lemmas.List.{take_all}
use Rattle.std.proofs.lemmas.List.Folds.{list_any_more}
use Rattle.dd_blocks.specs.declared.access_row.AccessRow.{AccessRow}
use Rattle.dd_blocks.specs.declared.task_row.TaskRow.{TaskRow}
use Rattle.dd_blocks.specs.Numbered.{task_row}
use Rattle.dd_history.specs.Sets.{writes_at}
use Rattle.dd_history.proofs.FinishLemmas.{finished}
use Rattle.dd_history.proofs.SetLemmas.{set_same, set_then}
use Rattle.dd_history.proofs.views.set_written.Goals as goal

pub loop-access-preserved : goal.loop-access-preserved
loop-access-preserved c =
    let plan = c.args.plan.now in
    let xs = (task_row plan c.args.task).accesses in
    let i = c.loop-access.access-index in
    let items : c.as_slice-access-items.result.now ≡ xs = c.as_slice-access-items.ensures ∙ ap (λ (t : TaskRow). t.accesses) c.task.ensures in
    let count = ap (λ (rows : List AccessRow). length rows) items in
    let lt : i < length xs = omega (arith, c.loop-access-test.true, count) in
    let step = rw items at c.set_access.ensures.set in (
      set_same _ (λ q. list_any (writes_at plan q) (take (i + 1) xs)) c.args.task _ _ (λ q. sym (list_any_more (writes_at plan q) xs i _ lt)) (set_then _ _ c.args.task _ _ _ c.loop-access.invariant.0 step),
      c.set_access.ensures.spare ∙ c.loop-access.invariant.1,
    )

pub returns-clause-finished : goal.returns-clause-finished
returns-clause-finished c =
    let plan = c.args.plan.now in
    let xs = (task_row plan c.args.task).accesses in
    let i = c.loop-access.access-index in
    let items : c.as_slice-access-items.result.now ≡ xs = c.as_slice-access-items.ensures ∙ ap (λ (t : TaskRow). t.accesses) c.task.ensures in
    let count = ap (λ (rows : List AccessRow). length rows) items in
    let le : length xs ≤ i = omega (arith, c.loop-access-test.false, count) in
    finished plan c.args.task c.args.versions.now.list c.loop-access.versions.list c.requires.well c.requires.task
    (set_same (λ q. list_any (writes_at plan q) (take i xs)) (λ q. list_any (writes_at plan q) xs) c.args.task _ _ (λ q. ap (list_any (writes_at plan q)) (take_all i xs le)) c.loop-access.invariant.0)
