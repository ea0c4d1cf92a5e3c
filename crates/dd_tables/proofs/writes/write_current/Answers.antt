use Rattle.std.proofs.Common.{◌≡◌, ◌≤◌, ◌+◌, ℕ, List, cond, eqb, get_or, length, take, ap, sym, ◌∙◌, arith, take_all}
use Rattle.std.specs.List.{list_any}
use Rattle.dd_blocks.specs.declared.access_row.AccessRow.{AccessRow}
use Rattle.dd_blocks.specs.declared.array_row.ArrayRow.{ArrayRow}
use Rattle.dd_blocks.specs.declared.task_row.TaskRow.{TaskRow}
use Rattle.dd_blocks.specs.Numbered.{task_row}
use Rattle.dd_spans.specs.PlaceMap.{PlaceMap}
use Rattle.dd_views.specs.IndexList.{index_list}
use Rattle.dd_tables.proofs.CurrentsLemmas.{access_more, access_none, access_within, current_written, writes_at}
use Rattle.dd_tables.proofs.writes.write_current.Goals.{then-writes, else-writes}
use Rattle.dd_tables.proofs.writes.write_current.Goals as goal

pub write_view-requires-clause-within : goal.write_view-requires-clause-within
write_view-requires-clause-within c = λ i lt.
    let same = c.as_slice-access-items.ensures ∙ ap (λ (t : TaskRow). t.accesses) c.task.ensures in
    access_within c.args.plan.now c.args.task c.loop-access.access-index c.array.result.now.first_element (length c.loop-access.current.list) i c.as_slice-access-items.result.now _
    c.requires.well c.requires.task same c.loop-access-test.true (ap (λ (a : ArrayRow). a.first_element) c.array.ensures) (c.loop-access.invariant.len ∙ c.requires.len) lt

pub loop-access-preserved : goal.loop-access-preserved
loop-access-preserved c =
    let plan = c.args.plan.now in
    let task = c.args.task in
    let i = c.loop-access.access-index in
    let items = c.as_slice-access-items.result.now in
    let same = c.as_slice-access-items.ensures ∙ ap (λ (t : TaskRow). t.accesses) c.task.ensures in
    let old = c.args.current.now.list in
    let to : (n : ℕ) → cond (list_any (writes_at plan n) (take (i + 1) items)) task (get_or old n 0) ≡ cond (list_any (writes_at plan n) (take (i + 1) (task_row plan task).accesses)) task (get_or old n 0) =
    λ n. ap (λ (xs : List AccessRow). cond (list_any (writes_at plan n) (take (i + 1) xs)) task (get_or old n 0)) same in
    let from : (n : ℕ) → get_or c.loop-access.current.list n 0 ≡ cond (list_any (writes_at plan n) (take i items)) task (get_or old n 0) =
    λ n. c.loop-access.invariant.values n ∙ sym (ap (λ (xs : List AccessRow). cond (list_any (writes_at plan n) (take i xs)) task (get_or old n 0)) same) in
    elim c.if-writes.branch [
      | then-writes w ↦ record {
        len = ap (λ (m : PlaceMap). length m.list) w.current-is ∙ w.write_view.ensures.len ∙ c.loop-access.invariant.len;
        values = λ n.
            ap (λ (m : PlaceMap). get_or m.list n 0) w.current-is
            ∙ access_more plan task n i (get_or w.write_view.new.current.list n 0) (get_or c.loop-access.current.list n 0) (get_or old n 0) items _ c.loop-access-test.true
            (sym c.writes.ensures ∙ w.if-writes.true)
            (w.write_view.ensures.value n ∙ ap (λ (a : ArrayRow). cond (list_any (λ pos. eqb (a.first_element + pos) n) (index_list (get_or items i _).view)) task (get_or c.loop-access.current.list n 0)) w.array.ensures)
            (from n)
            ∙ to n;
      }
      | else-writes w ↦ record {
        len = ap (λ (m : PlaceMap). length m.list) w.current-is ∙ c.loop-access.invariant.len;
        values = λ n.
            ap (λ (m : PlaceMap). get_or m.list n 0) w.current-is
            ∙ access_none plan task n i (get_or c.loop-access.current.list n 0) (get_or old n 0) items _ c.loop-access-test.true (sym c.writes.ensures ∙ w.if-writes.false) (from n)
            ∙ to n;
      }
    ]

pub returns-clause-value : goal.returns-clause-value
returns-clause-value c =
    let plan = c.args.plan.now in
    let task = c.args.task in
    let old = c.args.current.now.list in
    let same = c.as_slice-access-items.ensures ∙ ap (λ (t : TaskRow). t.accesses) c.task.ensures in
    let long = ap (λ (xs : List AccessRow). length xs) same in
    let le : length (task_row plan task).accesses ≤ c.loop-access.access-index = (let end = c.loop-access-test.false in omega (arith, end, long)) in
    current_written plan task old c.loop-access.current.list c.requires.well c.requires.task
    (λ n. c.loop-access.invariant.values n ∙ ap (λ (xs : List AccessRow). cond (list_any (writes_at plan n) xs) task (get_or old n 0)) (take_all c.loop-access.access-index (task_row plan task).accesses le))
