use Rattle.std.proofs.Common.{rules, ◌≡◌, ℕ, pos, ◌≤◌, ◌+◌, ◌*◌, List, drop, get_or, length, arith, ap, sym, ◌∙◌}
use Rattle.std.proofs.lemmas.List.Elements.{All-get_or}
use Rattle.std.proofs.lemmas.List.Sums.{sum_by-drop_more}
use Rattle.dd_blocks.specs.declared.access_row.AccessRow.{AccessRow}
use Rattle.std.specs.List.{sum_by}
use Rattle.dd_views.specs.declared.part.Part.TheVariants.{All}
use Rattle.dd_kernels.specs.declared.signature.Mode.TheVariants.{Read}
use Rattle.dd_blocks.specs.declared.task_row.TaskRow.{TaskRow}
use Rattle.dd_blocks.specs.Charges.{access_elements}
use Rattle.dd_blocks.specs.Numbered.{task_row}
use Rattle.dd_views.specs.IndexList.{index_list}
use Rattle.dd_views.specs.Views.{IsView}
use Rattle.dd_tables.proofs.PlacesLemmas.{are_views}
use Rattle.dd_tables.proofs.SmallLemmas.{arguments_small}
use Rattle.dd_tables.proofs.rows.argument_bytes.Goals as goal

no_access : AccessRow
no_access = record { view = record { array = 0; height = 0; rows = record { first = 0; step = pos 0; count = 0 }; cols = record { first = 0; step = pos 0; count = 0 }; part = All }; mode = Read }

pub len-sum-requires : goal.len-sum-requires
len-sum-requires c = All-get_or (λ (a : AccessRow). IsView a.view) c.as_slice-access-items.result.now c.loop-access.access-index _ c.loop-access-test.true (rw (c.as_slice-access-items.ensures, c.task.ensures) (are_views c.args.plan.now c.args.task c.requires.well c.requires.task))

pub overflow_add-sum : goal.overflow_add-sum
unfolding no_access
overflow_add-sum c =
    let few : 8 * access_elements (task_row c.args.plan.now c.args.task) ≤ 1099511627776 = arguments_small c.args.plan.now c.args.task c.requires.well c.requires.task in
    let left = c.loop-access.invariant in
    let f : AccessRow → ℕ = λ a. length (index_list a.view) in
    let is = c.as_slice-access-items.ensures ∙ ap (λ (t : TaskRow). t.accesses) c.task.ensures in
    let same = ap (λ (xs : List AccessRow). sum_by f (drop c.loop-access.access-index xs)) is in
    let more = sum_by-drop_more f c.as_slice-access-items.result.now c.loop-access.access-index no_access c.loop-access-test.true in
    let len : f (get_or c.as_slice-access-items.result.now c.loop-access.access-index no_access) ≡ c.len-sum.result = sym c.len-sum.ensures.value in
    let h : c.loop-access.sum + c.len-sum.result ≤ 1099511627776 = omega (arith, few, left, same, more, len) in
    search (rules, h)
