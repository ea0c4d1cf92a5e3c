-- The blocks that a task touches are those of the elements of its accesses.
use Rattle.std.proofs.Common.{ℕ, List, get_or, refl}
use Rattle.std.specs.List.{All, Contains}
use Rattle.std.proofs.lemmas.List.Elements.{All-contains_itself}
use Rattle.dd_views.specs.IndexList.{index_list}
use Rattle.dd_blocks.specs.declared.access_row.AccessRow.{AccessRow}
use Rattle.dd_blocks.specs.declared.plan.Plan.{Plan}
use Rattle.dd_blocks.specs.declared.task_row.TaskRow.{TaskRow}
use Rattle.dd_blocks.specs.Charges.{AreTouched, block_with}

-- the block of each position of each access is among them
pub among_touched : (plan : Plan) (task : TaskRow) (blocks : List ℕ) → AreTouched plan task blocks
    → All (λ (a : AccessRow). All (λ p. Contains blocks (block_with plan a.view.array p)) (index_list a.view)) task.accesses
among_touched plan task blocks touched k d lt i e less =
    let access : AccessRow = get_or task.accesses k d in
    let p : ℕ = get_or (index_list access.view) i e in
    let here : Contains task.accesses access = All-contains_itself task.accesses k d lt in
    (touched.exact (block_with plan access.view.array p)).1
    (access.view.array, p, (here.0, access, here.1, here.2, (refl, All-contains_itself (index_list access.view) i e less)), refl)
