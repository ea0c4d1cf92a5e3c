-- What is small enough to be summed.
use Rattle.std.proofs.Common.{◌≡◌, ℕ, zero, suc, ◌*◌, ◌^◌, ◌<◌, ◌≤◌, ◌-◌, true, List, [], length, get_or, ap, sym, subst, ⊎_elim, arith}
use Rattle.std.specs.List.{All, sum}
use Rattle.std.proofs.lemmas.Bool.{cases_lt}
use Rattle.std.proofs.lemmas.List.Elements.{All-contains, All-get_or, All-weaker}
use Rattle.std.proofs.lemmas.List.{get_or_past}
use Rattle.dd_blocks.specs.declared.access_row.AccessRow.{AccessRow}
use Rattle.dd_blocks.specs.declared.block_row.BlockRow.{BlockRow}
use Rattle.dd_blocks.specs.declared.plan.Plan.{Plan}
use Rattle.dd_blocks.specs.declared.space_row.SpaceRow.{SpaceRow}
use Rattle.dd_blocks.specs.Charges.{access_elements, scratch_elements, touched_sizes}
use Rattle.dd_blocks.specs.Limits.{blocks_limit, space_limit}
use Rattle.dd_blocks.specs.Numbered.{IsNumberIn, block_row, no_task, numbered, proc_row, space_row, task_row}
use Rattle.dd_blocks.specs.WellFormed.{FitsHomes, IsSmallSpace, IsWellFormed, TaskNamesRows}
use Rattle.dd_blocks.proofs.LayoutLemmas.{all_blocks}
use Rattle.dd_blocks.proofs.NumberedLemmas.{numbered-get}
use Rattle.dd_lists.proofs.ListsLemmas.{number_in}
use Rattle.dd_machine.specs.Words.{IsOneOf, blocks, tasks, touches}

numbered_has : {Row : Type 0} (P : Row → Type 0) (none : Row) (rows : List Row) (n : ℕ) → All P rows → P none → P (numbered none rows n)
numbered_has P none rows zero all here = here
numbered_has P none rows (suc n) all here = ⊎_elim
    (λ (lt : n < length rows). All-get_or P rows n none lt all)
    (λ (le : length rows ≤ n). subst P (sym (get_or_past rows n none le)) here)
    (cases_lt n (length rows))

pub limit_small : (plan : Plan) (space : ℕ) → IsWellFormed plan → (space_row plan space).limit ≤ space_limit
limit_small plan space well =
    numbered_has (λ (s : SpaceRow). s.limit ≤ space_limit) (record { name = []; limit = 0 }) plan.spaces space
    (All-weaker IsSmallSpace (λ (s : SpaceRow). s.limit ≤ space_limit) (λ s small. small.limit.1) plan.spaces well.limits.each_space) (omega arith)

pub arguments_small : (plan : Plan) (task : ℕ) → IsWellFormed plan → IsOneOf (tasks plan) task → 8 * access_elements (task_row plan task) ≤ space_limit
arguments_small plan task well is =
    let row = task_row plan task in
    let sound = well.tasks task is in
    let limit = limit_small plan (proc_row plan row.proc).space well in
    let charge = sound.charge in
    let within = sound.within in
    let a = access_elements row in
    let s = sum (touched_sizes plan row) in
    let m = scratch_elements plan row in
    omega (arith, limit, charge, within)

pub few_blocks : (plan : Plan) → IsWellFormed plan → blocks plan ≤ blocks_limit
few_blocks plan well = let all = all_blocks plan well.layout in let few = well.limits.blocks in omega (arith, all, few)

pub touched_known : (plan : Plan) (task block : ℕ) → IsWellFormed plan → IsOneOf (tasks plan) task → touches plan task block ≡ true → IsOneOf (blocks plan) block
touched_known plan task block well is touched =
    let names = All-get_or (TaskNamesRows plan) plan.tasks (task - 1) no_task (omega (arith, is.0, is.1)) well.names.tasks in
    let row : task_row plan task ≡ get_or plan.tasks (task - 1) no_task = numbered-get no_task plan.tasks task is.0 in
    let blocks_are : All (IsNumberIn plan.blocks) (task_row plan task).blocks = rw row names.blocks in
    All-contains (IsNumberIn plan.blocks) (task_row plan task).blocks block blocks_are (number_in (task_row plan task).blocks block touched)

-- the accesses of a task are of arrays of the Plan
pub accesses_named : (plan : Plan) (task : ℕ) → IsWellFormed plan → IsOneOf (tasks plan) task → All (λ (a : AccessRow). IsNumberIn plan.arrays a.view.array) (task_row plan task).accesses
accesses_named plan task well is =
    let names = All-get_or (TaskNamesRows plan) plan.tasks (task - 1) no_task (omega (arith, is.0, is.1)) well.names.tasks in
    let row : task_row plan task ≡ get_or plan.tasks (task - 1) no_task = numbered-get no_task plan.tasks task is.0 in
    rw row names.accesses

-- how many elements a block has
pub size_small : (plan : Plan) (block : ℕ) → IsWellFormed plan → IsOneOf (blocks plan) block → (block_row plan block).size < 2 ^ 40
size_small plan block well is =
    let none : BlockRow = record { array = 0; home = 0; size = 0 } in
    let fits = All-get_or (FitsHomes plan) plan.blocks (block - 1) none (omega (arith, is.0, is.1)) well.homes in
    let row : block_row plan block ≡ get_or plan.blocks (block - 1) none = numbered-get none plan.blocks block is.0 in
    let size = ap (λ (b : BlockRow). b.size) row in
    let limit = limit_small plan (get_or plan.blocks (block - 1) none).home well in
    let first = fits.first in
    omega (arith, size, limit, first)
