-- Rows, regions and their tasks in a well-formed Plan.
use Rattle.std.proofs.Common.{◌≡◌, ℕ, suc, ◌+◌, ◌-◌, ◌^◌, ◌<◌, ◌≤◌, eqb, List, [], ◌∷◌, length, map, get_or, refl, sym, ap, subst, ◌∙◌, arith}
use Rattle.std.specs.List.{All, range_with_len, sum_by}
use Rattle.std.proofs.lemmas.List.{get_or_default}
use Rattle.std.proofs.lemmas.List.Elements.{All-filter}
use Rattle.std.proofs.lemmas.List.FromFn.{length-map-range_with_len}
use Rattle.std.proofs.lemmas.List.Sums.{get_or-le-sum_by, sum_by_push}
use Rattle.dd_blocks.specs.declared.array_row.ArrayRow.{ArrayRow}
use Rattle.dd_blocks.specs.declared.plan.Plan.{Plan}
use Rattle.dd_blocks.specs.declared.task_row.TaskRow.{TaskRow}
use Rattle.dd_blocks.specs.Grids.{element_count}
use Rattle.dd_blocks.specs.Lives.{tasks_of}
use Rattle.dd_blocks.specs.Numbered.{IsNumberIn, numbered, no_array, no_task}
use Rattle.dd_blocks.specs.WellFormed.{IsWellFormed}
use Rattle.dd_meaning.proofs.RegionTasksLemmas.{none_through}
use Rattle.dd_meaning.specs.Steps.{world_after}
use Rattle.dd_meaning.specs.Versions.{tasks_through}
use Rattle.dd_meaning.specs.Worlds.{World, filled}
use Rattle.dd_plain.specs.Sizes.{CanRun, HasSizes}
use Rattle.dd_kernels.proofs.ListsLemmas.{ap2}
use Rattle.dd_views.proofs.ListsLemmas.{range_with_len_more}
use Rattle.dd_blocks.proofs.NumberedLemmas.{numbered-get}

filled_sizes : (arrays : List ArrayRow) → HasSizes arrays (map filled arrays)
filled_sizes [] = refl
filled_sizes (a ∷ more) = ap2 (λ (n : ℕ) (l : List ℕ). n ∷ l) (length-map-range_with_len _ 0 (element_count a.grid)) (filled_sizes more)

pub first_world : (plan : Plan) (world : World) → IsWellFormed plan → world ≡ map filled plan.arrays → (world ≡ world_after plan (tasks_through plan 0)) × HasSizes plan.arrays world
first_world plan world well is =
    let start = none_through plan well in
    (is ∙ sym (ap (world_after plan) start), rw is (filled_sizes plan.arrays))

-- an array is small, and a task can run
few_at : (plan : Plan) (k : ℕ) (d : ArrayRow) → IsWellFormed plan → k < length plan.arrays → element_count (get_or plan.arrays k d).grid ≤ 4194304
few_at plan k d well lt = omega (arith, get_or-le-sum_by (λ (a : ArrayRow). element_count a.grid) plan.arrays k d lt, well.limits.elements)

pub small_arrays : (plan : Plan) → IsWellFormed plan → All (λ (a : ArrayRow). element_count a.grid < 2 ^ 63) plan.arrays
small_arrays plan well = λ k d lt. omega (arith, few_at plan k d well lt)

few_in : (plan : Plan) (n : ℕ) → IsWellFormed plan → IsNumberIn plan.arrays n → element_count (numbered no_array plan.arrays n).grid < 2 ^ 32
few_in plan n well within = rw (numbered-get no_array plan.arrays n within.0) (omega (arith, few_at plan (n - 1) no_array well (omega (arith, within.0, within.1))))

task_can_run : (plan : Plan) (k : ℕ) → IsWellFormed plan → k < length plan.tasks → CanRun plan.arrays (get_or plan.tasks k no_task)
task_can_run plan k well lt =
    let sound = well.tasks (suc k) (omega arith, omega (arith, lt)) in
    let names = well.names.tasks k no_task lt in
    record {
      accesses = λ i d within. record {
        named = names.accesses i d within;
        view = (sound.views i d within).view;
        few = few_in plan _ well (names.accesses i d within);
      };
      kernel = sound.kernel;
    }

pub tasks_can_run : (plan : Plan) (region : ℕ) → IsWellFormed plan → All (CanRun plan.arrays) (tasks_of plan region)
tasks_can_run plan region well =
    All-filter (λ (t : TaskRow). eqb t.region region) (CanRun plan.arrays) plan.tasks
    (λ k d lt. subst (CanRun plan.arrays) (get_or_default plan.tasks k no_task d lt) (task_can_run plan k well lt))

-- one number more of a sum
sum_next : (f : ℕ → ℕ) (n : ℕ) → sum_by f (range_with_len 1 (suc n)) ≡ sum_by f (range_with_len 1 n) + f (suc n)
sum_next f n = ap (sum_by f) (range_with_len_more 1 n) ∙ sum_by_push f (range_with_len 1 n) (1 + n) ∙ ap (λ (x : ℕ). sum_by f (range_with_len 1 n) + f x) (omega arith)

pub sum_with : (f : ℕ → ℕ) (n : ℕ) → sum_by f (range_with_len 1 n) + f (n + 1) ≡ sum_by f (range_with_len 1 (n + 1))
sum_with f n = let next : n + 1 ≡ suc n = omega arith in rw next (sym (sum_next f n))
