-- A task has a processor, where there are some.
use Rattle.std.proofs.Common.{◌≡◌, ℕ, zero, suc, ◌+◌, ◌%◌, ◌≤◌, Bool, true, false, List, [], length, get_or, Option, None, Some, refl, sym, ap, subst, ◌∙◌, ⊎_elim, arith, add-one}
use Rattle.std.specs.List.{range_with_len}
use Rattle.std.proofs.lemmas.Bool.{cases_Bool}
use Rattle.std.proofs.lemmas.List.FromFn.{length-range_with_len}
use Rattle.dd_blocks.specs.declared.plan.Plan.{Plan}
use Rattle.dd_blocks.specs.declared.proc_row.ProcRow.{ProcRow}
use Rattle.dd_blocks.specs.declared.rule.Rule.{Rule}
use Rattle.dd_blocks.specs.declared.rule.Rule.TheVariants.{Rr, Home}
use Rattle.dd_blocks.specs.declared.task_row.TaskRow.{TaskRow}
use Rattle.dd_place.specs.declared.load.Load.{Load}
use Rattle.dd_place.specs.Chosen.{IsBest, is_of, lighter}
use Rattle.dd_place.specs.Leading.{space_for}
use Rattle.dd_place.specs.Loads.{IsLeastLoaded, candidates, tasks_on}
use Rattle.dd_place.specs.Placement.{IsPlacedBy}
use Rattle.dd_place.proofs.LoadsLemmas.{all_chosen, best_more, best_same, least_in_space, least_of_all, no_proc}

some_best : (space : Option ℕ) (rows : List ProcRow) (earlier : List ℕ) (n : ℕ) → (best : Option Load) × IsBest space rows earlier n best
some_best space rows earlier zero = (None, refl)
some_best space rows earlier (suc n) =
    let so_far = some_best space rows earlier n in
    let next : Load = record { proc = n + 1; tasks = tasks_on earlier (n + 1) } in
    ⊎_elim
    (λ (yes : is_of space (get_or rows n no_proc) ≡ true).
    (Some (lighter so_far.0 next), subst (λ (m : ℕ). IsBest space rows earlier m (Some (lighter so_far.0 next))) (add-one n) (best_more space rows earlier n so_far.0 next yes refl refl so_far.1)))
    (λ (no : is_of space (get_or rows n no_proc) ≡ false).
    (so_far.0, subst (λ (m : ℕ). IsBest space rows earlier m so_far.0) (add-one n) (best_same space rows earlier n so_far.0 no so_far.1)))
    (cases_Bool (is_of space (get_or rows n no_proc)))

least_of : (plan : Plan) (space : ℕ) (earlier : List ℕ) (best all : Option Load) → 1 ≤ length plan.procs → IsBest (Some space) plan.procs earlier (length plan.procs) best → IsBest None plan.procs earlier (length plan.procs) all
    → (proc : ℕ) × IsLeastLoaded (candidates plan space) earlier proc
least_of plan space earlier (Some load) all some is others = (load.proc, least_in_space plan space earlier load.proc is.least)
least_of plan space earlier None (Some load) some is others = (load.proc, least_of_all plan space earlier load.proc is others.least)
least_of plan space earlier None None some is others =
    absurd (omega (arith, length-range_with_len 1 (length plan.procs), ap length (sym (all_chosen plan.procs (length plan.procs)) ∙ others)))

pub some_placed : (rule : Rule) (plan : Plan) (earlier : List ℕ) (task : TaskRow) → 1 ≤ length plan.procs → (proc : ℕ) × IsPlacedBy rule plan earlier task proc
some_placed Rr plan earlier task some = (length earlier % length plan.procs + 1, refl)
some_placed Home plan earlier task some =
    let best = some_best (Some (space_for plan task)) plan.procs earlier (length plan.procs) in
    let all = some_best None plan.procs earlier (length plan.procs) in
    least_of plan (space_for plan task) earlier best.0 all.0 some best.1 all.1
