-- A task has one processor.
use Rattle.std.proofs.Common.{◌≡◌, ℕ, ◌≤◌, List, sym, ◌∙◌, arith}
use Rattle.std.proofs.lemmas.List.Elements.{All-contains}
use Rattle.dd_blocks.specs.declared.plan.Plan.{Plan}
use Rattle.dd_blocks.specs.declared.rule.Rule.{Rule}
use Rattle.dd_blocks.specs.declared.rule.Rule.TheVariants.{Rr, Home}
use Rattle.dd_blocks.specs.declared.task_row.TaskRow.{TaskRow}
use Rattle.dd_place.specs.Loads.{IsLeastLoaded, tasks_on}
use Rattle.dd_place.specs.Placement.{IsPlacedBy}

one_least : (procs earlier : List ℕ) (p q : ℕ) → IsLeastLoaded procs earlier p → IsLeastLoaded procs earlier q → p ≡ q
one_least procs earlier p q least other =
    let no_more : tasks_on earlier p ≤ tasks_on earlier q = All-contains (λ x. tasks_on earlier p ≤ tasks_on earlier x) procs q least.fewest other.candidate in
    let no_less : tasks_on earlier q ≤ tasks_on earlier p = All-contains (λ x. tasks_on earlier q ≤ tasks_on earlier x) procs p other.fewest least.candidate in
    let low : p ≤ q = All-contains (λ x. tasks_on earlier x ≡ tasks_on earlier p → p ≤ x) procs q least.lowest other.candidate (omega arith) in
    let high : q ≤ p = All-contains (λ x. tasks_on earlier x ≡ tasks_on earlier q → q ≤ x) procs p other.lowest least.candidate (omega arith) in
    omega arith

pub one_placed : (rule : Rule) (plan : Plan) (earlier : List ℕ) (task : TaskRow) (p q : ℕ) → IsPlacedBy rule plan earlier task p → IsPlacedBy rule plan earlier task q → p ≡ q
one_placed Rr plan earlier task p q placed other = placed ∙ sym other
one_placed Home plan earlier task p q placed other = one_least _ earlier p q placed other
