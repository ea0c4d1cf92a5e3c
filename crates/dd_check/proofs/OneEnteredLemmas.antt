-- A statement leaves one thing.
use Rattle.std.proofs.Common.{◌≡◌, ℕ, List, length, sym, ap, ◌∙◌}
use Rattle.dd_blocks.specs.declared.task_row.TaskRow.{TaskRow}
use Rattle.dd_blocks.specs.declared.what.What.TheVariants as what
use Rattle.dd_script.specs.declared.statement.Statement.{Statement}
use Rattle.dd_script.specs.declared.statement.Statement.TheVariants.{Space, Proc, PolicyIs, PlaceIs, Array, Same, Drop, MoveTo, Region, Task, End, Print, Sum, Moved}
use Rattle.std.proofs.Common.{None}
use Rattle.dd_check.specs.Above.{Above, next_region, open_tasks}
use Rattle.dd_check.specs.Effects.{Enters, add_statement, add_task, add_tasks, with_open, with_plan}
use Rattle.dd_check.proofs.OneTaskLemmas.{one_joined, one_task}

-- an end leaves this, with such tasks
abbrev ended : ℕ → Above → List TaskRow → Above
ended n s joined = with_open None (with_plan (add_statement n (what.Region (next_region s)) (add_tasks joined s.plan)) s)

pub one_entered : (n : ℕ) (s : Above) (x : Statement) (a b : Above) → Enters n s x a → Enters n s x b → a ≡ b
one_entered n s (Task kernel scalar pieces) a b h g = h.2 ∙ ap (λ (t : TaskRow). add_task t s) (one_task n s kernel scalar pieces h.0 g.0 h.1 g.1) ∙ sym g.2
one_entered n s End a b h g = h.2 ∙ ap (ended n s) (one_joined (length s.plan.tasks) (open_tasks s) h.0 g.0 h.1 g.1) ∙ sym g.2
one_entered n s (Space name limit) a b h g = h ∙ sym g
one_entered n s (Proc name space) a b h g = h ∙ sym g
one_entered n s (PolicyIs policy) a b h g = h ∙ sym g
one_entered n s (PlaceIs rule) a b h g = h ∙ sym g
one_entered n s (Array name rows cols brows bcols fill) a b h g = h ∙ sym g
one_entered n s (Same name old) a b h g = h ∙ sym g
one_entered n s (Drop name) a b h g = h ∙ sym g
one_entered n s (MoveTo name space) a b h g = h ∙ sym g
one_entered n s Region a b h g = h ∙ sym g
one_entered n s (Print name) a b h g = h ∙ sym g
one_entered n s (Sum name) a b h g = h ∙ sym g
one_entered n s Moved a b h g = h ∙ sym g
