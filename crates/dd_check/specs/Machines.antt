-- A Plan with the machine of a script that names none.
use Rattle.std.specs.Prelude.{[], ◌∷◌}
use Rattle.dd_blocks.specs.declared.plan.Plan.{Plan}
use Rattle.dd_check.specs.Above.{main_proc, main_space}

abbrev pub with_main : Plan → Plan
with_main p = record { spaces = main_space ∷ []; procs = main_proc ∷ []; policy = p.policy; rule = p.rule; arrays = p.arrays; blocks = p.blocks; tasks = p.tasks; statements = p.statements }
