-- What a placement asks of a Plan. A well-formed Plan with a processor has it.
use Rattle.std.specs.Prelude.{◌≡◌, ℕ, ◌-◌, ◌^◌, ◌<◌, Some, length, All, AllPairs}
use Rattle.dd_blocks.specs.declared.plan.Plan.{Plan}
use Rattle.dd_blocks.specs.declared.statement_row.StatementRow.{StatementRow}
use Rattle.dd_blocks.specs.Limits.{procs_limit}
use Rattle.dd_blocks.specs.Lives.{region_run}
use Rattle.dd_blocks.specs.OfPlan.{HasBlocks}
use Rattle.dd_blocks.specs.WellFormed.{IsFromOneTo}

-- of two rows that run regions, the upper one's has the lower number
abbrev pub IsBelow : StatementRow → StatementRow → Type 0
IsBelow upper lower = (a b : ℕ) → region_run upper.what ≡ Some a → region_run lower.what ≡ Some b → a < b

pub record CanPlace (plan : Plan) : Type 0 where
  pub procs : IsFromOneTo procs_limit (length plan.procs)
  pub arrays : All (HasBlocks plan) plan.arrays
  pub blocks : length plan.blocks < 2 ^ 32
  pub rows : length plan.statements < 2 ^ 32 - 1
  pub regions : AllPairs IsBelow plan.statements
