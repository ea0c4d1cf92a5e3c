-- The lines on which the statements of a Plan stand. A written script has one row a line at most; a well-formed Plan says
-- only that the lines don't fall.
use Rattle.std.specs.Prelude.{map}
use Rattle.std.specs.List.Sorted.{IsStrictlyIncreasing}
use Rattle.dd_blocks.specs.declared.plan.Plan.{Plan}
use Rattle.dd_blocks.specs.declared.statement_row.StatementRow.{StatementRow}

-- each row stands on a later line than the row above it
abbrev pub LinesRise : Plan → Type 0
LinesRise plan = IsStrictlyIncreasing (map (λ (row : StatementRow). row.line) plan.statements)
