-- How large the names and the limit are that a statement gives to rows of the Plan.
use Rattle.std.specs.Prelude.{◌≤◌, length}
use Rattle.dd_blocks.specs.Limits.{name_limit, space_limit}
use Rattle.dd_script.specs.declared.statement.Statement.{Statement}
use Rattle.dd_script.specs.declared.statement.Statement.TheVariants.{Space, Proc, Sum}

-- the name of a space, of a processor or of a sum is short, and the limit of a space is one
abbrev pub IsShort : Statement → Type 0
IsShort (Space name limit) = (length name ≤ name_limit) × (1 ≤ limit) × (limit ≤ space_limit)
IsShort (Proc name space) = length name ≤ name_limit
IsShort (Sum name) = length name ≤ name_limit
IsShort _ = Unit {0}
