-- The home of a block, a space, as the statements of a script move it.
use Rattle.std.specs.Prelude.{ℕ, ◌+◌, ◌-◌, Bool, false, nat_eq, cond, List, Option, None, Some, take, unwrap_or}
use Rattle.std.specs.List.{filter_map, last_or, position_or_len}
use Rattle.dd_blocks.specs.declared.plan.Plan.{Plan}
use Rattle.dd_blocks.specs.declared.statement_row.StatementRow.{StatementRow}
use Rattle.dd_blocks.specs.declared.what.What.{What}
use Rattle.dd_blocks.specs.declared.what.What.TheVariants.{MoveTo, Region}
use Rattle.dd_blocks.specs.Numbered.{block_row}

-- the space to which a statement moves an array
abbrev pub space_moved_to : ℕ → What → Option ℕ
space_moved_to moved (MoveTo array space) = cond (nat_eq array moved) (Some space) None
space_moved_to moved _ = None

-- the spaces to which some rows move an array, in their order
abbrev pub spaces_of : ℕ → List StatementRow → List ℕ
spaces_of moved rows = filter_map (λ (row : StatementRow). space_moved_to moved row.what) rows

-- the last of these, or else the home before the rows
abbrev pub home_after : ℕ → ℕ → List StatementRow → ℕ
home_after moved before rows = unwrap_or (last_or None (spaces_of moved rows)) before

-- the home of a block when a row begins, by the rows above it
abbrev pub home_before : Plan → ℕ → ℕ → ℕ
home_before plan row block = home_after (block_row plan block).array (block_row plan block).home (take (row - 1) plan.statements)

-- whether a statement runs a region
abbrev pub runs_region : ℕ → What → Bool
runs_region region (Region run) = nat_eq run region
runs_region region _ = false

-- the row that runs a region, or the one that comes next where none does so far
abbrev pub row_of_region : Plan → ℕ → ℕ
row_of_region plan region = position_or_len (λ (row : StatementRow). runs_region region row.what) plan.statements + 1

-- the home of a block when a region begins
abbrev pub home_in_region : Plan → ℕ → ℕ → ℕ
home_in_region plan region block = home_before plan (row_of_region plan region) block
