-- The homes of a Plan's blocks kept by arrays: one number for each array, the space to which it was moved last.
use Rattle.std.specs.Prelude.{◌≡◌, ℕ, ◌-◌, ◌≤◌, List, length, take, slice_index, slice_set, All}
use Rattle.dd_blocks.specs.declared.plan.Plan.{Plan}
use Rattle.dd_blocks.specs.declared.statement_row.StatementRow.{StatementRow}
use Rattle.dd_blocks.specs.declared.what.What.{What}
use Rattle.dd_blocks.specs.declared.what.What.TheVariants.{MoveTo}
use Rattle.dd_blocks.specs.Homes.{home_after, row_of_region}

-- for each array, the space to which the last of some rows moved it, or 0
pub record AreMovedTo (arrays : ℕ) (rows : List StatementRow) (homes : List ℕ) : Type 0 where
  pub count : length homes ≡ arrays
  pub each : (n : ℕ) → 1 ≤ n → n ≤ arrays → slice_index homes (n - 1) ≡ home_after n 0 rows

-- where a statement moves an array, that is among so many
abbrev pub HasArray : ℕ → What → Type 0
HasArray arrays (MoveTo array space) = (1 ≤ array) × (array ≤ arrays)
HasArray arrays _ = Unit {0}

abbrev pub HaveArrays : ℕ → List StatementRow → Type 0
HaveArrays arrays rows = All (λ (row : StatementRow). HasArray arrays row.what) rows

-- the spaces of the arrays after a statement
abbrev pub homes_after : List ℕ → What → List ℕ
homes_after homes (MoveTo array space) = slice_set homes (array - 1) space
homes_after homes _ = homes

-- the rows above that of a region, or all rows where none runs it
abbrev pub rows_above : Plan → ℕ → List StatementRow
rows_above plan region = take (row_of_region plan region - 1) plan.statements
