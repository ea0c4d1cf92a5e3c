-- What is kept from one row to the next.
use Rattle.std.specs.Prelude.{◌≡◌, ◌≢◌, ℕ, ◌<◌, List, All, drop, length, replicate, take}
use Rattle.dd_blocks.specs.declared.plan.Plan.{Plan}
use Rattle.dd_blocks.specs.declared.statement_row.StatementRow.{StatementRow}
use Rattle.dd_blocks.specs.declared.what.What.TheVariants.{Moved}
use Rattle.dd_blocks.specs.Layout.{elements_in}
use Rattle.dd_transfers.specs.declared.moves.Moves.{Moves}
use Rattle.dd_blocks.specs.ArrayHomes.{AreMovedTo}

-- no row prints what was moved
abbrev pub NoneAsks : List StatementRow → Type 0
NoneAsks rows = All (λ (row : StatementRow). row.what ≢ Moved) rows

-- below so many rows: no element is marked, where one may still be counted, and the homes are those after these rows
pub record IsAtRest (plan : Plan) (i : ℕ) (m : Moves) : Type 0 where
  pub last : NoneAsks (drop m.asked plan.statements)
  pub unmarked : 1 < length plan.spaces → i < m.asked → m.marks.items ≡ replicate (elements_in plan.arrays) 0
  pub homes : AreMovedTo (length plan.arrays) (take i plan.statements) m.homes.items
