-- The copies as the machine sees them.
use Rattle.std.specs.Prelude.{ℕ, ◌≡◌, ◌-◌, List, [], length, slice_set, Option, Some, None, All}
use Rattle.dd_copies.specs.declared.block_copy.BlockCopy.{BlockCopy}
use Rattle.dd_copies.specs.Numbers.{at_number, or_else}
use Rattle.dd_machine.specs.States.{Copy}

abbrev pub seen : Option BlockCopy → Option Copy
seen None = None
seen (Some copy) = Some (record { state = copy.state; versions = copy.versions.list })

-- the cell of a space and a block
abbrev pub cell_of : List (List (Option BlockCopy)) → ℕ → ℕ → Option BlockCopy
cell_of table space block = or_else None (at_number (or_else [] (at_number table space)) block)

unfoldable pub copies_of : List (List (Option BlockCopy)) → ℕ → ℕ → Option Copy
copies_of table space block = seen (cell_of table space block)

-- a row for each space, and in it a cell for each block
pub record IsTable (spaces blocks : ℕ) (table : List (List (Option BlockCopy))) : Type 0 where
  pub rows : length table ≡ spaces
  pub cells : All (λ (row : List (Option BlockCopy)). length row ≡ blocks) table

-- the table with one cell changed
abbrev pub with_cell : List (List (Option BlockCopy)) → ℕ → ℕ → Option BlockCopy → List (List (Option BlockCopy))
with_cell table space block cell = slice_set table (space - 1) (slice_set (or_else [] (at_number table space)) (block - 1) cell)
