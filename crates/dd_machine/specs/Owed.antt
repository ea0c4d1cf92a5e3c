-- The entries that the statements ask for, row by row, and which of them are still to be made.
use Rattle.std.specs.Prelude.{ℕ, zero, suc, ◌+◌, ◌-◌, ◌*◌, ◌≤◌, nat_eq, nat_lt, not, cond, Bool, true, false, List, [], ◌∷◌, ◌++◌, map, filter, take, drop, length, option_map, Option, Some, None}
use Rattle.std.specs.List.{flat_map, range_with_len}
use Rattle.dd_blocks.specs.declared.plan.Plan.{Plan}
use Rattle.dd_blocks.specs.declared.what.What.{What}
use Rattle.dd_blocks.specs.declared.what.What.TheVariants.{Put as Array, Print, Sum, Moved, Same, Drop, MoveTo, Region}
use Rattle.dd_blocks.specs.Grids.{block_cols, block_count, block_rows}
use Rattle.dd_blocks.specs.Homes.{home_before}
use Rattle.dd_blocks.specs.Numbered.{array_row}
use Rattle.dd_machine.specs.declared.entry.Entry.{Entry}
use Rattle.dd_machine.specs.declared.event.Event.{Event}
use Rattle.dd_machine.specs.declared.event.Event.TheVariants.{Ask, Rest, Put, Shift, Free, Begin, Close}
use Rattle.dd_machine.specs.States.{Progress}
use Rattle.dd_machine.specs.Words.{rows, statement}

-- the blocks of an array, rising
abbrev pub blocks_of : Plan → ℕ → List ℕ
blocks_of plan array = range_with_len (array_row plan array).first_block (block_count (array_row plan array).grid)

-- its blocks row by row of blocks, each from the left
abbrev pub blocks_by_rows : Plan → ℕ → List ℕ
blocks_by_rows plan array = flat_map (blocks_in_row plan array) (range_with_len 0 (block_rows (array_row plan array).grid))
  where
    blocks_in_row : Plan → ℕ → ℕ → List ℕ
    blocks_in_row plan array i = map (λ j. (array_row plan array).first_block + (j * block_rows (array_row plan array).grid + i)) (range_with_len 0 (block_cols (array_row plan array).grid))

-- the blocks of an array whose home before the row is another space
abbrev pub blocks_elsewhere : Plan → ℕ → ℕ → ℕ → List ℕ
blocks_elsewhere plan row array space = filter (λ b. not (nat_eq (home_before plan row b) space)) (blocks_of plan array)

-- a block is brought to its home; it is made there; it is moved to a space; it is freed
abbrev pub brought : Plan → ℕ → ℕ → List Event
brought plan row block = Ask (home_before plan row block) block ∷ Rest ∷ []

abbrev pub put_there : Plan → ℕ → ℕ → List Event
put_there plan row block = Ask (home_before plan row block) block ∷ Put block ∷ Rest ∷ []

abbrev pub shifted_to : ℕ → ℕ → List Event
shifted_to space block = Ask space block ∷ Shift block space ∷ Rest ∷ []

abbrev pub freed : Plan → ℕ → ℕ → List Event
freed plan row block = Free (home_before plan row block) block ∷ []

-- the events of a statement, by its row's number
abbrev pub events_of : Plan → ℕ → What → List Event
events_of plan row (Array array) = flat_map (put_there plan row) (blocks_of plan array)
events_of plan row (Print array) = flat_map (brought plan row) (blocks_by_rows plan array)
events_of plan row (Sum array name) = flat_map (brought plan row) (blocks_of plan array)
events_of plan row Moved = []
events_of plan row (Same array) = []
events_of plan row (Drop array last) = cond last (flat_map (freed plan row) (blocks_of plan array)) []
events_of plan row (MoveTo array space) = flat_map (shifted_to space) (blocks_elsewhere plan row array space)
events_of plan row (Region region) = Begin region ∷ Close region ∷ []

-- the entries of a row: its events with its line
unfoldable pub entries_of : Plan → ℕ → List Entry
entries_of plan row = map (λ event. record { line = (statement plan row).line; event = event }) (events_of plan row (statement plan row).what)

-- those of so many rows from one on
abbrev pub entries_from : Plan → ℕ → ℕ → List Entry
entries_from plan row zero = []
entries_from plan row (suc n) = entries_of plan row ++ entries_from plan (suc row) n

-- all of them
abbrev pub all_entries : Plan → List Entry
all_entries plan = entries_from plan 1 (rows plan)

-- those that were made, and those that are left
abbrev pub made : Plan → Progress → List Entry
made plan p = entries_from plan 1 (p.row - 1) ++ take p.made (entries_of plan p.row)

abbrev pub left : Plan → Progress → List Entry
left plan p = drop p.made (entries_of plan p.row) ++ entries_from plan (suc p.row) (rows plan - p.row)

-- a position: the row is one of the Plan, or 0, and no more of its entries were made than it has
pub record IsPosition (plan : Plan) (p : Progress) : Type 0 where
  pub row_within : p.row ≤ rows plan
  pub made_within : p.made ≤ length (entries_of plan p.row)

-- the row where it has entries, or else a later one
abbrev pub first_with : List Entry → ℕ → ℕ → ℕ
first_with [] row later = later
first_with (entry ∷ entries) row later = row

-- the first of so many rows that has entries
abbrev pub next_row : Plan → ℕ → ℕ → ℕ
next_row plan row zero = row
next_row plan row (suc n) = first_with (entries_of plan row) row (next_row plan (suc row) n)

-- one more entry was made: of the row at work, where it has one, or else the first of the next row that has one
abbrev pub one_more_of : Plan → Progress → Bool → Progress
one_more_of plan p true = record { row = p.row; made = suc p.made }
one_more_of plan p false = record { row = next_row plan (suc p.row) (rows plan - p.row); made = 1 }

unfoldable pub one_more : Plan → Progress → Progress
one_more plan p = one_more_of plan p (nat_lt p.made (length (entries_of plan p.row)))

-- the first of some entries; its event, and its line
abbrev pub next_entry : List Entry → Option Entry
next_entry [] = None
next_entry (entry ∷ entries) = Some entry

abbrev pub next_event : List Entry → Option Event
next_event entries = option_map (λ entry. entry.event) (next_entry entries)

abbrev pub next_line : List Entry → Option ℕ
next_line entries = option_map (λ entry. entry.line) (next_entry entries)
