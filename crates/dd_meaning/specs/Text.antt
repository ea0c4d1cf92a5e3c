-- What a script prints: the bytes of its statements, one after the other, over the worlds in which they stand.
use Rattle.std.specs.Prelude.{ℕ, ◌+◌, ◌*◌, ℤ, codes, List, [], ◌∷◌, ◌++◌, map, length, take, slice_index_or, sum_by}
use Rattle.std.specs.List.{flat_map, join_with_byte, range_with_len}
use Rattle.std.specs.Fmt.{decimal, signed_decimal}
use Rattle.dd_kernels.specs.Lists.{element, sum_below, wrapped}
use Rattle.dd_blocks.specs.declared.grid.Grid.{Grid}
use Rattle.dd_blocks.specs.declared.plan.Plan.{Plan}
use Rattle.dd_blocks.specs.declared.what.What.{What}
use Rattle.dd_blocks.specs.declared.what.What.TheVariants.{Put, Print, Sum, Moved, Same, Drop, MoveTo, Region}
use Rattle.dd_blocks.specs.Lives.{regions_run}
use Rattle.dd_blocks.specs.Numbered.{array_row}
use Rattle.dd_meaning.specs.Moves.{moved}
use Rattle.dd_meaning.specs.Steps.{world_after}
use Rattle.dd_meaning.specs.Versions.{tasks_through}
use Rattle.dd_meaning.specs.Worlds.{World, values_of}

-- row i of an array, from 0: its numbers with a space between them, and a line feed
abbrev pub printed_row : Grid → List ℤ → ℕ → List ℕ
printed_row grid values i =
    join_with_byte 32 (map (λ j. signed_decimal (element values (j * grid.rows + i))) (range_with_len 0 grid.cols)) ++ 10 ∷ []

-- all rows of it
abbrev pub printed : Grid → List ℤ → List ℕ
printed grid values = flat_map (printed_row grid values) (range_with_len 0 grid.rows)

-- the sum of its values wraps
abbrev pub summed : List ℕ → List ℤ → List ℕ
summed name values = codes "sum " ++ name ++ 32 ∷ signed_decimal (wrapped (sum_below (length values) (element values))) ++ 10 ∷ []

abbrev pub moved_line : ℕ → List ℕ
moved_line n = codes "moved " ++ decimal n ++ 10 ∷ []

-- what a statement prints, by the world in which it stands and the elements that were moved so far
abbrev pub printed_by : Plan → World → ℕ → What → List ℕ
printed_by plan world so_far (Put array) = []
printed_by plan world so_far (Print array) = printed (array_row plan array).grid (values_of world array)
printed_by plan world so_far (Sum array name) = summed name (values_of world array)
printed_by plan world so_far Moved = moved_line so_far
printed_by plan world so_far (Same array) = []
printed_by plan world so_far (Drop array last) = []
printed_by plan world so_far (MoveTo array space) = []
printed_by plan world so_far (Region region) = []

-- the regions above a row, by their number, since they are numbered in the order of their rows
abbrev pub regions_above : Plan → ℕ → ℕ
regions_above plan i = length (regions_run (take i plan.statements))

-- the world in which the row with so many rows above it stands: all tasks of the regions above it were run
abbrev pub world_at : Plan → ℕ → World
world_at plan i = world_after plan (tasks_through plan (regions_above plan i))

-- the elements that the regions above it moved
abbrev pub moved_above : Plan → ℕ → ℕ
moved_above plan i = sum_by (moved plan) (range_with_len 1 (regions_above plan i))

abbrev pub row_text : Plan → ℕ → List ℕ
row_text plan i = printed_by plan (world_at plan i) (moved_above plan i) (slice_index_or plan.statements i (record { line = 0; what = Put 0 })).what

-- the text of a script where something follows each row, by how many rows stand above it
abbrev pub text_with : Plan → (ℕ → List ℕ) → List ℕ
text_with plan after = flat_map (λ i. row_text plan i ++ after i) (range_with_len 0 (length plan.statements))

-- the text of a script: nothing follows
abbrev pub text_of : Plan → List ℕ
text_of plan = text_with plan (λ i. [])
