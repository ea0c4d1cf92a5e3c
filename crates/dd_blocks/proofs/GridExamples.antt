-- Worked examples of the definitions: each computes.
use Rattle.std.proofs.Common.{◌≡◌, ℕ, List, [], ◌∷◌, map, refl}
use Rattle.std.specs.List.{range_with_len}
use Rattle.dd_blocks.specs.declared.grid.Grid.{Grid}
use Rattle.dd_blocks.specs.Grids.{block_count, block_size, block_of, place_in_block, pos_of}

-- 5 by 3, in blocks of 2 by 2
abbrev grid : Grid
grid = record { rows = 5; cols = 3; brows = 2; bcols = 2 }

-- the numbers 0 to 14
abbrev positions : List ℕ
positions = range_with_len 0 15

count : block_count grid ≡ 6
count = refl

sizes : map (block_size grid) (range_with_len 0 6) ≡ 4 ∷ 4 ∷ 2 ∷ 2 ∷ 2 ∷ 1 ∷ []
sizes = refl

blocks : map (block_of grid) positions ≡ 0 ∷ 0 ∷ 1 ∷ 1 ∷ 2 ∷ 0 ∷ 0 ∷ 1 ∷ 1 ∷ 2 ∷ 3 ∷ 3 ∷ 4 ∷ 4 ∷ 5 ∷ []
blocks = refl

places : map (place_in_block grid) positions ≡ 0 ∷ 1 ∷ 0 ∷ 1 ∷ 0 ∷ 2 ∷ 3 ∷ 2 ∷ 3 ∷ 1 ∷ 0 ∷ 1 ∷ 0 ∷ 1 ∷ 0 ∷ []
places = refl

back : map (λ pos. pos_of grid (block_of grid pos) (place_in_block grid pos)) positions ≡ positions
back = refl

-- a block that is larger than its array
abbrev one_block : Grid
one_block = record { rows = 2; cols = 3; brows = 5; bcols = 4 }

one : block_count one_block ≡ 1
one = refl

all : block_size one_block 0 ≡ 6
all = refl

last : pos_of one_block 0 5 ≡ 5
last = refl
