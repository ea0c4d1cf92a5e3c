-- The blocks of an array are blocks of the Plan, and few.
use Rattle.std.proofs.Common.{◌≡◌, ℕ, ◌+◌, ◌*◌, ◌/◌, ◌%◌, ◌<◌, ◌≤◌, List, map, Some, None, option_map, ap, ◌∙◌, arith}
use Rattle.std.specs.List.{range_with_len, slice_get}
use Rattle.std.proofs.lemmas.List.FromFn.{length-map-range_with_len}
use Rattle.std.proofs.lemmas.Nat.{div-add-mod', mod_below, mul-add-lt}
use Rattle.std.proofs.lemmas.Option.{slice_get-map}
use Rattle.dd_blocks.specs.declared.plan.Plan.{Plan}
use Rattle.dd_blocks.specs.Grids.{IsGrid, block_cols, block_count, block_rows}
use Rattle.dd_blocks.specs.Limits.{blocks_limit}
use Rattle.dd_blocks.specs.Numbered.{IsNumberIn, array_row}
use Rattle.dd_blocks.specs.WellFormed.{IsWellFormed}
use Rattle.dd_machine.specs.Owed.{blocks_by_rows}
use Rattle.dd_blocks.proofs.LayoutLemmas.{blocks_within, grid_stands, has_block, stands}
use Rattle.dd_blocks.proofs.PiecesLemmas.{piece_within}
use Rattle.dd_owed.proofs.PiecesLemmas.{get_piece, get_range, get_range_past, in_piece}

pub grid_known : (plan : Plan) (array : ℕ) → IsWellFormed plan → IsNumberIn plan.arrays array → IsGrid (array_row plan array).grid
grid_known plan array well is = grid_stands plan well.layout array is

-- a block of an array is one of the Plan
pub block_known : (plan : Plan) (array i : ℕ) → IsWellFormed plan → IsNumberIn plan.arrays array → i < block_count (array_row plan array).grid
    → IsNumberIn plan.blocks ((array_row plan array).first_block + i)
block_known plan array i well is lt = let has = has_block plan well.layout array i is lt in (has.low, has.high)

-- and there are few
pub blocks_few : (plan : Plan) (array : ℕ) → IsWellFormed plan → IsNumberIn plan.arrays array
    → (array_row plan array).first_block + block_count (array_row plan array).grid ≤ blocks_limit + 1
blocks_few plan array well is = omega (arith, blocks_within plan well.layout array is, well.limits.blocks)

-- ---- row by row of blocks

pub some_wide : (plan : Plan) (array : ℕ) → IsWellFormed plan → IsNumberIn plan.arrays array → 0 < block_cols (array_row plan array).grid
some_wide plan array well is =
    let grid = grid_known plan array well is in
    omega (arith, piece_within (array_row plan array).grid.cols (array_row plan array).grid.bcols 0 grid.bcols grid.cols)

-- a place that has a row of blocks has a block, and is one of few
pub record IsCrossed (plan : Plan) (array i : ℕ) : Type 0 where
  pub known : IsNumberIn plan.blocks ((array_row plan array).first_block + (i % block_cols (array_row plan array).grid * block_rows (array_row plan array).grid + i / block_cols (array_row plan array).grid))
  pub end : (array_row plan array).first_block + (i % block_cols (array_row plan array).grid * block_rows (array_row plan array).grid + i / block_cols (array_row plan array).grid) ≤ blocks_limit
  pub few : i < blocks_limit

pub crossed : (plan : Plan) (array i : ℕ) → IsWellFormed plan → IsNumberIn plan.arrays array
    → i / block_cols (array_row plan array).grid < block_rows (array_row plan array).grid → IsCrossed plan array i
crossed plan array i well is lt =
    let high = block_rows (array_row plan array).grid in
    let wide = block_cols (array_row plan array).grid in
    let some = some_wide plan array well is in
    let low : i % wide < wide = mod_below i wide some in
    let inside : i % wide * high + i / wide < high * wide = mul-add-lt (i % wide) high (i / wide) wide low lt in
    let turned : i / wide * wide + i % wide < wide * high = mul-add-lt (i / wide) wide (i % wide) high lt low in
    let split : i / wide * wide + i % wide ≡ i = div-add-mod' i wide in
    let count : (array_row plan array).first_block + high * wide ≤ blocks_limit + 1 = blocks_few plan array well is in
    let first : 1 ≤ (array_row plan array).first_block = omega (arith, (stands plan well.layout array is).first_block) in
    record {
      known = block_known plan array (i % wide * high + i / wide) well is inside;
      end = omega (arith, inside, count);
      few = omega (arith, turned, split, count, first);
    }

pub by_rows : (plan : Plan) (array i : ℕ) → 0 < block_cols (array_row plan array).grid
    → i / block_cols (array_row plan array).grid < block_rows (array_row plan array).grid
    → slice_get (blocks_by_rows plan array) i
    ≡ Some ((array_row plan array).first_block + (i % block_cols (array_row plan array).grid * block_rows (array_row plan array).grid + i / block_cols (array_row plan array).grid))
by_rows plan array i some lt =
    let high = block_rows (array_row plan array).grid in
    let wide = block_cols (array_row plan array).grid in
    let at : ℕ → ℕ → ℕ = λ r j. (array_row plan array).first_block + (j * high + r) in
    let in_row : ℕ → List ℕ = λ r. map (at r) (range_with_len 0 wide) in
    let r = i / wide in
    let c = i % wide in
    let zero_r : 0 + r ≡ r = omega arith in
    let zero_c : 0 + c ≡ c = omega arith in
    get_piece in_row (range_with_len 0 high) wide i some (λ k. length-map-range_with_len (at k) 0 wide)
    ∙ ap (in_piece in_row c) (get_range 0 high r lt ∙ ap Some zero_r)
    ∙ slice_get-map (at r) (range_with_len 0 wide) c
    ∙ ap (option_map (at r)) (get_range 0 wide c (mod_below i wide some) ∙ ap Some zero_c)

pub past_rows : (plan : Plan) (array i : ℕ) → 0 < block_cols (array_row plan array).grid
    → block_rows (array_row plan array).grid ≤ i / block_cols (array_row plan array).grid
    → slice_get (blocks_by_rows plan array) i ≡ None
past_rows plan array i some le =
    let high = block_rows (array_row plan array).grid in
    let wide = block_cols (array_row plan array).grid in
    let at : ℕ → ℕ → ℕ = λ r j. (array_row plan array).first_block + (j * high + r) in
    let in_row : ℕ → List ℕ = λ r. map (at r) (range_with_len 0 wide) in
    get_piece in_row (range_with_len 0 high) wide i some (λ k. length-map-range_with_len (at k) 0 wide)
    ∙ ap (in_piece in_row (i % wide)) (get_range_past 0 high (i / wide) le)
