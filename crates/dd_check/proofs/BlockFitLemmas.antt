-- The blocks that a statement places, by their numbers in their array.
use Rattle.std.proofs.Common.{◌≡◌, ℕ, suc, ◌+◌, ◌-◌, ◌*◌, ◌/◌, ◌%◌, ◌<◌, ◌≤◌, true, false, length, map, MatchOption, Option, None, Some, sym, ap, subst, ◌∙◌, arith, rules, tests}
use Rattle.dd_blocks.specs.declared.array_row.ArrayRow.{ArrayRow}
use Rattle.dd_blocks.specs.declared.block_row.BlockRow.{BlockRow}
use Rattle.dd_blocks.specs.declared.fill.Fill.{Fill}
use Rattle.dd_blocks.specs.declared.grid.Grid.{Grid}
use Rattle.dd_blocks.specs.declared.plan.Plan.{Plan}
use Rattle.dd_blocks.specs.Grids.{IsGrid, block_cols, block_count, block_height, block_rows, block_size, block_width, col_of_block, piece_len, row_of_block}
use Rattle.dd_blocks.specs.Layout.{blocks_in, blocks_of_array, first_home}
use Rattle.dd_blocks.specs.Numbered.{space_row}
use Rattle.dd_blocks.proofs.PiecesLemmas.{piece_within}
use Rattle.dd_script.specs.declared.statement.Statement.{Statement}
use Rattle.dd_check.specs.declared.fault.Fault.{Fault}
use Rattle.dd_check.specs.declared.kind.Kind.TheVariants.{BlockTooLarge}
use Rattle.dd_check.specs.Above.{Above}
use Rattle.dd_check.specs.Faults.{IsClear}
use Rattle.dd_check.specs.Kinds.{HasLargeBlock, is_too_large, placed_blocks}
use Rattle.dd_check.specs.BlockFit.{IsLargeFault}
use Rattle.dd_check.specs.Rows.{next_array}
use Rattle.dd_check.proofs.FindLemmas.{find_first_below, find_first_of, find_none_below, find_none_of}

-- the row of a block of the array that comes next
abbrev pub first_block_row : Plan → Grid → ℕ → BlockRow
first_block_row plan grid k = record {
  array = suc (length plan.arrays);
  home = first_home (length plan.spaces) ((blocks_in plan.arrays + 1) + k);
  size = block_size grid k;
}

-- a block of it needs more than its home has, or not
is_large : (plan : Plan) (block : BlockRow) (limit : ℕ) → limit ≡ (space_row plan block.home).limit → limit < 16 * block.size → is_too_large plan block ≡ true
is_large plan block limit is more = search (rules, tests)

is_small : (plan : Plan) (block : BlockRow) (limit : ℕ) → limit ≡ (space_row plan block.home).limit → 16 * block.size ≤ limit → is_too_large plan block ≡ false
is_small plan block limit is less = search (rules, tests)

-- by the place of its home's row
first_home_limit : (plan : Plan) (grid : Grid) (k : ℕ) → (space_row plan (first_block_row plan grid k).home).limit ≡ (space_row plan ((blocks_in plan.arrays + k) % length plan.spaces + 1)).limit
first_home_limit plan grid k =
    let same : (blocks_in plan.arrays + 1) + k - 1 ≡ blocks_in plan.arrays + k = omega arith in
    ap (λ (i : ℕ). (space_row plan (i % length plan.spaces + 1)).limit) same

pub first_large : (plan : Plan) (grid : Grid) (before k limit : ℕ) → before ≡ blocks_in plan.arrays → limit ≡ (space_row plan ((before + k) % length plan.spaces + 1)).limit → limit < 16 * block_size grid k → is_too_large plan (first_block_row plan grid k) ≡ true
first_large plan grid before k limit counted is more =
    is_large plan (first_block_row plan grid k) limit (is ∙ (ap (λ (b : ℕ). (space_row plan ((b + k) % length plan.spaces + 1)).limit) counted ∙ sym (first_home_limit plan grid k))) more

pub first_small : (plan : Plan) (grid : Grid) (before k limit : ℕ) → before ≡ blocks_in plan.arrays → limit ≡ (space_row plan ((before + k) % length plan.spaces + 1)).limit → 16 * block_size grid k ≤ limit → is_too_large plan (first_block_row plan grid k) ≡ false
first_small plan grid before k limit counted is less =
    is_small plan (first_block_row plan grid k) limit (is ∙ (ap (λ (b : ℕ). (space_row plan ((b + k) % length plan.spaces + 1)).limit) counted ∙ sym (first_home_limit plan grid k))) less

-- the fault of the first block that is too large
pub large_found : (plan : Plan) (grid : Grid) (fill : Fill) (line before k needed limit : ℕ) (fault : Fault) → k < block_count grid
    → ((i : ℕ) → i < k → is_too_large plan (first_block_row plan grid i) ≡ false)
    → before ≡ blocks_in plan.arrays → limit ≡ (space_row plan ((before + k) % length plan.spaces + 1)).limit → needed ≡ 16 * block_size grid k → limit < needed
    → fault ≡ record { line = line; kind = BlockTooLarge; a = needed; b = limit }
    → IsLargeFault plan line (blocks_of_array (length plan.spaces) (suc (length plan.arrays)) (next_array plan grid fill)) (Some fault)
large_found plan grid fill line before k needed limit fault within small counted is need more fault_is =
    let home : limit ≡ (space_row plan (first_block_row plan grid k).home).limit = is ∙ (ap (λ (b : ℕ). (space_row plan ((b + k) % length plan.spaces + 1)).limit) counted ∙ sym (first_home_limit plan grid k)) in
    let large : is_too_large plan (first_block_row plan grid k) ≡ true = is_large plan (first_block_row plan grid k) limit home (subst (λ (n : ℕ). limit < n) need more) in (
      first_block_row plan grid k,
      find_first_below (is_too_large plan) (first_block_row plan grid) (block_count grid) k within small large,
      fault_is ∙ ap (λ (n : ℕ). let f : Fault = record { line = line; kind = BlockTooLarge; a = n; b = limit } in f) need
          ∙ ap (λ (n : ℕ). let f : Fault = record { line = line; kind = BlockTooLarge; a = 16 * block_size grid k; b = n } in f) home,
    )

pub large_nowhere : (plan : Plan) (grid : Grid) (fill : Fill) (line count : ℕ) → block_count grid ≤ count → ((i : ℕ) → i < count → is_too_large plan (first_block_row plan grid i) ≡ false)
    → IsLargeFault plan line (blocks_of_array (length plan.spaces) (suc (length plan.arrays)) (next_array plan grid fill)) None
large_nowhere plan grid fill line count all small =
    find_none_below (is_too_large plan) (first_block_row plan grid) (block_count grid) (λ k h. small k (omega arith))

-- An array that is moved: no block is larger than the first, so it is the first that is too large, or none is.

-- the row of a block where it is moved to
abbrev pub moved_row : ℕ → BlockRow → BlockRow
moved_row target block = record { array = block.array; home = target; size = block.size }

abbrev block_at : ℕ → ℕ → ArrayRow → ℕ → BlockRow
block_at spaces a array i = record { array = a; home = first_home spaces (array.first_block + i); size = block_size array.grid i }

piece_first : (length size piece : ℕ) → piece_len length size piece ≤ piece_len length size 0
piece_first length size piece = omega arith

product_le : (a b m n : ℕ) → a ≤ m → b ≤ n → a * b ≤ m * n
product_le a b m n first second = grind arith

largest_first : (g : Grid) (block : ℕ) → block_size g block ≤ block_size g 0
largest_first g block =
    let row : 0 % block_rows g ≡ 0 = omega arith in
    let col : 0 / block_rows g ≡ 0 = omega arith in
    let height : block_height g block ≤ block_height g 0 = rw row (piece_first g.rows g.brows (row_of_block g block)) in
    let width : block_width g block ≤ block_width g 0 = rw col (piece_first g.cols g.bcols (col_of_block g block)) in
    product_le (block_height g block) (block_width g block) (block_height g 0) (block_width g 0) height width

pub some_block : (g : Grid) → IsGrid g → 0 < block_count g
some_block g grid =
    let rows : 0 / g.brows < block_rows g = piece_within g.rows g.brows 0 grid.brows (omega (arith, grid.rows)) in
    let cols : 0 / g.bcols < block_cols g = piece_within g.cols g.bcols 0 grid.bcols (omega (arith, grid.cols)) in
    let h : 1 * 1 ≤ block_rows g * block_cols g = product_le 1 1 (block_rows g) (block_cols g) (omega arith) (omega arith) in
    omega (arith, h)

pub moved_large : (plan : Plan) (spaces a target : ℕ) (array : ArrayRow) (line needed limit : ℕ) (fault : Fault) → IsGrid array.grid
    → limit ≡ (space_row plan target).limit → needed ≡ 16 * block_size array.grid 0 → limit < needed
    → fault ≡ record { line = line; kind = BlockTooLarge; a = needed; b = limit }
    → IsLargeFault plan line (map (moved_row target) (blocks_of_array spaces a array)) (Some fault)
moved_large plan spaces a target array line needed limit fault grid is need more fault_is =
    let large : is_too_large plan (moved_row target (block_at spaces a array 0)) ≡ true = is_large plan (moved_row target (block_at spaces a array 0)) limit is (subst (λ (n : ℕ). limit < n) need more) in (
      moved_row target (block_at spaces a array 0),
      find_first_of (is_too_large plan) (moved_row target) (block_at spaces a array) (block_count array.grid) 0 (some_block array.grid grid) (λ i h. absurd (omega arith)) large,
      fault_is ∙ ap (λ (n : ℕ). let f : Fault = record { line = line; kind = BlockTooLarge; a = n; b = limit } in f) need
          ∙ ap (λ (n : ℕ). let f : Fault = record { line = line; kind = BlockTooLarge; a = 16 * block_size array.grid 0; b = n } in f) is,
    )

pub moved_small : (plan : Plan) (spaces a target : ℕ) (array : ArrayRow) (line needed limit : ℕ)
    → limit ≡ (space_row plan target).limit → needed ≡ 16 * block_size array.grid 0 → needed ≤ limit
    → IsLargeFault plan line (map (moved_row target) (blocks_of_array spaces a array)) None
moved_small plan spaces a target array line needed limit is need less =
    find_none_of (is_too_large plan) (moved_row target) (block_at spaces a array) (block_count array.grid)
    (λ k h. is_small plan (moved_row target (block_at spaces a array k)) limit is (omega (arith, largest_first array.grid k)))

-- what the fault of the blocks that a statement places says of the statement
pub fault_of_large : (s : Above) (x : Statement) (line : ℕ) (found : Option Fault) → IsLargeFault s.plan line (placed_blocks s x) found
    → MatchOption found (IsClear line s x BlockTooLarge) (λ (fault : Fault). (fault.line ≡ line) × (fault.kind ≡ BlockTooLarge) × HasLargeBlock s x fault.a fault.b)
fault_of_large s x line None none = λ a b h. let some = h.first in absurd (cc)
fault_of_large s x line (Some fault) found = (
  ap (λ (f : Fault). f.line) found.2,
  ap (λ (f : Fault). f.kind) found.2,
  record { block = found.0; first = found.1; needed_is = ap (λ (f : Fault). f.a) found.2; limit_is = ap (λ (f : Fault). f.b) found.2 },
)
