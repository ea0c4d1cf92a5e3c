-- The blocks of an array, and their homes between two rows.
use Rattle.std.proofs.Common.{◌≡◌, ℕ, suc, ◌+◌, ◌-◌, ◌*◌, ◌<◌, List, take, ap, sym, ◌∙◌, arith}
use Rattle.std.specs.Prelude.{Contains}
use Rattle.std.specs.List.{range_with_len}
use Rattle.std.proofs.lemmas.Nat.{mul-add-lt}
use Rattle.dd_views.proofs.ListsLemmas.{in_flat_map, in_map, in_range, range_has}
use Rattle.dd_blocks.specs.declared.plan.Plan.{Plan}
use Rattle.dd_blocks.specs.Grids.{block_cols, block_count, block_rows}
use Rattle.dd_blocks.specs.Homes.{home_after, home_before}
use Rattle.dd_blocks.specs.Numbered.{IsNumberIn, array_row, block_row}
use Rattle.dd_blocks.specs.WellFormed.{IsWellFormed}
use Rattle.dd_blocks.proofs.LayoutLemmas.{has_block}
use Rattle.dd_machine.specs.declared.entry.Entry.{Entry}
use Rattle.dd_machine.specs.Made.{home_made}
use Rattle.dd_machine.specs.Owed.{blocks_by_rows, blocks_of}
use Rattle.dd_machine.specs.SoundLives.{SoundLives}
use Rattle.dd_machine.specs.States.{State}
use Rattle.laws_of_lives.proofs.HomesOfRows.{homes_upto}
use Rattle.laws_of_rows.specs.Rows.{IsAtRow}
use Rattle.laws_of_rows.proofs.RowsLemmas.{made_at_row}

-- each block is at the home that the rows above give it
pub home_at_row : (plan : Plan) (i : ℕ) (st : State) → IsWellFormed plan → SoundLives plan st → IsAtRow plan i st → (b : ℕ) → IsNumberIn plan.blocks b
    → st.homes b ≡ home_before plan (suc i) b
home_at_row plan i st well lives at b is =
    let row = block_row plan b in
    let less : suc i - 1 ≡ i = omega arith in
    sym (lives.home_is b) ∙ ap (λ (es : List Entry). home_made row.home es b) (made_at_row plan i st lives at) ∙ homes_upto plan well b is i at.within
    ∙ ap (λ (n : ℕ). home_after row.array row.home (take n plan.statements)) (sym less)

-- the blocks of an array have rows
pub block_known : (plan : Plan) → IsWellFormed plan → (a b : ℕ) → IsNumberIn plan.arrays a → Contains (blocks_of plan a) b → IsNumberIn plan.blocks b
block_known plan well a b within here =
    let first = (array_row plan a).first_block in
    let r = in_range first (block_count (array_row plan a).grid) b here in
    let lt : b - first < block_count (array_row plan a).grid = omega (arith, r.0, r.1) in
    let is = has_block plan well.layout a (b - first) within lt in
    (omega (arith, is.low, r.0), omega (arith, is.high, r.0))

-- those that are listed row by row are the same
pub block_listed : (plan : Plan) (a b : ℕ) → Contains (blocks_by_rows plan a) b → Contains (blocks_of plan a) b
block_listed plan a b here =
    let first = (array_row plan a).first_block in
    let high = block_rows (array_row plan a).grid in
    let wide = block_cols (array_row plan a).grid in
    let in_row = in_flat_map _ (range_with_len 0 high) b here in
    let row = in_range 0 high in_row.0 in_row.1 in
    let in_col = in_map (λ j. first + (j * high + in_row.0)) (range_with_len 0 wide) b in_row.2 in
    let col = in_range 0 wide in_col.0 in_col.1 in
    let lt : in_col.0 * high + in_row.0 < high * wide = mul-add-lt in_col.0 high in_row.0 wide (omega (arith, col.1)) (omega (arith, row.1)) in
    let is : first + (in_col.0 * high + in_row.0) ≡ b = in_col.2 in
    range_has first (block_count (array_row plan a).grid) b (omega (arith, is)) (omega (arith, is, lt))
