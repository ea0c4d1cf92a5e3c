-- The elements of an array's column that stand in a block.
use Rattle.std.proofs.Common.{◌≡◌, ◌≢◌, ℕ, ◌+◌, ◌-◌, ◌*◌, ◌/◌, ◌%◌, ◌<◌, ◌≤◌, ◌↔◌, ◌⊎◌, refl, sym, ap, ◌∙◌, arith, ⊎_elim}
use Rattle.std.proofs.lemmas.Bool.{cases_lt}
use Rattle.std.proofs.lemmas.Nat.{div-add-mod', div-mul-add, mod-mul-add, mod_below}
use Rattle.dd_kernels.proofs.ListsLemmas.{ap2}
use Rattle.dd_views.specs.declared.column.Column.{Column}
use Rattle.dd_views.specs.Positions.{position_in}
use Rattle.dd_blocks.specs.declared.grid.Grid.{Grid}
use Rattle.dd_blocks.specs.Grids.{IsGrid, block_count, block_height, block_of, block_rows, block_size, col_of, col_of_block, element_count, place_in_block, pos_of, row_of, row_of_block}
use Rattle.dd_blocks.proofs.GridLemmas.{begins_col, begins_row, in_block, position_back}
use Rattle.dd_blocks.proofs.PiecesLemmas.{number_piece, number_place, piece_within}
use Rattle.dd_stamps.specs.declared.piece.Piece.{Piece}
use Rattle.dd_stamps.specs.Columns.{HasPlaces, IsColumnIn, IsPieceOf, place_in}

-- a position of an array's column, between where a block begins and ends in it
pub record IsWithin (g : Grid) (block col low high p : ℕ) : Type 0 where
  pub col_is : col_of g p ≡ col
  pub block_col : col / g.bcols ≡ col_of_block g block
  pub low_is : low ≡ col * g.rows + row_of_block g block * g.brows
  pub high_is : high ≡ low + block_height g block
  pub above : low ≤ p
  pub below : p < high

-- its row
row_is : (g : Grid) (block col low high p : ℕ) → IsWithin g block col low high p → row_of g p ≡ row_of_block g block * g.brows + (p - low)
row_is g block col low high p within =
    let parts : p / g.rows * g.rows + p % g.rows ≡ p = div-add-mod' p g.rows in
    let same : p / g.rows * g.rows ≡ col * g.rows = ap (λ (n : ℕ). n * g.rows) within.col_is in
    omega (arith, parts, same, within.low_is, within.above)

-- is in the block
pub within_block : (g : Grid) (block col low high p : ℕ) → IsGrid g → IsWithin g block col low high p → block_of g p ≡ block
within_block g block col low high p grid within =
    let row = row_is g block col low high p within in
    let piece : row_of g p / g.brows ≡ row_of_block g block = ap (λ (n : ℕ). n / g.brows) row ∙ number_piece g.rows g.brows (row_of_block g block) (p - low) (omega (arith, within.high_is, within.above, within.below)) in
    let cols : col_of g p / g.bcols * block_rows g ≡ col_of_block g block * block_rows g = ap (λ (n : ℕ). n / g.bcols * block_rows g) within.col_is ∙ ap (λ (n : ℕ). n * block_rows g) within.block_col in
    let parts : block / block_rows g * block_rows g + block % block_rows g ≡ block = div-add-mod' block (block_rows g) in
    omega (arith, piece, cols, parts)

-- and has this place
pub within_place : (g : Grid) (block col low high p : ℕ) → IsGrid g → IsWithin g block col low high p → place_in_block g p ≡ col % g.bcols * block_height g block + (p - low)
within_place g block col low high p grid within =
    let row = row_is g block col low high p within in
    let here = within_block g block col low high p grid within in
    let place : row_of g p % g.brows ≡ p - low = ap (λ (n : ℕ). n % g.brows) row ∙ number_place g.rows g.brows (row_of_block g block) (p - low) (omega (arith, within.high_is, within.above, within.below)) in
    let cols : col_of g p % g.bcols * block_height g (block_of g p) ≡ col % g.bcols * block_height g block =
    ap (λ (n : ℕ). n % g.bcols * block_height g (block_of g p)) within.col_is ∙ ap (λ (n : ℕ). col % g.bcols * block_height g n) here in
    omega (arith, place, cols)

-- each position of the block is so
pub block_within_column : (g : Grid) (block col low high p : ℕ) → IsGrid g → p < element_count g → col_of g p ≡ col → block_of g p ≡ block
    → low ≡ col * g.rows + row_of_block g block * g.brows → high ≡ low + block_height g block → IsWithin g block col low high p
block_within_column g block col low high p grid inside col_is block_is low_is high_is =
    let small : row_of g p < g.rows = mod_below p g.rows grid.rows in
    let above : row_of g p / g.brows < block_rows g = piece_within g.rows g.brows (row_of g p) grid.brows small in
    let piece : row_of_block g block ≡ row_of g p / g.brows = ap (row_of_block g) (sym block_is) ∙ mod-mul-add (col_of g p / g.bcols) (block_rows g) (row_of g p / g.brows) above in
    let cols : col_of_block g block ≡ col_of g p / g.bcols = ap (col_of_block g) (sym block_is) ∙ div-mul-add (col_of g p / g.bcols) (block_rows g) (row_of g p / g.brows) above in
    let row : row_of g p / g.brows * g.brows + row_of g p % g.brows ≡ row_of g p = div-add-mod' (row_of g p) g.brows in
    let rest : row_of g p % g.brows < g.brows = mod_below (row_of g p) g.brows grid.brows in
    let top : row_of_block g block * g.brows ≡ row_of g p / g.brows * g.brows = ap (λ (n : ℕ). n * g.brows) piece in
    let parts : p / g.rows * g.rows + p % g.rows ≡ p = div-add-mod' p g.rows in
    let same : p / g.rows * g.rows ≡ col * g.rows = ap (λ (n : ℕ). n * g.rows) col_is in
    record {
      col_is = col_is;
      block_col = sym (cols ∙ ap (λ (n : ℕ). n / g.bcols) col_is);
      low_is = low_is;
      high_is = high_is;
      above = omega (arith, parts, same, row, top, low_is);
      below = omega (arith, parts, same, row, rest, small, top, low_is, high_is);
    }

place_same : (start low at : ℕ) (p : Piece) → p.place ≡ start → p.low ≡ low → start + (at - low) ≡ p.place + (at - p.low)
place_same start low at p place low_is = sym (ap2 (λ (m n : ℕ). m + (at - n)) place low_is)

same_place : (g : Grid) (a b m n : ℕ) → a ≡ b → m ≡ n → pos_of g a m ≡ pos_of g b n
same_place g a b m n e f = ap2 (pos_of g) e f

-- the piece between them
pub piece_within_column : (g : Grid) (block col low high : ℕ) (c : Column) (p : Piece) → IsGrid g → block < block_count g → IsColumnIn g c
    → col_of g c.first ≡ col → col / g.bcols ≡ col_of_block g block → low ≡ col * g.rows + row_of_block g block * g.brows → high ≡ low + block_height g block
    → p.low ≡ low → p.place ≡ col % g.bcols * block_height g block → p.from ≤ p.end → p.end ≤ c.count
    → ((i : ℕ) → p.from ≤ i → i < p.end → (low ≤ position_in c i) × (position_in c i < high))
    → ((i : ℕ) → i < c.count → low ≤ position_in c i → position_in c i < high → (p.from ≤ i) × (i < p.end))
    → IsPieceOf g block c p
piece_within_column g block col low high c p grid few column first block_col low_is high_is p_low p_place order under inside others =
    let is : (i : ℕ) → p.from ≤ i → i < p.end → IsWithin g block col low high (position_in c i) = λ i from lt. record {
      col_is = column.beside i (omega (arith, lt, under)) ∙ first;
      block_col = block_col;
      low_is = low_is;
      high_is = high_is;
      above = (inside i from lt).0;
      below = (inside i from lt).1;
    } in
    record {
      order = order;
      few = under;
      here = λ i from lt. within_block g block col low high (position_in c i) grid (is i from lt);
      low_is = λ i from lt. omega (arith, p_low, (inside i from lt).0);
      place_is = λ i from lt. within_place g block col low high (position_in c i) grid (is i from lt) ∙ place_same (col % g.bcols * block_height g block) low (position_in c i) p p_place p_low;
      others = λ i lt there.
          let within = block_within_column g block col low high (position_in c i) grid (column.inside i lt) (column.beside i lt ∙ first) there low_is high_is in
          others i lt within.above within.below;
    }

-- the column has nothing in the block
pub piece_beside : (g : Grid) (block col : ℕ) (c : Column) (p : Piece) → IsGrid g → IsColumnIn g c → col_of g c.first ≡ col → col / g.bcols ≢ col_of_block g block
    → p.from ≡ 0 → p.end ≡ 0 → IsPieceOf g block c p
piece_beside g block col c p grid column first other from end = record {
  order = omega (arith, from, end);
  few = omega (arith, end);
  here = λ i low lt. absurd (omega (arith, lt, end));
  low_is = λ i low lt. absurd (omega (arith, lt, end));
  place_is = λ i low lt. absurd (omega (arith, lt, end));
  others = λ i lt there.
      absurd (other (block_within_column g block col _ _ (position_in c i) grid (column.inside i lt) (column.beside i lt ∙ first) there refl refl).block_col);
}

-- a column between where the block's begin and end is one of them
pub col_here : (g : Grid) (block col : ℕ) → col_of_block g block * g.bcols ≤ col → col < col_of_block g block * g.bcols + g.bcols
    → (col / g.bcols ≡ col_of_block g block) × (col % g.bcols ≡ col - col_of_block g block * g.bcols)
col_here g block col low high =
    let r : ℕ = col - col_of_block g block * g.bcols in
    let is : col ≡ col_of_block g block * g.bcols + r = omega arith in
    let less : r < g.bcols = omega arith in (
      ap (λ (n : ℕ). n / g.bcols) is ∙ div-mul-add (col_of_block g block) g.bcols r less,
      ap (λ (n : ℕ). n % g.bcols) is ∙ mod-mul-add (col_of_block g block) g.bcols r less,
    )

-- and one before them or behind them isn't
pub col_elsewhere : (g : Grid) (block col : ℕ) → IsGrid g → (col < col_of_block g block * g.bcols) ⊎ (col_of_block g block * g.bcols + g.bcols ≤ col) → col / g.bcols ≢ col_of_block g block
col_elsewhere g block col grid apart same =
    let parts : col / g.bcols * g.bcols + col % g.bcols ≡ col = div-add-mod' col g.bcols in
    let here : col / g.bcols * g.bcols ≡ col_of_block g block * g.bcols = ap (λ (n : ℕ). n * g.bcols) same in
    let rest : col % g.bcols < g.bcols = mod_below col g.bcols grid.bcols in
    ⊎_elim
    (λ (low : col < col_of_block g block * g.bcols). absurd (omega (arith, parts, here, low)))
    (λ (high : col_of_block g block * g.bcols + g.bcols ≤ col). absurd (omega (arith, parts, here, rest, high)))
    apart

-- the columns of a block begin before the array's last
pub block_left : (g : Grid) (block : ℕ) → IsGrid g → block < block_count g → col_of_block g block * g.bcols < g.cols
block_left g block grid few = begins_col g block grid few

-- what the code that walks a piece has to know of it
pub has_places : (g : Grid) (block : ℕ) (c : Column) (p : Piece) (size : ℕ) → IsGrid g → IsColumnIn g c → IsPieceOf g block c p → size ≡ block_size g block
    → ((i k : ℕ) → i < k → k < c.count → position_in c i ≢ position_in c k) → HasPlaces c p size
has_places g block c p size grid column piece size_is apart = record {
  order = piece.order;
  few = piece.few;
  small = column.small;
  whole = column.whole;
  inside = λ i lt. omega (arith, column.inside i lt, grid.few);
  low_is = piece.low_is;
  within = λ i from lt.
      let less = in_block g (position_in c i) grid (column.inside i (omega (arith, lt, piece.few))) in
      let same = ap (block_size g) (piece.here i from lt) in
      omega (arith, less, same, size_is, piece.place_is i from lt);
  apart = λ i k from less lt e.
      let i_lt : i < p.end = omega (arith, less, lt) in
      let k_from : p.from ≤ k = omega (arith, less, from) in
      apart i k less (omega (arith, lt, piece.few))
      (sym (position_back g (position_in c i) grid (column.inside i (omega (arith, i_lt, piece.few))))
      ∙ same_place g (block_of g (position_in c i)) (block_of g (position_in c k)) (place_in g c i) (place_in g c k) (piece.here i from i_lt ∙ sym (piece.here k k_from lt)) (piece.place_is i from i_lt ∙ e ∙ sym (piece.place_is k k_from lt))
      ∙ position_back g (position_in c k) grid (column.inside k (omega (arith, lt, piece.few))));
}

-- a longer way has no fewer steps
pub steps_le : (a b step m n : ℕ) → ((i : ℕ) → (i < m) ↔ (i * step < a)) → ((i : ℕ) → (i < n) ↔ (i * step < b)) → a ≤ b → m ≤ n
steps_le a b step m n in_a in_b le = ⊎_elim
    (λ (less : n < m). let there : n * step < b = omega (arith, (in_a n).0 less, le) in absurd (omega (arith, (in_b n).1 there)))
    (λ (no : m ≤ n). no)
    (cases_lt n m)

-- a block begins below the rows of the array, and a column of the array not behind an element of it
pub block_top : (g : Grid) (block : ℕ) → IsGrid g → block < block_count g → row_of_block g block * g.brows < g.rows
block_top g block grid few = begins_row g block grid few

pub col_start : (p rows : ℕ) → p / rows * rows ≤ p
col_start p rows = omega (arith, div-add-mod' p rows)
