-- The sizes of all blocks together.
use Rattle.std.proofs.Common.{◌≡◌, ℕ, zero, suc, ◌+◌, ◌*◌, ◌/◌, ◌%◌, ◌<◌, ◌≤◌, min, map, sum, refl, ap, ◌∙◌, arith}
use Rattle.std.specs.List.{range_with_len}
use Rattle.std.specs.Int.{div_ceil}
use Rattle.std.proofs.lemmas.List.FromFn.{sum_by-map-range_with_len_more}
use Rattle.std.proofs.lemmas.Grind.{div_ceil_times}
use Rattle.std.proofs.lemmas.Nat.{div-mul-add, mod-mul-add}
use Rattle.dd_blocks.specs.declared.grid.Grid.{Grid}
use Rattle.dd_blocks.specs.Grids.{IsGrid, element_count, piece_len, block_rows, block_cols, block_count, block_size}

-- the sum of a function of the numbers below n
abbrev total : (ℕ → ℕ) → ℕ → ℕ
total f zero = 0
total f (suc n) = total f n + f n

sum_total : (f : ℕ → ℕ) (n : ℕ) → sum (map f (range_with_len 0 n)) ≡ total f n
sum_total f zero = refl
sum_total f (suc n) =
    let next : suc n ≡ n + 1 = omega arith in
    ap (λ (m : ℕ). sum (map f (range_with_len 0 m))) next
    ∙ sum_by-map-range_with_len_more (λ x. x) f 0 n n (omega arith)
    ∙ ap (λ (s : ℕ). s + f n) (sum_total f n)

-- the product of a function of the row and one of the column, at a number column by column
abbrev at_cell : (ℕ → ℕ) → (ℕ → ℕ) → ℕ → ℕ → ℕ
at_cell h w r n = h (n % r) * w (n / r)

some_rows : (h w : ℕ → ℕ) (r c k : ℕ) → k ≤ r → total (at_cell h w r) (c * r) ≡ total h r * total w c → total (at_cell h w r) (c * r + k) ≡ total h r * total w c + total h k * w c
some_rows h w r c zero le before = let e : c * r + 0 ≡ c * r = omega arith in rw e (omega (arith, before))
some_rows h w r c (suc k) le before =
    let next : c * r + suc k ≡ suc (c * r + k) = omega arith in
    let lt : k < r = omega arith in
    let row : h ((c * r + k) % r) ≡ h k = ap h (mod-mul-add c r k lt) in
    let col : w ((c * r + k) / r) ≡ w c = ap w (div-mul-add c r k lt) in
    rw (next, row, col) (omega (arith, some_rows h w r c k (omega arith) before))

all_columns : (h w : ℕ → ℕ) (r c : ℕ) → total (at_cell h w r) (c * r) ≡ total h r * total w c
all_columns h w r zero = let e : 0 * r ≡ 0 = omega arith in rw e (omega arith)
all_columns h w r (suc c) =
    let next : suc c * r ≡ c * r + r = omega arith in
    rw next (omega (arith, some_rows h w r c r (omega arith) (all_columns h w r c)))

-- the lengths of the first pieces
some_pieces : (n s k : ℕ) → total (piece_len n s) k ≡ min n (k * s)
some_pieces n s zero = omega arith
some_pieces n s (suc k) =
    let next : suc k * s ≡ k * s + s = omega arith in
    rw next (omega (arith, some_pieces n s k))

all_pieces : (n s : ℕ) → 1 ≤ s → total (piece_len n s) (div_ceil n s) ≡ n
all_pieces n s some = omega (arith, some_pieces n s (div_ceil n s), (div_ceil_times n s some).0)

pub sizes_sum : (g : Grid) → IsGrid g → sum (map (block_size g) (range_with_len 0 (block_count g))) ≡ element_count g
sizes_sum g grid =
    let turned : block_count g ≡ block_cols g * block_rows g = omega arith in
    let rows : total (piece_len g.rows g.brows) (block_rows g) ≡ g.rows = all_pieces g.rows g.brows grid.brows in
    let cols : total (piece_len g.cols g.bcols) (block_cols g) ≡ g.cols = all_pieces g.cols g.bcols grid.bcols in
    sum_total (block_size g) (block_count g)
    ∙ ap (total (block_size g)) turned
    ∙ all_columns (piece_len g.rows g.brows) (piece_len g.cols g.bcols) (block_rows g) (block_cols g)
    ∙ rw (rows, cols) refl
