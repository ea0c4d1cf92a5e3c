-- The blocks that stand beside each other have the rows of a band: their columns, one block after another.
use Rattle.std.proofs.Common.{◌≡◌, ℕ, zero, suc, ◌+◌, ◌-◌, ◌*◌, ◌/◌, ◌%◌, ◌<◌, ◌≤◌, min, ℤ, List, [], ◌++◌, length, map, take, drop, refl, ap, sym, ◌∙◌, append-nil, arith}
use Rattle.std.specs.Prelude.{Contains}
use Rattle.std.specs.List.{flat_map, range_with_len}
use Rattle.std.proofs.lemmas.Grind.{div_ceil_times, flat_map-append}
use Rattle.std.proofs.lemmas.List.{get_or-drop, get_or-take, length-drop, length-take-le, map-append}
use Rattle.std.proofs.lemmas.List.FromFn.{get_or-map-range_with_len, length-map-range_with_len}
use Rattle.std.proofs.lemmas.Nat.{div-mul-add, mod-mul-add, mul-add-lt, mul-le}
use Rattle.dd_blocks.specs.declared.grid.Grid.{Grid}
use Rattle.dd_blocks.specs.declared.plan.Plan.{Plan}
use Rattle.dd_blocks.specs.Grids.{IsGrid, block_cols, block_count, block_height, block_rows, block_size, block_width, col_of_block, element_count, piece_len, pos_of, row_of_block}
use Rattle.dd_blocks.specs.Numbered.{IsNumberIn, array_row, block_row}
use Rattle.dd_blocks.specs.WellFormed.{IsWellFormed}
use Rattle.dd_blocks.proofs.LayoutLemmas.{grid_stands, has_block}
use Rattle.dd_blocks.proofs.PiecesLemmas.{begins_within}
use Rattle.dd_lists.proofs.ListsLemmas.{same_map}
use Rattle.dd_lists.proofs.SumsLemmas.{range-add}
use Rattle.dd_machine.specs.Owed.{blocks_of}
use Rattle.dd_machine.specs.States.{State}
use Rattle.dd_machine.specs.Words.{IsOneOf, blocks}
use Rattle.dd_pool.proofs.PlanLemmas.{few_blocks}
use Rattle.dd_print.specs.Asks.{block_at}
use Rattle.dd_print.specs.Bands.{band_height, band_values}
use Rattle.dd_print.specs.Held.{block_values, values_now}
use Rattle.dd_print.proofs.BlocksLemmas.{block_listed, value_of}
use Rattle.dd_print.proofs.HeldLemmas.{listed}
use Rattle.dd_views.proofs.ListsLemmas.{range_has}

-- lists that are made of as many lists, one after another
flat_more : {X : Type 0} (f : ℕ → List X) (a m n : ℕ) → flat_map f (range_with_len a (m + n)) ≡ flat_map f (range_with_len a m) ++ flat_map f (range_with_len (a + m) n)
flat_more f a m n = ap (flat_map f) (range-add a m n) ∙ flat_map-append f (range_with_len a m) (range_with_len (a + m) n)

flat_shift : {X : Type 0} (f : ℕ → List X) (a b n : ℕ) → flat_map (λ c. f (a + c)) (range_with_len b n) ≡ flat_map f (range_with_len (a + b) n)
flat_shift f a b zero = refl
flat_shift f a b (suc n) = ap (λ l. f (a + b) ++ l) (flat_shift f a (b + 1) n ∙ ap (λ (k : ℕ). flat_map f (range_with_len k n)) (let e : a + (b + 1) ≡ a + b + 1 = omega arith in e))

flat_same : {X : Type 0} (f g : ℕ → List X) (a n : ℕ) → ((i : ℕ) → i < a + n → f i ≡ g i) → flat_map f (range_with_len a n) ≡ flat_map g (range_with_len a n)
flat_same f g a zero same = refl
flat_same f g a (suc n) same =
    ap (λ l. l ++ flat_map f (range_with_len (a + 1) n)) (same a (omega arith))
    ∙ ap (λ l. g a ++ l) (flat_same f g (a + 1) n (λ i lt. same i (omega (arith, lt))))

-- a list by columns
by_columns : (f : ℕ → ℕ → ℤ) (h w : ℕ) → map (λ k. f (k / h) (k % h)) (range_with_len 0 (w * h)) ≡ flat_map (λ c. map (f c) (range_with_len 0 h)) (range_with_len 0 w)
by_columns f h zero = ap (λ (n : ℕ). map (λ k. f (k / h) (k % h)) (range_with_len 0 n)) (let e : 0 * h ≡ 0 = omega arith in e)
by_columns f h (suc w) =
    let at : ℕ → ℤ = λ k. f (k / h) (k % h) in
    let column : ℕ → List ℤ = λ c. map (f c) (range_with_len 0 h) in
    let more : suc w * h ≡ w * h + h = omega arith in
    let one : suc w ≡ w + 1 = omega arith in
    ap (λ (n : ℕ). map at (range_with_len 0 n)) more
    ∙ ap (map at) (range-add 0 (w * h) h)
    ∙ map-append at (range_with_len 0 (w * h)) (range_with_len (0 + w * h) h)
    ∙ ap (λ (l : List ℤ). l ++ map at (range_with_len (0 + w * h) h)) (by_columns f h w)
    ∙ ap (λ (l : List ℤ). flat_map column (range_with_len 0 w) ++ l)
    (same_map at (f w) (0 + w * h) 0 h (λ r lt.
    let zero_r : 0 + r ≡ r = omega arith in
    let place : (0 + w * h) + r ≡ w * h + r = omega arith in
    ap at place ∙ ap (λ (q : ℕ). f q ((w * h + r) % h)) (div-mul-add w h r lt) ∙ ap (f w) (mod-mul-add w h r lt ∙ sym zero_r))
    ∙ sym (append-nil (column w)))
    ∙ ap (λ (k : ℕ). flat_map column (range_with_len 0 w) ++ flat_map column (range_with_len k 1)) (let e : w ≡ 0 + w = omega arith in e)
    ∙ sym (flat_more column 0 w 1)
    ∙ ap (λ (n : ℕ). flat_map column (range_with_len 0 n)) (sym one)

-- so many rows of column c from row `first` on
abbrev pub part_of : (ℕ → ℤ) → ℕ → ℕ → ℕ → ℕ → List ℤ
part_of v rows first h c = map (λ r. v (c * rows + (first + r))) (range_with_len 0 h)

-- a block by its columns
block_columns : (v : ℕ → ℤ) (g : Grid) (b i j h w : ℕ) → row_of_block g b ≡ i → col_of_block g b ≡ j → block_height g b ≡ h → block_width g b ≡ w
    → map (λ k. v (pos_of g b k)) (range_with_len 0 (block_size g b)) ≡ flat_map (part_of v g.rows (i * g.brows) h) (range_with_len (j * g.bcols) w)
block_columns v g b i j h w row col high wide =
    let f : ℕ → ℕ → ℤ = λ c r. v ((j * g.bcols + c) * g.rows + (i * g.brows + r)) in
    let first : j * g.bcols + 0 ≡ j * g.bcols = omega arith in
    let long : block_size g b ≡ w * h = ap (λ (x : ℕ). x * block_width g b) high ∙ ap (λ (x : ℕ). h * x) wide ∙ omega arith in
    let places : (k : ℕ) → v (pos_of g b k) ≡ f (k / h) (k % h) = λ k.
    ap (λ (x : ℕ). v ((x * g.bcols + k / block_height g b) * g.rows + (row_of_block g b * g.brows + k % block_height g b))) col
    ∙ ap (λ (x : ℕ). v ((j * g.bcols + k / block_height g b) * g.rows + (x * g.brows + k % block_height g b))) row
    ∙ ap (λ (x : ℕ). v ((j * g.bcols + k / x) * g.rows + (i * g.brows + k % x))) high in
    same_map (λ k. v (pos_of g b k)) (λ k. f (k / h) (k % h)) 0 0 (block_size g b) (λ k lt. places (0 + k))
    ∙ ap (λ (n : ℕ). map (λ k. f (k / h) (k % h)) (range_with_len 0 n)) long
    ∙ by_columns f h w
    ∙ flat_shift (part_of v g.rows (i * g.brows) h) (j * g.bcols) 0 w
    ∙ ap (λ (n : ℕ). flat_map (part_of v g.rows (i * g.brows) h) (range_with_len n w)) first

-- how many columns the first blocks of a row have
abbrev pub columns_to : Grid → ℕ → ℕ
columns_to g j = min g.cols (j * g.bcols)

columns_more : (g : Grid) (j : ℕ) → IsGrid g → j < block_cols g → (columns_to g j ≡ j * g.bcols) × (columns_to g (j + 1) ≡ columns_to g j + piece_len g.cols g.bcols j)
columns_more g j grid lt =
    let begins = begins_within g.cols g.bcols j grid.bcols lt in
    let next : (j + 1) * g.bcols ≡ j * g.bcols + g.bcols = omega arith in
    (omega (arith, begins), omega (arith, begins, next))

pub columns_all : (g : Grid) → IsGrid g → columns_to g (block_cols g) ≡ g.cols
columns_all g grid = let times = div_ceil_times g.cols g.bcols grid.bcols in omega (arith, times.0)

-- the block in row i and column j of the blocks
pub at_block : (g : Grid) (i j : ℕ) → i < block_rows g → j < block_cols g → j * block_rows g + i < block_count g
at_block g i j row col = let h = mul-add-lt j (block_rows g) i (block_cols g) col row in h

-- its number
pub block_is : (plan : Plan) (array i j first below : ℕ) → first ≡ (array_row plan array).first_block → below ≡ block_rows (array_row plan array).grid → first + j * below + i ≡ block_at plan array i j
block_is plan array i j first below first_is below_is =
    ap (λ (f : ℕ). f + j * below + i) first_is ∙ ap (λ (b : ℕ). (array_row plan array).first_block + j * b + i) below_is ∙ omega arith

-- it is one of few
pub record IsBlockAt (plan : Plan) (array block : ℕ) : Type 0 where
  pub is : IsOneOf (blocks plan) block
  pub few : block ≤ 4096
  pub listed : Contains (blocks_of plan array) block

pub block_known : (plan : Plan) (array i j : ℕ) → IsWellFormed plan → IsNumberIn plan.arrays array → i < block_rows (array_row plan array).grid → j < block_cols (array_row plan array).grid → IsBlockAt plan array (block_at plan array i j)
block_known plan array i j well is row col =
    let g = (array_row plan array).grid in
    let lt = at_block g i j row col in
    let has = has_block plan well.layout array (j * block_rows g + i) is lt in
    let high = has.high in
    let few = few_blocks plan well in
    record {
      is = (has.low, has.high);
      few = omega (arith, high, few);
      listed = range_has (array_row plan array).first_block (block_count g) (block_at plan array i j) (omega arith) (omega (arith, lt));
    }

-- the part of a band that the first blocks of its row have
abbrev pub band_to : Plan → State → ℕ → ℕ → ℕ → List ℤ
band_to plan st array i j =
    flat_map (part_of (value_of plan st array) (array_row plan array).grid.rows (i * (array_row plan array).grid.brows) (band_height (array_row plan array).grid i)) (range_with_len 0 (columns_to (array_row plan array).grid j))

pub band_more : (plan : Plan) (st : State) (array i j : ℕ) → IsWellFormed plan → IsNumberIn plan.arrays array → i < block_rows (array_row plan array).grid → j < block_cols (array_row plan array).grid
    → band_to plan st array i j ++ block_values plan st (block_at plan array i j) ≡ band_to plan st array i (j + 1)
band_more plan st array i j well is row col =
    let g = (array_row plan array).grid in
    let grid = grid_stands plan well.layout array is in
    let part = part_of (value_of plan st array) g.rows (i * g.brows) (band_height g i) in
    let b = j * block_rows g + i in
    let row_is : row_of_block g b ≡ i = mod-mul-add j (block_rows g) i row in
    let col_is : col_of_block g b ≡ j = div-mul-add j (block_rows g) i row in
    let next = columns_more g j grid col in
    let first = next.0 in
    ap (λ (l : List ℤ). flat_map part (range_with_len 0 (columns_to g j)) ++ l)
    (block_listed plan st array b well is (at_block g i j row col)
    ∙ block_columns (value_of plan st array) g b i j (band_height g i) (piece_len g.cols g.bcols j) row_is col_is (ap (piece_len g.rows g.brows) row_is) (ap (piece_len g.cols g.bcols) col_is)
    ∙ ap (λ (n : ℕ). flat_map part (range_with_len n (piece_len g.cols g.bcols j))) (let e : j * g.bcols ≡ 0 + columns_to g j = omega (arith, first) in e))
    ∙ sym (flat_more part 0 (columns_to g j) (piece_len g.cols g.bcols j))
    ∙ ap (λ (n : ℕ). flat_map part (range_with_len 0 n)) (sym next.1)

pub band_none : (plan : Plan) (st : State) (array i : ℕ) → band_to plan st array i 0 ≡ []
band_none plan st array i =
    let g = (array_row plan array).grid in
    let none : columns_to g 0 ≡ 0 = omega arith in
    ap (λ (n : ℕ). flat_map (part_of (value_of plan st array) g.rows (i * g.brows) (band_height g i)) (range_with_len 0 n)) none

-- how many values it has
pub long_none : (g : Grid) (i : ℕ) → 0 ≡ columns_to g 0 * band_height g i
long_none g i = let none : columns_to g 0 ≡ 0 = omega arith in let zero_is : 0 ≡ 0 * band_height g i = omega arith in zero_is ∙ sym (ap (λ (n : ℕ). n * band_height g i) none)

pub long_more : (plan : Plan) (array i j n : ℕ) → IsWellFormed plan → IsNumberIn plan.arrays array → i < block_rows (array_row plan array).grid → j < block_cols (array_row plan array).grid
    → n ≡ columns_to (array_row plan array).grid j * band_height (array_row plan array).grid i
    → n + (block_row plan (block_at plan array i j)).size ≡ columns_to (array_row plan array).grid (j + 1) * band_height (array_row plan array).grid i
long_more plan array i j n well is row col so_far =
    let g = (array_row plan array).grid in
    let grid = grid_stands plan well.layout array is in
    let h = band_height g i in
    let w = piece_len g.cols g.bcols j in
    let b = j * block_rows g + i in
    let has = has_block plan well.layout array b is (at_block g i j row col) in
    let back : ((array_row plan array).first_block + b) - (array_row plan array).first_block ≡ b = omega arith in
    let row_is : row_of_block g b ≡ i = mod-mul-add j (block_rows g) i row in
    let col_is : col_of_block g b ≡ j = div-mul-add j (block_rows g) i row in
    let size : (block_row plan (block_at plan array i j)).size ≡ h * w =
    has.size ∙ ap (block_size g) back ∙ ap (λ (x : ℕ). piece_len g.rows g.brows x * block_width g b) row_is ∙ ap (λ (x : ℕ). h * piece_len g.cols g.bcols x) col_is in
    let next = (columns_more g j grid col).1 in
    let split : (columns_to g j + w) * h ≡ columns_to g j * h + h * w = omega arith in
    omega (arith, so_far, size, split, ap (λ (x : ℕ). x * h) next)

pub long_all : (g : Grid) (i n : ℕ) → IsGrid g → n ≡ columns_to g (block_cols g) * band_height g i → n ≡ band_height g i * g.cols
long_all g i n grid is = is ∙ ap (λ (x : ℕ). x * band_height g i) (columns_all g grid) ∙ omega arith

-- all of a band
pub band_all : (plan : Plan) (st : State) (array i : ℕ) → IsWellFormed plan → IsNumberIn plan.arrays array → i < block_rows (array_row plan array).grid
    → band_to plan st array i (block_cols (array_row plan array).grid) ≡ band_values (array_row plan array).grid i (values_now plan st array)
band_all plan st array i well is row =
    let g = (array_row plan array).grid in
    let grid = grid_stands plan well.layout array is in
    let v = value_of plan st array in
    let count = element_count g in
    let values = values_now plan st array in
    let h = band_height g i in
    let first = i * g.brows in
    let begins = begins_within g.rows g.brows i grid.brows row in
    let long : length values ≡ count = length-map-range_with_len v 0 count in
    ap (λ (n : ℕ). flat_map (part_of v g.rows first h) (range_with_len 0 n)) (columns_all g grid)
    ∙ flat_same (part_of v g.rows first h) (λ c. take h (drop (c * g.rows + first) values)) 0 g.cols (λ c lt.
    let whole : (c + 1) * g.rows ≤ g.cols * g.rows = mul-le (c + 1) g.rows g.cols g.rows (omega (arith, lt)) (omega arith) in
    let room : h ≤ length (drop (c * g.rows + first) values) = omega (arith, length-drop (c * g.rows + first) values, begins, long, whole) in
    sym (listed (λ r. v (c * g.rows + (first + r))) (take h (drop (c * g.rows + first) values)) h (length-take-le h (drop (c * g.rows + first) values) room) (λ r r_lt.
    get_or-take h (drop (c * g.rows + first) values) r _ r_lt
    ∙ get_or-drop (c * g.rows + first) values r _
    ∙ get_or-map-range_with_len v 0 count (c * g.rows + first + r) (c * g.rows + (first + r)) _ (omega (arith, begins, whole, r_lt)) (omega arith))))
