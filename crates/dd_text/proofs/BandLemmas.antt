-- A band has the rows that it was gathered from.
use Rattle.std.proofs.Common.{◌≡◌, ℕ, zero, suc, ◌+◌, ◌-◌, ◌*◌, ◌<◌, ◌≤◌, min, ℤ, List, [], ◌∷◌, ◌++◌, length, take, drop, get_or, true, false, refl, sym, ap, ◌∙◌, ⊎_elim, arith}
use Rattle.std.specs.Prelude.{nat_lt}
use Rattle.std.specs.List.{flat_map, range_with_len, join_with_byte}
use Rattle.std.specs.Fmt.{signed_decimal}
use Rattle.std.proofs.Math.Nat.{mul-le-mul_right}
use Rattle.std.proofs.lemmas.Bool.{cases_Bool, ltb-true, ltb-false}
use Rattle.std.proofs.lemmas.Grind.{flat_map-append}
use Rattle.std.proofs.lemmas.List.{append-nil, get_or-drop, get_or-take, length-append, length-drop, length-take-le}
use Rattle.std.proofs.lemmas.List.Concat.{get_or-flat_map}
use Rattle.std.proofs.lemmas.List.FromFn.{get_or-range_with_len, length-range_with_len}
use Rattle.dd_kernels.specs.Lists.{element}
use Rattle.dd_views.proofs.ListsLemmas.{take-range_with_len}
use Rattle.dd_blocks.specs.declared.grid.Grid.{Grid}
use Rattle.dd_blocks.specs.Grids.{element_count}
use Rattle.dd_meaning.specs.Text.{printed_row, printed}
use Rattle.dd_text.specs.Bands.{band_of, column_part}
use Rattle.dd_lists.proofs.SumsLemmas.{range-add}
use Rattle.dd_lists.proofs.ListsLemmas.{same_map}

-- pieces of one length
length_pieces : (f : ℕ → List ℤ) (h a n : ℕ) → ((i : ℕ) → i < n → length (f (a + i)) ≡ h) → length (flat_map f (range_with_len a n)) ≡ n * h
length_pieces f h a zero each = omega arith
length_pieces f h a (suc n) each =
    let none : a + 0 ≡ a = omega arith in
    let here : length (f a) ≡ h = rw none at (each 0 (omega arith)) in
    let later = length_pieces f h (a + 1) n (λ i lt. let next : a + 1 + i ≡ a + suc i = omega arith in rw next (each (suc i) (omega arith))) in
    length-append (f a) (flat_map f (range_with_len (a + 1) n)) ∙ omega (arith, here, later)

-- what agrees place by place
flat_map_alike : (f g : ℕ → List ℕ) (a b n : ℕ) → ((i : ℕ) → i < n → f (a + i) ≡ g (b + i)) → flat_map f (range_with_len a n) ≡ flat_map g (range_with_len b n)
flat_map_alike f g a b zero same = refl
flat_map_alike f g a b (suc n) same =
    let none_a : a + 0 ≡ a = omega arith in
    let none_b : b + 0 ≡ b = omega arith in
    let head : f a ≡ g b = rw none_a at (rw none_b at (same 0 (omega arith))) in
    rw head (ap (λ xs. g b ++ xs) (flat_map_alike f g (a + 1) (b + 1) n (λ i lt.
    let next_a : a + 1 + i ≡ a + suc i = omega arith in
    let next_b : b + 1 + i ≡ b + suc i = omega arith in
    rw (next_a, next_b) (same (suc i) (omega arith)))))

-- rows of an array are there
pub record AreRows (grid : Grid) (values : List ℤ) (first height : ℕ) : Type 0 where
  pub within : first + height ≤ grid.rows
  pub filled : length values ≡ element_count grid

module _ (grid : Grid) (values : List ℤ) (first height : ℕ) (rows : AreRows grid values first height) where
  part_long : (j : ℕ) → j < grid.cols → length (column_part grid values first height j) ≡ height
  part_long j lt =
      let whole : (j + 1) * grid.rows ≤ grid.cols * grid.rows = mul-le-mul_right grid.rows (omega (arith, lt)) in
      let room : height ≤ length (drop (j * grid.rows + first) values) = omega (arith, length-drop (j * grid.rows + first) values, rows.within, rows.filled, whole) in
      length-take-le height (drop (j * grid.rows + first) values) room

  parts_long : (n : ℕ) → n ≤ grid.cols → length (flat_map (column_part grid values first height) (range_with_len 0 n)) ≡ n * height
  parts_long n few = length_pieces (column_part grid values first height) height 0 n (λ i lt. part_long (0 + i) (omega arith))

  pub band_long : length (band_of grid values first height) ≡ grid.cols * height
  band_long = parts_long grid.cols (omega arith)

  -- the number in row r and column j of the band
  band_element : (r j : ℕ) → r < height → j < grid.cols → element (band_of grid values first height) (j * height + r) ≡ element values (j * grid.rows + (first + r))
  band_element r j low lt =
      let parts : ℕ → List ℤ = column_part grid values first height in
      let before : length (flat_map parts (take j (range_with_len 0 grid.cols))) ≡ j * height = rw (take-range_with_len 0 grid.cols j (omega arith)) (parts_long j (omega arith)) in
      let there : get_or (range_with_len 0 grid.cols) j 0 ≡ j = get_or-range_with_len 0 grid.cols j 0 lt ∙ omega arith in
      let room : r < length (parts (get_or (range_with_len 0 grid.cols) j 0)) = rw there (omega (arith, part_long j lt)) in
      ap (λ (p : ℕ). element (band_of grid values first height) (p + r)) (sym before)
      ∙ get_or-flat_map parts (range_with_len 0 grid.cols) j r 0 _ (omega (arith, length-range_with_len 0 grid.cols)) room
      ∙ ap (λ (i : ℕ). element (parts i) r) there
      ∙ get_or-take height (drop (j * grid.rows + first) values) r _ low
      ∙ get_or-drop (j * grid.rows + first) values r _
      ∙ ap (element values) (omega arith)

  abbrev part : Grid
  part = record { rows = height; cols = grid.cols; brows = grid.brows; bcols = grid.bcols }

  row_alike : (r : ℕ) → r < height → printed_row part (band_of grid values first height) (0 + r) ≡ printed_row grid values (first + r)
  row_alike r low =
      let zero_r : 0 + r ≡ r = omega arith in
      rw zero_r (ap (λ (numbers : List (List ℕ)). join_with_byte 32 numbers ++ 10 ∷ []) (same_map (λ j. signed_decimal (element (band_of grid values first height) (j * height + r))) (λ j. signed_decimal (element values (j * grid.rows + (first + r)))) 0 0 grid.cols (λ j lt. ap signed_decimal (band_element r (0 + j) low (omega arith)))))

  pub band_printed : printed part (band_of grid values first height) ≡ flat_map (printed_row grid values) (range_with_len first height)
  band_printed = flat_map_alike (printed_row part (band_of grid values first height)) (printed_row grid values) 0 first height row_alike

-- the next rows of those that are left
pub next_band : (f : ℕ → List ℕ) (i h n : ℕ) → flat_map f (range_with_len i (n - i)) ≡ flat_map f (range_with_len i (min h (n - i))) ++ flat_map f (range_with_len (i + h) (n - (i + h)))
next_band f i h n = ⊎_elim
    (λ (last : nat_lt (n - i) h ≡ true).
    let less : n - i < h = ltb-true (n - i) h last in
    let all : min h (n - i) ≡ n - i = omega arith in
    let rest : n - (i + h) ≡ 0 = omega arith in
    rw (all, rest) (sym (append-nil (flat_map f (range_with_len i (n - i))))))
    (λ (more : nat_lt (n - i) h ≡ false).
    let room : h ≤ n - i = ltb-false (n - i) h more in
    let some : min h (n - i) ≡ h = omega arith in
    let whole : n - i ≡ h + (n - (i + h)) = omega arith in
    ap (λ (k : ℕ). flat_map f (range_with_len i k)) whole
    ∙ ap (flat_map f) (range-add i h (n - (i + h)))
    ∙ flat_map-append f (range_with_len i h) (range_with_len (i + h) (n - (i + h)))
    ∙ ap (λ (k : ℕ). flat_map f (range_with_len i k) ++ flat_map f (range_with_len (i + h) (n - (i + h)))) (sym some))
    (cases_Bool (nat_lt (n - i) h))
