-- Where the elements and the blocks of an array stand among those of all arrays.
use Rattle.std.proofs.Common.{◌≡◌, ℕ, zero, suc, ◌+◌, ◌-◌, ◌<◌, ◌≤◌, List, length, get_or, take, refl, sym, ap, ◌∙◌, subst, arith, add-one}
use Rattle.std.specs.List.{flat_map, range_with_len, sum_by}
use Rattle.std.proofs.lemmas.List.{take_all}
use Rattle.std.proofs.lemmas.List.Concat.{get_or-flat_map, length-flat_map}
use Rattle.std.proofs.lemmas.List.Folds.{length-flat_map-take}
use Rattle.std.proofs.lemmas.List.FromFn.{get_or-range_with_len, length-map-range_with_len, length-range_with_len, get_or-map-range_with_len}
use Rattle.std.proofs.lemmas.List.Sums.{sum_by_more, sum_by_more_le}
use Rattle.dd_lists.proofs.ListsLemmas.{IsPart, part_of}
use Rattle.dd_blocks.specs.declared.array_row.ArrayRow.{ArrayRow}
use Rattle.dd_blocks.specs.declared.block_row.BlockRow.{BlockRow}
use Rattle.dd_blocks.specs.declared.plan.Plan.{Plan}
use Rattle.dd_blocks.specs.Grids.{IsGrid, block_count, block_size, element_count}
use Rattle.dd_blocks.specs.Layout.{IsLaidOut, StandsBehind, blocks_in, blocks_of_array, elements_in, first_home}
use Rattle.dd_blocks.specs.Numbered.{IsNumberIn, array_row, block_row, no_array, numbered}
use Rattle.dd_blocks.proofs.NumberedLemmas.{numbered-get}

pub stands : (plan : Plan) → IsLaidOut plan → (n : ℕ) → IsNumberIn plan.arrays n → StandsBehind (take (n - 1) plan.arrays) (array_row plan n)
stands plan laid n within =
    let e : n - 1 + 1 ≡ n = omega arith in
    subst (λ (m : ℕ). StandsBehind (take (n - 1) plan.arrays) (numbered no_array plan.arrays m)) e (laid.arrays (n - 1) (omega arith))

-- the elements of an array stand within those of all
pub elements_within : (plan : Plan) → IsLaidOut plan → (n : ℕ) → IsNumberIn plan.arrays n
    → (array_row plan n).first_element + element_count (array_row plan n).grid ≤ elements_in plan.arrays
elements_within plan laid n within =
    let more = sum_by_more_le (λ (a : ArrayRow). element_count a.grid) plan.arrays (n - 1) no_array (omega arith) in
    let row = numbered-get no_array plan.arrays n within.0 in
    let first = (stands plan laid n within).first_element in
    omega (arith, more, first, ap (λ (a : ArrayRow). element_count a.grid) row)

-- and its blocks within all blocks
pub blocks_within : (plan : Plan) → IsLaidOut plan → (n : ℕ) → IsNumberIn plan.arrays n
    → (array_row plan n).first_block + block_count (array_row plan n).grid ≤ blocks_in plan.arrays + 1
blocks_within plan laid n within =
    let more = sum_by_more_le (λ (a : ArrayRow). block_count a.grid) plan.arrays (n - 1) no_array (omega arith) in
    let row = numbered-get no_array plan.arrays n within.0 in
    let first = (stands plan laid n within).first_block in
    omega (arith, more, first, ap (λ (a : ArrayRow). block_count a.grid) row)

abbrev blocks_by_number : ℕ → List ArrayRow → ℕ → List BlockRow
blocks_by_number spaces arrays n = blocks_of_array spaces n (numbered no_array arrays n)

length_blocks : (spaces n : ℕ) (array : ArrayRow) → length (blocks_of_array spaces n array) ≡ block_count array.grid
length_blocks spaces n array =
    length-map-range_with_len (λ i. let row : BlockRow = record { array = n; home = first_home spaces (array.first_block + i); size = block_size array.grid i } in row) 0 (block_count array.grid)

-- so many blocks the first arrays have
blocks_before : (spaces : ℕ) (arrays : List ArrayRow) (i : ℕ) → i ≤ length arrays
    → sum_by (λ n. length (blocks_by_number spaces arrays n)) (take i (range_with_len 1 (length arrays))) ≡ blocks_in (take i arrays)
blocks_before spaces arrays zero le = refl
blocks_before spaces arrays (suc i) le =
    let lt : i < length arrays = omega arith in
    let before = blocks_before spaces arrays i (omega arith) in
    let numbers = sum_by_more (λ n. length (blocks_by_number spaces arrays n)) (range_with_len 1 (length arrays)) i 0 (omega (arith, length-range_with_len 1 (length arrays))) in
    let rows = sum_by_more (λ (a : ArrayRow). block_count a.grid) arrays i no_array lt in
    let number : get_or (range_with_len 1 (length arrays)) i 0 ≡ suc i = get_or-range_with_len 1 (length arrays) i 0 lt ∙ omega arith in
    let one = ap (λ n. length (blocks_by_number spaces arrays n)) number ∙ length_blocks spaces (suc i) (get_or arrays i no_array) in
    rw (← add-one i) (omega (arith, numbers, rows, before, one))

-- the block of a position of an array: it is one of all blocks, and of this array
pub record HasBlock (plan : Plan) (n block : ℕ) : Type 0 where
  pub low : 1 ≤ block
  pub high : block ≤ length plan.blocks
  pub few : block ≤ blocks_in plan.arrays
  pub array : (block_row plan block).array ≡ n
  pub home : (block_row plan block).home ≡ first_home (length plan.spaces) block
  pub size : (block_row plan block).size ≡ block_size (array_row plan n).grid (block - (array_row plan n).first_block)

pub has_block : (plan : Plan) → IsLaidOut plan → (n b : ℕ) → IsNumberIn plan.arrays n → b < block_count (array_row plan n).grid
    → HasBlock plan n ((array_row plan n).first_block + b)
has_block plan laid n b within lt =
    let f = blocks_by_number (length plan.spaces) plan.arrays in
    let numbers = range_with_len 1 (length plan.arrays) in
    let at : get_or numbers (n - 1) 0 ≡ n = get_or-range_with_len 1 (length plan.arrays) (n - 1) 0 (omega arith) ∙ omega arith in
    let many : length numbers ≡ length plan.arrays = length-range_with_len 1 (length plan.arrays) in
    let inside : n - 1 < length numbers = omega arith in
    let here : length (f (get_or numbers (n - 1) 0)) ≡ block_count (array_row plan n).grid = ap (λ m. length (f m)) at ∙ length_blocks (length plan.spaces) n (array_row plan n) in
    let before : length (flat_map f (take (n - 1) numbers)) ≡ blocks_in (take (n - 1) plan.arrays) =
    length-flat_map f (take (n - 1) numbers) ∙ blocks_before (length plan.spaces) plan.arrays (n - 1) (omega arith) in
    let first : (array_row plan n).first_block ≡ blocks_in (take (n - 1) plan.arrays) + 1 = (stands plan laid n within).first_block in
    let all = length-flat_map-take f numbers (n - 1) 0 inside in
    let none : BlockRow = record { array = 0; home = 0; size = 0 } in
    let block : ℕ = (array_row plan n).first_block + b in
    let place : block - 1 ≡ length (flat_map f (take (n - 1) numbers)) + b = omega arith in
    let found : get_or (flat_map f numbers) (length (flat_map f (take (n - 1) numbers)) + b) none ≡ get_or (f (get_or numbers (n - 1) 0)) b none =
    get_or-flat_map f numbers (n - 1) b 0 none inside (omega arith) in
    let row : block_row plan block ≡ get_or (f n) b none =
    numbered-get none plan.blocks block (omega arith)
    ∙ ap (λ (rows : List BlockRow). get_or rows (block - 1) none) laid.blocks
    ∙ ap (λ (i : ℕ). get_or (flat_map f numbers) i none) place
    ∙ found
    ∙ ap (λ m. get_or (f m) b none) at in
    let is : get_or (f n) b none ≡ record { array = n; home = first_home (length plan.spaces) ((array_row plan n).first_block + b); size = block_size (array_row plan n).grid b } =
    get_or-map-range_with_len (λ i. let row : BlockRow = record { array = n; home = first_home (length plan.spaces) ((array_row plan n).first_block + i); size = block_size (array_row plan n).grid i } in row) 0 (block_count (array_row plan n).grid) b b none lt (omega arith) in
    record {
      low = omega arith;
      high = omega (arith, ap length laid.blocks);
      few = omega (arith, blocks_within plan laid n within);
      array = ap (λ (r : BlockRow). r.array) (row ∙ is);
      home = ap (λ (r : BlockRow). r.home) (row ∙ is);
      size = ap (λ (r : BlockRow). r.size) (row ∙ is) ∙ ap (block_size (array_row plan n).grid) (let e : b ≡ block - (array_row plan n).first_block = omega arith in e);
    }

pub grid_stands : (plan : Plan) → IsLaidOut plan → (n : ℕ) → IsNumberIn plan.arrays n → IsGrid (array_row plan n).grid
grid_stands plan laid n within = (stands plan laid n within).grid

-- all blocks are those of the arrays
pub all_blocks : (plan : Plan) → IsLaidOut plan → length plan.blocks ≡ blocks_in plan.arrays
all_blocks plan laid =
    let f = blocks_by_number (length plan.spaces) plan.arrays in
    let numbers = range_with_len 1 (length plan.arrays) in
    let many : length numbers ≡ length plan.arrays = length-range_with_len 1 (length plan.arrays) in
    ap length laid.blocks
    ∙ length-flat_map f numbers
    ∙ ap (sum_by (λ n. length (f n))) (sym (take_all (length plan.arrays) numbers (omega (arith, many))))
    ∙ blocks_before (length plan.spaces) plan.arrays (length plan.arrays) (omega arith)
    ∙ ap blocks_in (take_all (length plan.arrays) plan.arrays (omega arith))

-- where a block of an array stands among the array's blocks
pub record StandsIn (plan : Plan) (block n : ℕ) : Type 0 where
  pub array : IsNumberIn plan.arrays n
  pub grid : IsGrid (array_row plan n).grid
  pub low : (array_row plan n).first_block ≤ block
  pub high : block - (array_row plan n).first_block < block_count (array_row plan n).grid
  pub size : (block_row plan block).size ≡ block_size (array_row plan n).grid (block - (array_row plan n).first_block)

-- each block stands in the array that its row names
pub block_stands : (plan : Plan) → IsLaidOut plan → (block : ℕ) → IsNumberIn plan.blocks block → StandsIn plan block (block_row plan block).array
block_stands plan laid block within =
    let f = blocks_by_number (length plan.spaces) plan.arrays in
    let numbers = range_with_len 1 (length plan.arrays) in
    let many : length numbers ≡ length plan.arrays = length-range_with_len 1 (length plan.arrays) in
    let part : IsPart f numbers 0 (block - 1) = part_of f numbers 0 (block - 1) (omega (arith, within, ap length laid.blocks)) in
    let i : ℕ = part.part in
    let n : ℕ = suc i in
    let at : get_or numbers i 0 ≡ n = get_or-range_with_len 1 (length plan.arrays) i 0 (omega (arith, part.is_part, many)) ∙ omega arith in
    let is_n : IsNumberIn plan.arrays n = (omega arith, omega (arith, part.is_part, many)) in
    let few : part.place < block_count (array_row plan n).grid = omega (arith, part.is_place, ap (λ m. length (f m)) at, length_blocks (length plan.spaces) n (array_row plan n)) in
    let before : length (flat_map f (take i numbers)) ≡ blocks_in (take i plan.arrays) = length-flat_map f (take i numbers) ∙ blocks_before (length plan.spaces) plan.arrays i (omega (arith, part.is_part, many)) in
    let stand = stands plan laid n is_n in
    let back : n - 1 ≡ i = omega arith in
    let front = ap (λ (k : ℕ). blocks_in (take k plan.arrays)) back in
    let is : (array_row plan n).first_block + part.place ≡ block = omega (arith, part.is, before, stand.first_block, front, within.0) in
    let has : HasBlock plan n block = subst (HasBlock plan n) is (has_block plan laid n part.place is_n few) in
    subst (StandsIn plan block) (sym has.array) (record {
      array = is_n;
      grid = stand.grid;
      low = omega (arith, is);
      high = omega (arith, is, few);
      size = has.size;
    })
