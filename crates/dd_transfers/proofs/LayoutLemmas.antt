-- What the walk of a region reads of an element's block, and where its mark stands.
use Rattle.std.proofs.Common.{◌≡◌, ℕ, ◌+◌, ◌-◌, ◌<◌, ◌≤◌, List, length, get_or, sym, ap, ◌∙◌, subst, arith}
use Rattle.std.proofs.lemmas.List.Elements.{All-get_or}
use Rattle.dd_blocks.specs.declared.array_row.ArrayRow.{ArrayRow}
use Rattle.dd_blocks.specs.declared.block_row.BlockRow.{BlockRow}
use Rattle.dd_blocks.specs.declared.plan.Plan.{Plan}
use Rattle.dd_blocks.specs.Charges.{block_with}
use Rattle.dd_blocks.specs.Grids.{block_count, block_of, element_count}
use Rattle.dd_blocks.specs.Layout.{IsLaidOut, elements_in}
use Rattle.dd_blocks.specs.Numbered.{IsNumberIn, array_row, block_row}
use Rattle.dd_blocks.specs.WellFormed.{IsWellFormed}
use Rattle.dd_blocks.proofs.LayoutLemmas.{elements_within, has_block}
use Rattle.dd_blocks.proofs.NumberedLemmas.{numbered-get}
use Rattle.dd_transfers.specs.Marks.{IsMarked}

-- the first home of a block is a space that marks have a bit for
pub home_marked : (plan : Plan) → IsWellFormed plan → (block : ℕ) → IsNumberIn plan.blocks block → IsMarked (block_row plan block).home
home_marked plan well block within =
    let none : BlockRow = record { array = 0; home = 0; size = 0 } in
    let e : get_or plan.blocks (block - 1) none ≡ block_row plan block = sym (numbered-get none plan.blocks block within.0) in
    let named = All-get_or (λ (b : BlockRow). IsNumberIn plan.arrays b.array × IsNumberIn plan.spaces b.home) plan.blocks (block - 1) none (omega arith) well.names.blocks in
    let home : IsNumberIn plan.spaces (block_row plan block).home = subst (λ (b : BlockRow). IsNumberIn plan.spaces b.home) e named.1 in
    (home.0, omega (arith, home.1, well.limits.spaces))

-- what is read of a block's row
pub record FindsHome (plan : Plan) (n position : ℕ) (blocks : List BlockRow) (place : ℕ) : Type 0 where
  pub within : place < length blocks
  pub home : (get_or blocks place (record { array = 0; home = 0; size = 0 })).home ≡ (block_row plan (block_with plan n position)).home
  pub marked : IsMarked (block_row plan (block_with plan n position)).home

pub finds_home : (plan : Plan) → IsWellFormed plan → (n position : ℕ) (row : ArrayRow) (first b : ℕ) (blocks : List BlockRow)
    → IsNumberIn plan.arrays n → row ≡ array_row plan n → first ≡ row.first_block → b ≡ block_of row.grid position → b < block_count row.grid
    → blocks ≡ plan.blocks → FindsHome plan n position blocks (first + b - 1)
finds_home plan well n position row first b blocks within is front e lt all =
    let here : b < block_count (array_row plan n).grid = subst (λ (r : ArrayRow). b < block_count r.grid) is lt in
    let has = has_block plan well.layout n b within here in
    let block : first + b ≡ block_with plan n position =
    ap (λ (i : ℕ). first + i) (e ∙ ap (λ (r : ArrayRow). block_of r.grid position) is)
    ∙ ap (λ (i : ℕ). i + block_of (array_row plan n).grid position) (front ∙ ap (λ (r : ArrayRow). r.first_block) is) in
    let same : first + b ≡ (array_row plan n).first_block + b = ap (λ (i : ℕ). i + b) (front ∙ ap (λ (r : ArrayRow). r.first_block) is) in
    let none : BlockRow = record { array = 0; home = 0; size = 0 } in
    let low : 1 ≤ first + b = omega (arith, has.low, same) in
    let high : first + b ≤ length plan.blocks = omega (arith, has.high, same) in
    let row_is : get_or blocks (first + b - 1) none ≡ block_row plan (block_with plan n position) =
    ap (λ (rows : List BlockRow). get_or rows (first + b - 1) none) all
    ∙ sym (numbered-get none plan.blocks (first + b) low)
    ∙ ap (λ (i : ℕ). block_row plan i) block in
    record {
      within = omega (arith, low, high, ap length all);
      home = ap (λ (r : BlockRow). r.home) row_is;
      marked = subst (λ (i : ℕ). IsMarked (block_row plan i).home) block (home_marked plan well (first + b) (low, high));
    }

-- the element at a position of an array stands within all elements
pub element_at : (plan : Plan) → IsLaidOut plan → (n position : ℕ) (row : ArrayRow) → IsNumberIn plan.arrays n → row ≡ array_row plan n
    → position < element_count (array_row plan n).grid → row.first_element + position < elements_in plan.arrays
element_at plan laid n position row within is lt =
    omega (arith, ap (λ (r : ArrayRow). r.first_element) is, elements_within plan laid n within)
