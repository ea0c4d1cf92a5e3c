-- The blocks of a Plan that is well formed are few and small.
use Rattle.std.proofs.Common.{◌≡◌, ℕ, zero, suc, ◌+◌, ◌-◌, ◌*◌, ◌^◌, ◌<◌, ◌≤◌, [], length, get_or, sym, ap, subst, arith}
use Rattle.std.specs.List.{range_with_len, sum_by}
use Rattle.std.proofs.lemmas.List.Sums.{sum_by-cons}
use Rattle.std.proofs.Math.Nat.{mul-le-mul_right}
use Rattle.dd_blocks.specs.declared.block_row.BlockRow.{BlockRow}
use Rattle.dd_blocks.specs.declared.plan.Plan.{Plan}
use Rattle.dd_blocks.specs.Numbered.{IsNumberIn, block_row}
use Rattle.dd_blocks.specs.WellFormed.{FitsHomes, IsWellFormed}
use Rattle.dd_blocks.proofs.LayoutLemmas.{all_blocks}
use Rattle.dd_blocks.proofs.NumberedLemmas.{numbered-get}
use Rattle.dd_stamps.specs.Cells.{size_of}
use Rattle.dd_pool.specs.Places.{bytes_of_blocks, cell_count}
use Rattle.dd_pool.proofs.HeldLemmas.{sum_le}

pub few_blocks : (plan : Plan) → IsWellFormed plan → length plan.blocks ≤ 4096
few_blocks plan well = omega (arith, all_blocks plan well.layout, well.limits.blocks)

pub few_cells : (plan : Plan) → IsWellFormed plan → cell_count plan < 2 ^ 63
few_cells plan well =
    let rows : length plan.spaces * length plan.blocks ≤ 8 * length plan.blocks = mul-le-mul_right (length plan.blocks) well.limits.spaces in
    omega (arith, rows, few_blocks plan well)

-- a block is small, since it fits its home
small_block : (plan : Plan) → IsWellFormed plan → (b : ℕ) → IsNumberIn plan.blocks b → 8 * size_of plan b ≤ 549755813888
small_block plan well b is =
    let none : BlockRow = record { array = 0; home = 0; size = 0 } in
    let row : block_row plan b ≡ get_or plan.blocks (b - 1) none = numbered-get none plan.blocks b is.0 in
    let lt : b - 1 < length plan.blocks = omega (arith, is) in
    let fits : FitsHomes plan (block_row plan b) = subst (FitsHomes plan) (sym row) (well.homes (b - 1) none lt) in
    let home : IsNumberIn plan.spaces (block_row plan b).home = subst (λ (r : BlockRow). IsNumberIn plan.spaces r.home) (sym row) (well.names.blocks (b - 1) none lt).1 in
    let space = numbered-get (record { name = []; limit = 0 }) plan.spaces (block_row plan b).home home.0 in
    let small = well.limits.each_space ((block_row plan b).home - 1) (record { name = []; limit = 0 }) (omega (arith, home)) in
    omega (arith, fits.first, ap (λ r. r.limit) space, small.limit)

sum_const : (c start n : ℕ) → sum_by (λ (k : ℕ). c) (range_with_len start n) ≡ n * c
sum_const c start zero = omega arith
sum_const c start (suc n) =
    let step = sum_by-cons (λ (k : ℕ). c) start (range_with_len (start + 1) n) in
    let more : suc n * c ≡ n * c + c = omega arith in
    omega (arith, sum_const c (start + 1) n, step, more)

pub light_blocks : (plan : Plan) → IsWellFormed plan → bytes_of_blocks plan < 2 ^ 64
light_blocks plan well =
    let le = sum_le (λ b. 8 * size_of plan b) (λ _. 549755813888) 1 (length plan.blocks) (λ k low high. small_block plan well k (low, omega arith)) in
    omega (arith, le, sum_const 549755813888 1 (length plan.blocks), few_blocks plan well)
