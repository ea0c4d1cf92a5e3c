-- How many blocks a Plan that is laid out has.
use Rattle.std.proofs.Common.{◌≡◌, ℕ, zero, suc, ◌+◌, ◌≤◌, List, length, get_or, take, refl, sym, ap, ◌∙◌, arith}
use Rattle.std.specs.List.{range_with_len, sum_by}
use Rattle.std.proofs.lemmas.List.{take_all}
use Rattle.std.proofs.lemmas.List.Concat.{length-flat_map}
use Rattle.std.proofs.lemmas.List.FromFn.{length-map-range_with_len}
use Rattle.std.proofs.lemmas.List.Sums.{sum_by_more, sum_by_push}
use Rattle.dd_views.proofs.ListsLemmas.{range_with_len_more}
use Rattle.dd_blocks.specs.declared.array_row.ArrayRow.{ArrayRow}
use Rattle.dd_blocks.specs.declared.plan.Plan.{Plan}
use Rattle.dd_blocks.specs.Grids.{block_count}
use Rattle.dd_blocks.specs.Layout.{IsLaidOut, blocks_in, blocks_of_arrays}
use Rattle.dd_blocks.specs.Numbered.{no_array, numbered}
use Rattle.dd_place.proofs.NumberedLemmas.{numbered_next}

abbrev blocks_of : List ArrayRow → ℕ → ℕ
blocks_of arrays n = block_count (numbered no_array arrays n).grid

-- the sum over the numbers is that over the arrays
counted : (arrays : List ArrayRow) (k : ℕ) → k ≤ length arrays → sum_by (blocks_of arrays) (range_with_len 1 k) ≡ blocks_in (take k arrays)
counted arrays zero le = refl
counted arrays (suc k) le =
    let next : numbered no_array arrays (1 + k) ≡ get_or arrays k no_array = ap (numbered no_array arrays) (let e : 1 + k ≡ k + 1 = omega arith in e) ∙ numbered_next no_array arrays k in
    let more : blocks_in (take (k + 1) arrays) ≡ blocks_in (take k arrays) + block_count (get_or arrays k no_array).grid = sum_by_more (λ (a : ArrayRow). block_count a.grid) arrays k no_array (omega arith) in
    let same : take (k + 1) arrays ≡ take (suc k) arrays = ap (λ (n : ℕ). take n arrays) (let e : k + 1 ≡ suc k = omega arith in e) in
    ap (sum_by (blocks_of arrays)) (range_with_len_more 1 k)
    ∙ sum_by_push (blocks_of arrays) (range_with_len 1 k) (1 + k)
    ∙ ap (λ (x : ℕ). x + blocks_of arrays (1 + k)) (counted arrays k (omega arith))
    ∙ ap (λ (row : ArrayRow). blocks_in (take k arrays) + block_count row.grid) next
    ∙ sym more
    ∙ ap blocks_in same

length_of : (spaces : ℕ) (arrays : List ArrayRow) → length (blocks_of_arrays spaces arrays) ≡ blocks_in arrays
length_of spaces arrays =
    let each : length (blocks_of_arrays spaces arrays) ≡ sum_by (blocks_of arrays) (range_with_len 1 (length arrays)) = rw length-flat_map (simp length-map-range_with_len) in
    each ∙ counted arrays (length arrays) (omega arith) ∙ ap blocks_in (take_all (length arrays) arrays (omega arith))

pub length_blocks : (plan : Plan) → IsLaidOut plan → length plan.blocks ≡ blocks_in plan.arrays
length_blocks plan layout = ap length layout.blocks ∙ length_of (length plan.spaces) plan.arrays
