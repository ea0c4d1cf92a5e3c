-- A well-formed Plan has what a placement asks of it.
use Rattle.std.proofs.Common.{◌≡◌, ℕ, zero, suc, ◌+◌, ◌<◌, ◌≤◌, List, length, get_or, take, sym, ap, ◌∙◌, arith, refl}
use Rattle.std.specs.List.{range_with_len, sum_by}
use Rattle.std.proofs.lemmas.List.{take_all}
use Rattle.std.proofs.lemmas.List.Concat.{length-flat_map}
use Rattle.std.proofs.lemmas.List.Elements.{All-from_get_or}
use Rattle.std.proofs.lemmas.List.FromFn.{length-map-range_with_len}
use Rattle.std.proofs.lemmas.List.Sums.{sum_by_more, sum_by_more_le, sum_by_push}
use Rattle.dd_views.proofs.ListsLemmas.{range_with_len_more}
use Rattle.dd_blocks.specs.declared.array_row.ArrayRow.{ArrayRow}
use Rattle.dd_blocks.specs.declared.plan.Plan.{Plan}
use Rattle.dd_blocks.specs.Grids.{block_count}
use Rattle.dd_blocks.specs.Layout.{IsLaidOut, StandsBehind, blocks_in, blocks_of_arrays}
use Rattle.dd_blocks.specs.Lives.{regions_run}
use Rattle.dd_blocks.specs.Numbered.{no_array, numbered}
use Rattle.dd_blocks.specs.WellFormed.{IsWellFormed}
use Rattle.dd_blocks.specs.OfPlan.{HasBlocks}
use Rattle.dd_place.specs.Premises.{CanPlace}
use Rattle.dd_place.proofs.NumberedLemmas.{numbered_next}
use Rattle.dd_place.proofs.RisingLemmas.{rise}

abbrev blocks_at : List ArrayRow → ℕ → ℕ
blocks_at arrays n = block_count (numbered no_array arrays n).grid

-- the sum over the numbers is that over the arrays
counted : (arrays : List ArrayRow) (k : ℕ) → k ≤ length arrays → sum_by (blocks_at arrays) (range_with_len 1 k) ≡ blocks_in (take k arrays)
counted arrays zero le = refl
counted arrays (suc k) le =
    let next : numbered no_array arrays (1 + k) ≡ get_or arrays k no_array = ap (numbered no_array arrays) (let e : 1 + k ≡ k + 1 = omega arith in e) ∙ numbered_next no_array arrays k in
    let more : blocks_in (take (k + 1) arrays) ≡ blocks_in (take k arrays) + block_count (get_or arrays k no_array).grid = sum_by_more (λ (a : ArrayRow). block_count a.grid) arrays k no_array (omega arith) in
    let same : take (k + 1) arrays ≡ take (suc k) arrays = ap (λ (n : ℕ). take n arrays) (let e : k + 1 ≡ suc k = omega arith in e) in
    ap (sum_by (blocks_at arrays)) (range_with_len_more 1 k)
    ∙ sum_by_push (blocks_at arrays) (range_with_len 1 k) (1 + k)
    ∙ ap (λ (x : ℕ). x + blocks_at arrays (1 + k)) (counted arrays k (omega arith))
    ∙ ap (λ (row : ArrayRow). blocks_in (take k arrays) + block_count row.grid) next
    ∙ sym more
    ∙ ap blocks_in same

length_blocks : (spaces : ℕ) (arrays : List ArrayRow) → length (blocks_of_arrays spaces arrays) ≡ blocks_in arrays
length_blocks spaces arrays =
    let each : length (blocks_of_arrays spaces arrays) ≡ sum_by (blocks_at arrays) (range_with_len 1 (length arrays)) = rw length-flat_map (simp length-map-range_with_len) in
    each ∙ counted arrays (length arrays) (omega arith) ∙ ap blocks_in (take_all (length arrays) arrays (omega arith))

has_blocks : (plan : Plan) → IsLaidOut plan → (i : ℕ) → i < length plan.arrays → HasBlocks plan (get_or plan.arrays i no_array)
has_blocks plan layout i lt =
    let behind : StandsBehind (take i plan.arrays) (get_or plan.arrays i no_array) = rw numbered_next at (layout.arrays i lt) in
    let all : length plan.blocks ≡ blocks_in plan.arrays = ap length layout.blocks ∙ length_blocks (length plan.spaces) plan.arrays in
    let le : blocks_in (take i plan.arrays) + block_count (get_or plan.arrays i no_array).grid ≤ blocks_in plan.arrays = sum_by_more_le (λ (a : ArrayRow). block_count a.grid) plan.arrays i no_array lt in
    record { grid = behind.grid; first = omega (arith, behind.first_block); last = omega (arith, behind.first_block) }

pub can_place : (plan : Plan) → IsWellFormed plan → 1 ≤ length plan.procs → CanPlace plan
can_place plan well some = record {
  procs = (some, well.limits.procs);
  arrays = All-from_get_or (HasBlocks plan) plan.arrays no_array (has_blocks plan well.layout);
  blocks = let all : length plan.blocks ≡ blocks_in plan.arrays = ap length well.layout.blocks ∙ length_blocks (length plan.spaces) plan.arrays in omega (arith, well.limits.blocks);
  rows = well.line.rows;
  regions = (rise plan.statements 1 (length (regions_run plan.statements)) well.regions.rows).pairs;
}
