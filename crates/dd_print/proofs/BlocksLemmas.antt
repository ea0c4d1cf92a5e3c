-- The values of a block, by their positions in the array.
use Rattle.std.proofs.Common.{◌≡◌, ℕ, ◌+◌, ◌-◌, ◌<◌, ℤ, map, ap, ◌∙◌, arith}
use Rattle.std.specs.List.{range_with_len}
use Rattle.dd_blocks.specs.declared.plan.Plan.{Plan}
use Rattle.dd_blocks.specs.Elements.{Element}
use Rattle.dd_blocks.specs.Grids.{block_count, block_size, pos_of}
use Rattle.dd_blocks.specs.Numbered.{IsNumberIn, array_row}
use Rattle.dd_blocks.specs.PlanElements.{element_of}
use Rattle.dd_blocks.specs.WellFormed.{IsWellFormed}
use Rattle.dd_blocks.proofs.LayoutLemmas.{has_block}
use Rattle.dd_lists.proofs.ListsLemmas.{same_map}
use Rattle.dd_machine.specs.States.{State}
use Rattle.dd_print.specs.Held.{block_values, current_value}

-- the current value at a position of an array
abbrev pub value_of : Plan → State → ℕ → ℕ → ℤ
value_of plan st array p = current_value plan st (record { array = array; pos = p })

pub block_listed : (plan : Plan) (st : State) (array j : ℕ) → IsWellFormed plan → IsNumberIn plan.arrays array → j < block_count (array_row plan array).grid
    → block_values plan st ((array_row plan array).first_block + j) ≡ map (λ i. value_of plan st array (pos_of (array_row plan array).grid j i)) (range_with_len 0 (block_size (array_row plan array).grid j))
block_listed plan st array j well is lt =
    let first = (array_row plan array).first_block in
    let h = has_block plan well.layout array j is lt in
    let e : (first + j) - first ≡ j = omega arith in
    let place : (i : ℕ) → element_of plan (first + j) i ≡ record { array = array; pos = pos_of (array_row plan array).grid j i } = λ i.
    ap (λ (a : ℕ). let x : Element = record { array = a; pos = pos_of (array_row plan a).grid ((first + j) - (array_row plan a).first_block) i } in x) h.array
    ∙ ap (λ (k : ℕ). let x : Element = record { array = array; pos = pos_of (array_row plan array).grid k i } in x) e in
    ap (λ (n : ℕ). map (λ p. current_value plan st (element_of plan (first + j) p)) (range_with_len 0 n)) (h.size ∙ ap (block_size (array_row plan array).grid) e)
    ∙ same_map (λ p. current_value plan st (element_of plan (first + j) p)) (λ i. value_of plan st array (pos_of (array_row plan array).grid j i)) 0 0 (block_size (array_row plan array).grid j) (λ i i_lt. ap (current_value plan st) (place (0 + i)))
