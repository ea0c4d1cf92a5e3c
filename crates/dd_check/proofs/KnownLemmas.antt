-- What a sound draft tells of its arrays and spaces.
use Rattle.std.proofs.Common.{◌≡◌, ◌≢◌, ℕ, zero, suc, ◌≤◌, List, Option, None, Some, unwrap_or, get_or, refl, arith, add-one}
use Rattle.std.proofs.lemmas.List.Sums.{get_or-le-sum_by}
use Rattle.dd_blocks.specs.declared.array_row.ArrayRow.{ArrayRow}
use Rattle.dd_blocks.specs.declared.plan.Plan.{Plan}
use Rattle.dd_blocks.specs.Grids.{IsGrid, element_count}
use Rattle.dd_blocks.specs.Layout.{IsLaidOut, elements_in}
use Rattle.dd_blocks.specs.Limits.{elements_limit}
use Rattle.dd_blocks.specs.Numbered.{IsNumberIn, array_row, no_array}
use Rattle.dd_check.specs.Above.{Above}
use Rattle.dd_check.specs.Sound.{IsSound}

-- a number that stands for an array where it stands for anything
number_in : (arrays : List ArrayRow) (o : Option ℕ) → ((a : ℕ) → o ≡ Some a → IsNumberIn arrays a) → o ≢ None → IsNumberIn arrays (unwrap_or o 0)
number_in arrays None each known = absurd (known refl)
number_in arrays (Some a) each known = each a refl

-- a name that is there stands for an array
pub known_array : (n : ℕ) (s : Above) (name : List ℕ) → IsSound n s → s.live name ≢ None → IsNumberIn s.plan.arrays (unwrap_or (s.live name) 0)
known_array n s name sound known = number_in s.plan.arrays (s.live name) (λ a e. (sound.names.live name a e).0) known

-- each array has a grid
pub grid_of_array : (plan : Plan) (a : ℕ) → IsLaidOut plan → IsNumberIn plan.arrays a → IsGrid (array_row plan a).grid
grid_of_array plan zero layout within = absurd (omega arith)
grid_of_array plan (suc i) layout within = let h = layout.arrays i (omega arith) in (rw add-one at h).grid

-- with few elements, and few blocks
pub few_elements : (plan : Plan) (a : ℕ) → elements_in plan.arrays ≤ elements_limit → IsNumberIn plan.arrays a → element_count (array_row plan a).grid ≤ elements_limit
few_elements plan zero few within = absurd (omega arith)
few_elements plan (suc i) few within =
    let each : element_count (get_or plan.arrays i no_array).grid ≤ elements_in plan.arrays = get_or-le-sum_by (λ (row : ArrayRow). element_count row.grid) plan.arrays i no_array (omega arith) in
    omega arith
