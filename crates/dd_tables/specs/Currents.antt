-- The current versions of all elements, the arrays one after the other.
use Rattle.std.specs.Prelude.{ℕ, Bool, nat_lt, List, slice_index, if◌then◌else◌}
use Rattle.dd_blocks.specs.declared.plan.Plan.{Plan}
use Rattle.dd_blocks.specs.Grids.{element_count}
use Rattle.dd_blocks.specs.Numbered.{array_row}
use Rattle.dd_blocks.specs.Elements.{Element}
use Rattle.dd_blocks.specs.PlanElements.{number_of}

-- whether there is such an element
abbrev pub is_element : Plan → Element → Bool
is_element plan e = nat_lt e.pos (element_count (array_row plan e.array).grid)

-- the version that the list has of an element, or 0 where there is no such element
unfoldable pub current_of : Plan → List ℕ → Element → ℕ
current_of plan versions e = if is_element plan e then slice_index versions (number_of plan e) else 0
