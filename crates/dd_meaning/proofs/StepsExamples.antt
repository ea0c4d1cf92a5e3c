-- Worked examples of the worlds after tasks: each computes.
use Rattle.std.proofs.Common.{◌≡◌, pos, negsuc, [], ◌∷◌, refl}
use Rattle.dd_kernels.specs.declared.kernel.Kernel.TheVariants.{Copy, Swap}
use Rattle.dd_kernels.specs.declared.signature.Mode.TheVariants.{Read, Write, Both}
use Rattle.dd_blocks.specs.declared.fill.Fill.TheVariants.{Iota, Zeros}
use Rattle.dd_blocks.specs.declared.plan.Plan.{Plan}
use Rattle.dd_blocks.specs.declared.what.What.TheVariants.{Put, Region}
use Rattle.dd_meaning.specs.Steps.{world_after}
use Rattle.dd_meaning.proofs.SmallPlans.{access, array_of, plan_of, row_view, span_of, task_of}

-- what is read and written overlaps: all is read before
abbrev shifted : Plan
shifted = plan_of (array_of 1 5 Iota 1 0 ∷ [])
    (task_of Copy (pos 0) 1 (access Write (row_view 1 (span_of 2 (pos 1) 4)) ∷ access Read (row_view 1 (span_of 1 (pos 1) 4)) ∷ []) ∷ [])
    (Put 1 ∷ Region 1 ∷ [])

read_before : world_after shifted 1 ≡ (pos 1 ∷ pos 1 ∷ pos 2 ∷ pos 3 ∷ pos 4 ∷ []) ∷ []
read_before = refl

-- what is written overlaps: the later access wins
abbrev exchanged : Plan
exchanged = plan_of (array_of 1 4 Iota 1 0 ∷ [])
    (task_of Swap (pos 0) 1 (access Both (row_view 1 (span_of 1 (pos 1) 3)) ∷ access Both (row_view 1 (span_of 2 (pos 1) 3)) ∷ []) ∷ [])
    (Put 1 ∷ Region 1 ∷ [])

later_wins : world_after exchanged 1 ≡ (pos 2 ∷ pos 1 ∷ pos 2 ∷ pos 3 ∷ []) ∷ []
later_wins = refl

-- an access goes backwards
abbrev backwards : Plan
backwards = plan_of (array_of 1 4 Zeros 1 0 ∷ array_of 1 4 Iota 2 4 ∷ [])
    (task_of Copy (pos 0) 1 (access Write (row_view 1 (span_of 4 (negsuc 0) 4)) ∷ access Read (row_view 2 (span_of 1 (pos 1) 4)) ∷ []) ∷ [])
    (Put 1 ∷ Put 2 ∷ Region 1 ∷ [])

from_the_end : world_after backwards 1 ≡ (pos 4 ∷ pos 3 ∷ pos 2 ∷ pos 1 ∷ []) ∷ (pos 1 ∷ pos 2 ∷ pos 3 ∷ pos 4 ∷ []) ∷ []
from_the_end = refl
