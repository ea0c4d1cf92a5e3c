-- The current versions of all elements, as a list with one for each element, in the order of their numbers.
use Rattle.std.specs.Prelude.{◌≡◌, ℕ, ◌≤◌, Bool, ◌&&◌, not, nat_eq, List, length, All, slice_index, if◌then◌else◌}
use Rattle.dd_blocks.specs.declared.plan.Plan.{Plan}
use Rattle.dd_blocks.specs.Elements.{Element, task_writes}
use Rattle.dd_blocks.specs.Layout.{elements_in}
use Rattle.dd_blocks.specs.Numbered.{task_row}
use Rattle.dd_blocks.specs.PlanElements.{IsElement, element_of, number_of}
use Rattle.dd_meaning.specs.Moves.{source_of}

-- there is one version for each element, and each is 0 or the number of a task
pub record AreVersions (plan : Plan) (versions : List ℕ) : Type 0 where
  pub count : length versions ≡ elements_in plan.arrays
  pub tasks : All (λ version. version ≤ length plan.tasks) versions

-- the version of an element
abbrev pub version_of : Plan → List ℕ → Element → ℕ
version_of plan versions e = slice_index versions (number_of plan e)

-- the task is done: the elements that it writes have its number, and all others the version that they had
pub record IsFinished (plan : Plan) (task : ℕ) (before after : List ℕ) : Type 0 where
  pub len : length after ≡ length before
  pub each : (e : Element) → IsElement plan e
      → version_of plan after e ≡ (if task_writes (task_row plan task) e then task else version_of plan before e)

-- a copy that holds these versions lacks the current one at a place of its block, and gets it from the space
abbrev pub is_lacking : Plan → ℕ → ℕ → List ℕ → List ℕ → ℕ → ℕ → Bool
is_lacking plan region block versions held from place =
    not (nat_eq (slice_index held place) (version_of plan versions (element_of plan block place)))
    && nat_eq (source_of plan region (element_of plan block place) (version_of plan versions (element_of plan block place))) from
