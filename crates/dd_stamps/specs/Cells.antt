-- True cells: a value that has a version is that of its element after the task with the version's number.
use Rattle.std.specs.Prelude.{◌≡◌, ◌≢◌, ℕ, ◌<◌, ℤ, List, slice_index}
use Rattle.std.specs.Coded.{Coded-set, coded_ℤ, Π_prop, →_prop}
use Rattle.dd_kernels.specs.Lists.{element}
use Rattle.dd_blocks.specs.declared.plan.Plan.{Plan}
use Rattle.dd_meaning.specs.Values.{value_at}
use Rattle.dd_blocks.specs.PlanElements.{element_of}
use Rattle.dd_blocks.specs.Numbered.{block_row}

-- the version of a cell whose value says nothing
abbrev pub blank : ℕ
blank = 4294967295

-- how many places a block has
abbrev pub size_of : Plan → ℕ → ℕ
size_of plan block = (block_row plan block).size

-- the cells of a block are true
unfoldable pub AreTrue : Plan → ℕ → List ℕ → List ℤ → Type 0
AreTrue plan block versions values =
    (place : ℕ) → place < size_of plan block → slice_index versions place ≢ blank
    → element values place ≡ value_at plan (slice_index versions place) (element_of plan block place)

pub AreTrue-prop : (plan : Plan) (block : ℕ) (versions : List ℕ) (values : List ℤ) → IsProp (AreTrue plan block versions values)
unfolding AreTrue
AreTrue-prop plan block versions values =
    Π_prop (λ place. →_prop (→_prop (Coded-set coded_ℤ (element values place) (value_at plan (slice_index versions place) (element_of plan block place)))))
