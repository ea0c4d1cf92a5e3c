-- Runs of an array, and what a kernel makes of them.
use Rattle.std.specs.Prelude.{◌≡◌, ◌⊎◌, ℕ, ◌+◌, ◌*◌, ◌≤◌, ℤ, List, [], ◌∷◌, map}
use Rattle.std.specs.List.{range_with_len}
use Rattle.dd_kernels.specs.declared.kernel.Kernel.{Kernel}
use Rattle.dd_kernels.specs.declared.shape.Shape.{Shape as KernelShape}
use Rattle.dd_kernels.specs.Lists.{element}
use Rattle.dd_kernels.specs.Shapes.{HaveShapes}
use Rattle.dd_kernels.specs.Table.{results}
use Rattle.dd_views.specs.declared.shape.Shape.{Shape}
use Rattle.dd_views.specs.IndexList.{index_list}
use Rattle.dd_views.specs.Views.{IsViewOf}
use Rattle.dd_blocks.specs.declared.access_row.AccessRow.{AccessRow}
use Rattle.dd_meaning.specs.Steps.{put_at}
use Rattle.dd_plain.specs.declared.runs.Segment.{Segment}

abbrev pub positions : Segment → List ℕ
positions run = range_with_len run.first run.count

-- no position is in both runs
abbrev pub AreApart : Segment → Segment → Type 0
AreApart x y = (x.first + x.count ≤ y.first) ⊎ (y.first + y.count ≤ x.first)

-- there are two accesses, of one array, and they are these runs of it, which are apart
pub record AreBeside (accesses : List AccessRow) (x y : Segment) : Type 0 where
  pub first : AccessRow
  pub second : AccessRow
  pub two : accesses ≡ first ∷ second ∷ []
  pub same : first.view.array ≡ second.view.array
  pub x_is : index_list first.view ≡ positions x
  pub y_is : index_list second.view ≡ positions y
  pub x_within : (shape : Shape) → IsViewOf shape first.view → x.first + x.count ≤ shape.rows * shape.cols
  pub y_within : (shape : Shape) → IsViewOf shape second.view → y.first + y.count ≤ shape.rows * shape.cols
  pub apart : AreApart x y

-- of each list, what stands at the places beside it
abbrev pub all_at : List (List ℕ) → List (List ℤ) → List (List ℤ)
all_at [] lists = []
all_at (ps ∷ places) [] = []
all_at (ps ∷ places) (values ∷ lists) = map (element values) ps ∷ all_at places lists

-- each list after others were put at the places beside it
abbrev pub all_put : List (List ℕ) → List (List ℤ) → List (List ℤ) → List (List ℤ)
all_put [] lists news = lists
all_put (ps ∷ places) [] news = []
all_put (ps ∷ places) (values ∷ lists) [] = values ∷ lists
all_put (ps ∷ places) (values ∷ lists) (new ∷ news) = put_at ps new values ∷ all_put places lists news

-- a kernel ran on what stood at places of lists, and what it made stands there
pub record Wrote (k : Kernel) (scalar : ℤ) (shapes : List KernelShape) (places : List (List ℕ)) (old new : List (List ℤ)) : Type 0 where
  pub made : List (List ℤ)
  pub is : made ≡ results k scalar shapes (all_at places old)
  pub filled : HaveShapes shapes made
  pub put : new ≡ all_put places old made

-- a kernel ran on what stood at two lists of places of one list, and what it made stands there, in either order
pub record WroteBoth (k : Kernel) (scalar : ℤ) (shapes : List KernelShape) (ps qs : List ℕ) (old new : List ℤ) : Type 0 where
  pub x : List ℤ
  pub y : List ℤ
  pub is : x ∷ y ∷ [] ≡ results k scalar shapes (map (element old) ps ∷ map (element old) qs ∷ [])
  pub first : new ≡ put_at qs y (put_at ps x old)
  pub second : new ≡ put_at ps x (put_at qs y old)
