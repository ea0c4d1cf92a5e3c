-- What a work has collected for its task so far.
use Rattle.std.specs.Prelude.{◌≡◌, ℕ, ◌^◌, ◌<◌, ℤ, true, false, List, [], length, slice_index_or, Contains}
use Rattle.dd_kernels.specs.Lists.{element}
use Rattle.dd_views.specs.declared.view.View.{View}
use Rattle.dd_views.specs.IndexList.{index_list}
use Rattle.dd_views.specs.Views.{IsView}
use Rattle.dd_blocks.specs.declared.access_row.AccessRow.{AccessRow}
use Rattle.dd_blocks.specs.declared.plan.Plan.{Plan}
use Rattle.dd_blocks.specs.Elements.{reads}
use Rattle.dd_blocks.specs.PlanElements.{block_of_element}
use Rattle.dd_meaning.specs.Values.{value_at}
use Rattle.dd_stamps.specs.Gathered.{GathersFrom, element_at}

-- where an access reads, a list has the values after n tasks at its places, but for those whose blocks are left
unfoldable pub HasFound : Plan → ℕ → List ℕ → AccessRow → List ℤ → Type 0
HasFound plan n left access values = (i : ℕ) → i < length (index_list access.view) → reads access.mode ≡ true
    → (¬ Contains left (block_of_element plan (element_at access.view i))) → element values i ≡ value_at plan n (element_at access.view i)

-- so it is with each access and its list
unfoldable pub HaveFound : Plan → ℕ → List ℕ → List AccessRow → List (List ℤ) → Type 0
HaveFound plan n left accesses lists = (k : ℕ) (d : AccessRow) → k < length accesses → HasFound plan n left (slice_index_or accesses k d) (slice_index_or lists k [])

-- the list of an access that reads has what a block has for it, and the others stay
pub record HasCollected (plan : Plan) (block : ℕ) (values : List ℤ) (access : AccessRow) (old new : List ℤ) : Type 0 where
  pub read : reads access.mode ≡ true → GathersFrom plan block values access.view old new
  pub kept : reads access.mode ≡ false → new ≡ old

pub record HaveCollected (plan : Plan) (block : ℕ) (values : List ℤ) (accesses : List AccessRow) (old new : List (List ℤ)) : Type 0 where
  pub count : length new ≡ length old
  pub each : (k : ℕ) (d : AccessRow) → k < length accesses → HasCollected plan block values (slice_index_or accesses k d) (slice_index_or old k []) (slice_index_or new k [])

-- a view of an array whose elements can be counted as rows
pub record IsSmallView (v : View) : Type 0 where
  pub view : IsView v
  pub few : length (index_list v) < 2 ^ 32
