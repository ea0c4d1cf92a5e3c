-- Which tasks one must wait for, by its own extents and those of others.
use Rattle.std.specs.Prelude.{◌≡◌, ◌↔◌, ℕ, ◌<◌, ◌≤◌, List, Any, Contains}
use Rattle.dd_views.specs.IndexList.{index_list}
use Rattle.dd_blocks.specs.declared.access_row.AccessRow.{AccessRow}
use Rattle.dd_blocks.specs.declared.task_row.TaskRow.{TaskRow}
use Rattle.dd_blocks.specs.Numbered.{no_task, numbered}
use Rattle.dd_alias.specs.declared.extent.Extent.{Extent}
use Rattle.dd_alias.specs.Clashes.{Clash}
use Rattle.dd_alias.specs.Extents.{ClashesWithOne}

-- the extent is of the task numbered u, which stands before the one of a number and clashes with one of its own
abbrev pub IsBefore : List Extent → ℕ → ℕ → Extent → Type 0
IsBefore own number u e = (e.task ≡ u) × (u < number) × ClashesWithOne e own

-- and so for one of its own
abbrev pub IsBeforeOne : Extent → ℕ → ℕ → Extent → Type 0
IsBeforeOne own number u e = (e.task ≡ u) × (u < number) × Clash e.access.now own.access.now

-- the numbers of all tasks of some extents that the task must wait for
abbrev pub AreWaits : List Extent → List Extent → ℕ → List ℕ → Type 0
AreWaits extents own number found = (u : ℕ) → Contains found u ↔ Any (λ (e : Extent). IsBefore own number u e) extents

-- the extents are of tasks before the one of a number
abbrev pub IsEarlier : ℕ → Extent → Type 0
IsEarlier number e = (1 ≤ e.task) × (e.task < number)

-- all accesses with elements of a task have extents here, and no other accesses do
pub record AreOwn (number : ℕ) (accesses : List AccessRow) (extents : List Extent) : Type 0 where
  pub task : (e : Extent) → Contains extents e → e.task ≡ number
  pub of : (e : Extent) → Contains extents e → Contains accesses e.access.now
  pub all : (a : AccessRow) (x : ℕ) → Contains accesses a → Contains (index_list a.view) x → Any (λ (e : Extent). e.access.now ≡ a) extents

-- so do all accesses with elements of the first so many tasks
pub record AreOfTasks (tasks : List TaskRow) (count : ℕ) (extents : List Extent) : Type 0 where
  pub low : (e : Extent) → Contains extents e → 1 ≤ e.task
  pub high : (e : Extent) → Contains extents e → e.task ≤ count
  pub of : (e : Extent) → Contains extents e → Contains (numbered no_task tasks e.task).accesses e.access.now
  pub all : (u : ℕ) (a : AccessRow) (x : ℕ) → 1 ≤ u → u ≤ count → Contains (numbered no_task tasks u).accesses a → Contains (index_list a.view) x
      → Any (λ (e : Extent). (e.task ≡ u) × (e.access.now ≡ a)) extents
