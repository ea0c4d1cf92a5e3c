-- The elements of arrays, and which of them an access has and a task reads and writes: as tests, and as facts. Lemmas of
-- `ElementsLemmas` tie the two.
use Rattle.std.specs.Prelude.{◌≡◌, ℕ, Bool, true, false, ◌&&◌, nat_eq, Any, Contains}
use Rattle.std.specs.List.{list_any}
use Rattle.dd_kernels.specs.declared.signature.Mode.{Mode}
use Rattle.dd_kernels.specs.declared.signature.Mode.TheVariants.{Read, Write, Both}
use Rattle.dd_views.specs.IndexList.{index_list}
use Rattle.dd_blocks.specs.declared.access_row.AccessRow.{AccessRow}
use Rattle.dd_blocks.specs.declared.task_row.TaskRow.{TaskRow}

-- the element at a position of an array, which goes by its number
pub record Element : Type 0 where
  pub array : ℕ
  pub pos : ℕ

-- whether an access of the mode reads, and whether it writes
abbrev pub reads : Mode → Bool
reads Read = true
reads Write = false
reads Both = true

abbrev pub writes : Mode → Bool
writes Read = false
writes Write = true
writes Both = true

-- the access has the element
abbrev pub has : AccessRow → Element → Bool
has access e = nat_eq access.view.array e.array && list_any (λ p. nat_eq p e.pos) (index_list access.view)

-- the task reads the element, and it writes it
abbrev pub task_reads : TaskRow → Element → Bool
task_reads task e = list_any (λ (a : AccessRow). reads a.mode && has a e) task.accesses

abbrev pub task_writes : TaskRow → Element → Bool
task_writes task e = list_any (λ (a : AccessRow). writes a.mode && has a e) task.accesses

-- the access has the element at the position of the array
abbrev pub HasElement : AccessRow → ℕ → ℕ → Type 0
HasElement access array pos = (access.view.array ≡ array) × Contains (index_list access.view) pos

-- the task writes the element; it reads it, writes it or both
abbrev pub WritesElement : TaskRow → ℕ → ℕ → Type 0
WritesElement task array pos = Any (λ (a : AccessRow). (writes a.mode ≡ true) × HasElement a array pos) task.accesses

abbrev pub UsesElement : TaskRow → ℕ → ℕ → Type 0
UsesElement task array pos = Any (λ (a : AccessRow). HasElement a array pos) task.accesses
