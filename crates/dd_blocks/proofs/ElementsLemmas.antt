-- Which elements a task reads and writes: the tests and the facts say the same.
use Rattle.std.proofs.Common.{◌≡◌, ◌↔◌, ◌⊎◌, ℕ, Bool, true, ◌&&◌, ◌||◌, eqb, inl, inr, refl, ap, ◌∙◌, ⊎_elim}
use Rattle.std.specs.List.{Any, list_any}
use Rattle.std.proofs.lemmas.Bool.{and_parts, eq-eqb, eqb-true, or_cases, or_left, or_right}
use Rattle.std.proofs.lemmas.List.Folds.{Any-from_list_any, list_any-from_Any}
use Rattle.dd_kernels.specs.declared.signature.Mode.{Mode}
use Rattle.dd_kernels.specs.declared.signature.Mode.TheVariants.{Read, Write, Both}
use Rattle.dd_views.specs.IndexList.{index_list}
use Rattle.dd_lists.proofs.ListsLemmas.{has_number, number_in}
use Rattle.dd_blocks.specs.declared.access_row.AccessRow.{AccessRow}
use Rattle.dd_blocks.specs.declared.plan.Plan.{Plan}
use Rattle.dd_blocks.specs.declared.task_row.TaskRow.{TaskRow}
use Rattle.dd_blocks.specs.Conflicts.{AreInConflict}
use Rattle.dd_blocks.specs.Elements.{Element, HasElement, UsesElement, WritesElement, has, reads, task_reads, task_writes, writes}
use Rattle.dd_blocks.specs.Numbered.{IsNumberIn, task_row}
use Rattle.dd_blocks.proofs.NumberedLemmas.{task_within}

pub has_element : (access : AccessRow) (e : Element) → (has access e ≡ true) ↔ HasElement access e.array e.pos
has_element access e = (
  (λ is.
      let parts = and_parts (eqb access.view.array e.array) (list_any (λ p. eqb p e.pos) (index_list access.view)) is in
      (eqb-true access.view.array e.array parts.0, number_in (index_list access.view) e.pos parts.1)),
  (λ there. both_true (eqb access.view.array e.array) (list_any (λ p. eqb p e.pos) (index_list access.view)) (eq-eqb access.view.array e.array there.0) (has_number (index_list access.view) e.pos there.1)),
)
  where
    both_true : (a b : Bool) → a ≡ true → b ≡ true → (a && b) ≡ true
    both_true a b is_a is_b = ap (λ (x : Bool). x && b) is_a ∙ is_b

-- an access that passes a test and has the element
some_access : (p : AccessRow → Bool) (task : TaskRow) (e : Element)
    → (list_any (λ (a : AccessRow). p a && has a e) task.accesses ≡ true) ↔ Any (λ (a : AccessRow). (p a ≡ true) × HasElement a e.array e.pos) task.accesses
some_access p task e = (
  (λ is.
      let any = Any-from_list_any (λ (a : AccessRow). p a && has a e) task.accesses is in
      let parts = and_parts (p any.1) (has any.1 e) any.4 in
      (any.0, any.1, any.2, any.3, (parts.0, (has_element any.1 e).0 parts.1))),
  (λ any.
      let here : (p any.1 && has any.1 e) ≡ true = ap (λ (x : Bool). x && has any.1 e) any.4.0 ∙ (has_element any.1 e).1 any.4.1 in
      list_any-from_Any (λ (a : AccessRow). p a && has a e) task.accesses (any.0, any.1, any.2, any.3, here)),
)

pub writes_element : (task : TaskRow) (e : Element) → (task_writes task e ≡ true) ↔ WritesElement task e.array e.pos
writes_element task e = some_access (λ (a : AccessRow). writes a.mode) task e

pub reads_element : (task : TaskRow) (e : Element)
    → (task_reads task e ≡ true) ↔ Any (λ (a : AccessRow). (reads a.mode ≡ true) × HasElement a e.array e.pos) task.accesses
reads_element task e = some_access (λ (a : AccessRow). reads a.mode) task e

-- who writes an element uses it, and who reads it
pub use_of_write : (task : TaskRow) (e : Element) → task_writes task e ≡ true → UsesElement task e.array e.pos
use_of_write task e is = let any = (writes_element task e).0 is in (any.0, any.1, any.2, any.3, any.4.1)

pub use_of_read : (task : TaskRow) (e : Element) → task_reads task e ≡ true → UsesElement task e.array e.pos
use_of_read task e is = let any = (reads_element task e).0 is in (any.0, any.1, any.2, any.3, any.4.1)

reads_or_writes : (mode : Mode) → (reads mode ≡ true) ⊎ (writes mode ≡ true)
reads_or_writes Read = inl refl
reads_or_writes Write = inr refl
reads_or_writes Both = inl refl

-- and who uses it reads or writes it
pub uses_element : (task : TaskRow) (e : Element) → ((task_reads task e || task_writes task e) ≡ true) ↔ UsesElement task e.array e.pos
uses_element task e = (
  (λ is. ⊎_elim (use_of_read task e) (use_of_write task e) (or_cases (task_reads task e) (task_writes task e) is)),
  (λ any.
      ⊎_elim
      (λ (r : reads (any.1).mode ≡ true). or_left (task_reads task e) (task_writes task e) ((reads_element task e).1 (any.0, any.1, any.2, any.3, (r, any.4))))
      (λ (w : writes (any.1).mode ≡ true). or_right (task_reads task e) (task_writes task e) ((writes_element task e).1 (any.0, any.1, any.2, any.3, (w, any.4))))
      (reads_or_writes (any.1).mode)),
)

-- who reads or writes an element is a task of the Plan
pub reader_within : (plan : Plan) (t : ℕ) (e : Element) → task_reads (task_row plan t) e ≡ true → IsNumberIn plan.tasks t
reader_within plan t e is = task_within plan (λ (a : AccessRow). reads a.mode && has a e) t is

pub writer_within : (plan : Plan) (t : ℕ) (e : Element) → task_writes (task_row plan t) e ≡ true → IsNumberIn plan.tasks t
writer_within plan t e is = task_within plan (λ (a : AccessRow). writes a.mode && has a e) t is

-- two tasks of which one writes an element that the other uses
pub conflict_of : (u t : TaskRow) (e : Element) → task_writes u e ≡ true → UsesElement t e.array e.pos → AreInConflict u t
conflict_of u t e wrote uses = (e.array, e.pos, inl ((writes_element u e).0 wrote, uses))
