-- Tasks are in conflict where accesses of theirs clash.
use Rattle.std.proofs.Common.{◌≡◌, ◌↔◌, ℕ, true, [], ◌∷◌, inl, inr, ⊎_elim, refl, sym, ◌∙◌, arith}
use Rattle.std.specs.List.{Any}
use Rattle.std.proofs.lemmas.List.Elements.{All-cons, All-nil}
use Rattle.dd_views.specs.declared.shape.Shape.{Shape}
use Rattle.dd_blocks.specs.declared.access_row.AccessRow.{AccessRow}
use Rattle.dd_blocks.specs.declared.task_row.TaskRow.{TaskRow}
use Rattle.dd_blocks.specs.Conflicts.{AreInConflict}
use Rattle.dd_blocks.specs.Elements.{UsesElement, WritesElement, writes}
use Rattle.dd_blocks.specs.Numbered.{no_task}
use Rattle.dd_alias.specs.Clashes.{ClashesWithSome}
use Rattle.dd_alias.specs.Shapes.{AreViewsBy, HaveOneShape}

abbrev pub SomeClash : TaskRow → TaskRow → Type 0
SomeClash u t = Any (λ (a : AccessRow). ClashesWithSome a t.accesses) u.accesses

written_clash : (u t : TaskRow) (array at : ℕ) → WritesElement u array at → UsesElement t array at → SomeClash u t
written_clash u t array at first second = (
  first.0,
  first.1,
  first.2,
  first.3,
  (second.0, second.1, second.2, second.3, (inl first.4.0, (first.4.1.0 ∙ sym second.4.0, (at, first.4.1.1, second.4.1)))),
)

used_clash : (u t : TaskRow) (array at : ℕ) → UsesElement u array at → WritesElement t array at → SomeClash u t
used_clash u t array at first second = (
  first.0,
  first.1,
  first.2,
  first.3,
  (second.0, second.1, second.2, second.3, (inr second.4.0, (first.4.0 ∙ sym second.4.1.0, (at, first.4.1, second.4.1.1)))),
)

conflict_clash : (u t : TaskRow) → AreInConflict u t → SomeClash u t
conflict_clash u t found = ⊎_elim
    (λ both. written_clash u t found.0 found.1 both.0 both.1)
    (λ both. used_clash u t found.0 found.1 both.0 both.1)
    found.2

clash_conflict : (u t : TaskRow) → SomeClash u t → AreInConflict u t
clash_conflict u t some =
    let a = some.1 in
    let clash = some.4 in
    let b = clash.1 in
    let shared = clash.4.1 in (
      b.view.array,
      shared.1.0,
      ⊎_elim
          (λ (first : writes a.mode ≡ true). inl ((some.0, a, some.2, some.3, (first, (shared.0, shared.1.1))), (clash.0, b, clash.2, clash.3, (refl, shared.1.2))))
          (λ (second : writes b.mode ≡ true). inr ((some.0, a, some.2, some.3, (shared.0, shared.1.1)), (clash.0, b, clash.2, clash.3, (second, (refl, shared.1.2)))))
          clash.4.0,
    )

pub conflict_is_clash : (u t : TaskRow) → SomeClash u t ↔ AreInConflict u t
conflict_is_clash u t = (clash_conflict u t, conflict_clash u t)

pub shapes_of_two : (u t : TaskRow) → HaveOneShape (u ∷ t ∷ []) → (shape_at : ℕ → Shape) × AreViewsBy shape_at u.accesses × AreViewsBy shape_at t.accesses
shapes_of_two u t have = (have.0, have.1 0 no_task (omega arith), have.1 1 no_task (omega arith))

pub two_of_shapes : (shape_at : ℕ → Shape) (u t : TaskRow) → AreViewsBy shape_at u.accesses → AreViewsBy shape_at t.accesses → HaveOneShape (u ∷ t ∷ [])
two_of_shapes shape_at u t of_u of_t =
    let P = λ (t : TaskRow). AreViewsBy shape_at t.accesses in
    (shape_at, All-cons P u (t ∷ []) of_u (All-cons P t [] of_t (All-nil P)))
