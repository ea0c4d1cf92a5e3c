use Rattle.std.proofs.Common.{refl, ◌≡◌, ◌<◌, ◌+◌, ◌-◌, ◌++◌, ◌∷◌, [], ℕ, Bool, List, filter, ap, sym, ◌∙◌, append_assoc}
use Rattle.std.specs.List.{range_with_len}
use Rattle.dd_machine.specs.Needed.{is_needed}
use Rattle.dd_machine.specs.Words.{size}
use Rattle.dd_tables.specs.Tables.{state_of}
use Rattle.dd_tables.proofs.ListsLemmas.{filter_failed, filter_passed}
use Rattle.dd_tables.proofs.tables.Tables.needed_places.Goals.{then-is_needed+in_ok-push, else-is_needed}
use Rattle.dd_tables.proofs.tables.Tables.needed_places.Goals as goal

pub loop-i-preserved : goal.loop-i-preserved
loop-i-preserved c =
    let lt : c.loop-i.i < size c.args.plan.now c.args.block = rw (← c.size-i-end.ensures.value) c.loop-i-test.true in
    let p : ℕ → Bool = is_needed c.args.plan.now (state_of c.args.plan.now c.args.self.now) c.args.task c.args.block c.args.from in
    let n = size c.args.plan.now c.args.block in
    let rest = filter p (range_with_len (c.loop-i.i + 1) (n - (c.loop-i.i + 1))) in
    let old = c.loop-i.invariant in
    let items = c.loop-i.places.items in
    elim c.if-is_needed.branch [
      | then-is_needed+in_ok-push w ↦
          let all : c.if-is_needed.places.items ≡ items ++ c.loop-i.i ∷ [] = rw w.places-is w.in_ok-push.ensures.items in
          ap (λ (xs : List ℕ). xs ++ rest) all ∙ append_assoc items (c.loop-i.i ∷ []) rest
          ∙ ap (λ (xs : List ℕ). items ++ xs) (sym (filter_passed p c.loop-i.i n lt (sym c.is_needed.ensures ∙ w.if-is_needed.true))) ∙ old
      | else-is_needed w ↦
          let all : c.if-is_needed.places.items ≡ items = rw w.places-is refl in
          ap (λ (xs : List ℕ). xs ++ rest) all
          ∙ ap (λ (xs : List ℕ). items ++ xs) (sym (filter_failed p c.loop-i.i n lt (sym c.is_needed.ensures ∙ w.if-is_needed.false))) ∙ old
    ]
