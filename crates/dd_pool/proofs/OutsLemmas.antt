-- What holds of the cells of slots after one of them was filled or emptied.
use Rattle.std.proofs.Common.{◌≡◌, ◌≢◌, ℕ, inl, inr, Bor, Option, Some, None, Result, Ok, Err, sym, ap, ◌∙◌, subst}
use Rattle.std.specs.Prelude.{OnOk, OnErr, ⊤}
use Rattle.dd_blocks.specs.declared.plan.Plan.{Plan}
use Rattle.dd_store.specs.declared.store.Slot.{Ghosts}
use Rattle.dd_pool.specs.declared.spilled.Spilled.{Spilled}
use Rattle.dd_pool.specs.declared.cells.Cells.{Cells}
use Rattle.dd_pool.specs.Cells.{HasNew, cell}
use Rattle.dd_pool.specs.Outs.{AreSlotsOf}
use Rattle.dd_pool.specs.Places.{IsPlace, place_of}
use Rattle.dd_pool.proofs.CellsLemmas.{same_or_not}
use Rattle.dd_pool.proofs.PlacesLemmas.{same_place}

module _ {S : Type 0} {h : Ghosts S} where
  -- a slot of the Plan and the block was put
  pub put_slot : (p : Bor Plan) (old new : Cells (Spilled S h)) (s b : ℕ) (x : Spilled S h) → IsPlace p.now s b → HasNew old new (place_of p.now s b) (Some x) → AreSlotsOf p old
      → x.plan ≡ p → x.block ≡ b → AreSlotsOf p new
  put_slot p old new s b x is has before plan block = λ t k out there held. elim (same_or_not (place_of p.now t k) (place_of p.now s b)) [
    | inl e ↦
        let same : Some x ≡ Some out = sym has.here ∙ ap (cell new) (sym e) ∙ held in
        let one : x ≡ out = (cc) in (
          sym (ap (λ (z : Spilled S h). z.plan) one) ∙ plan,
          sym (ap (λ (z : Spilled S h). z.block) one) ∙ block ∙ sym (same_place p.now t k s b there is e).1,
        )
    | inr ne ↦ before t k out there (sym (has.others (place_of p.now t k) ne) ∙ held)
  ]

  -- a slot was taken out
  pub take_slot : (p : Bor Plan) (old new : Cells (Spilled S h)) (s b : ℕ) → HasNew old new (place_of p.now s b) None → AreSlotsOf p old → AreSlotsOf p new
  take_slot p old new s b has before = λ t k out there held. elim (same_or_not (place_of p.now t k) (place_of p.now s b)) [
    | inl e ↦ let same : None ≡ Some out = sym has.here ∙ ap (cell new) (sym e) ∙ held in absurd (cc)
    | inr ne ↦ before t k out there (sym (has.others (place_of p.now t k) ne) ∙ held)
  ]

  -- all are as they were
  pub same_slots : (p : Bor Plan) (old new : Cells (Spilled S h)) → AreSlotsOf p old → ((i : ℕ) → cell new i ≡ cell old i) → AreSlotsOf p new
  same_slots p old new before same = λ t k out there held. before t k out there (sym (same (place_of p.now t k)) ∙ held)

  -- no slot
  pub no_slots : (p : Bor Plan) (outs : Cells (Spilled S h)) → ((i : ℕ) → cell outs i ≡ None) → AreSlotsOf p outs
  no_slots p outs none = λ t k out there held.
      let clash : None ≡ Some out = sym (none (place_of p.now t k)) ∙ held in
      absurd (cc)

  -- the place of a cell by another spelling
  pub new_at : (old new : Cells (Spilled S h)) (at place : ℕ) (item : Option (Spilled S h)) → at ≡ place → HasNew old new at item → HasNew old new place item
  new_at old new at place item same has = subst (λ (n : ℕ). HasNew old new n item) same has

  -- a slot of the Plan and the block was put, or nothing was
  pub put_slots : (p : Bor Plan) (old new : Cells (Spilled S h)) (s b at : ℕ) (x : Spilled S h) (answer : Result ⊤ (Spilled S h)) → IsPlace p.now s b → at ≡ place_of p.now s b
      → OnOk answer (HasNew old new at (Some x)) → OnErr answer ((i : ℕ) → cell new i ≡ cell old i) → AreSlotsOf p old → x.plan ≡ p → x.block ≡ b → AreSlotsOf p new
  put_slots p old new s b at x (Ok _) is same ok err before plan block = put_slot p old new s b x is (new_at old new at _ (Some x) same ok) before plan block
  put_slots p old new s b at x (Err _) is same ok err before plan block = same_slots p old new before err
