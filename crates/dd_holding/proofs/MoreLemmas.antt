-- A copy with more spare is seen as it was.
use Rattle.std.proofs.Common.{◌≡◌, ℕ, ◌≤◌, inl, inr, Bor, Option, Some, None, Result, Ok, Err, refl, sym, ap, ◌∙◌, subst, arith}
use Rattle.std.specs.Option.{option_map}
use Rattle.std.specs.Prelude.{IsSomeAnd, OnOk}
use Rattle.dd_blocks.specs.declared.plan.Plan.{Plan}
use Rattle.dd_holding.specs.Facts.{HasHere, HasSlots, IsHolding, stamps}
use Rattle.dd_holding.specs.Users.{HasSpare}
use Rattle.dd_holding.proofs.ChangedLemmas.{at_same, here_changed, one_or_other, others_of, told_changed}
use Rattle.dd_holding.proofs.SpareLemmas.{spare_put}
use Rattle.dd_ledger.specs.declared.ledger.Ledger.{Ledger}
use Rattle.dd_ledger.specs.Ledgers.{state_now}
use Rattle.dd_pool.specs.declared.pool.Pool.{Pool}
use Rattle.dd_pool.specs.Copies.{HasMoreSpare}
use Rattle.dd_pool.specs.Keys.{AreBoth, AreThree}
use Rattle.dd_pool.specs.Places.{IsPlace}
use Rattle.dd_pool.specs.Pools.{HasCopy, KeepsRest, copy_at}
use Rattle.dd_stamps.specs.declared.stamped.Stamped.{Stamped}
use Rattle.dd_store.specs.declared.store.Slot.{Ghosts as SlotGhosts}
use Rattle.dd_store.specs.declared.store.Store.{Ghosts}

-- both are there, by name
pub both_are : {A : Type 0} (R : A → A → Type 0) (o p : Option A) → AreBoth R o p → (x : A) × (y : A) × (o ≡ Some x) × (p ≡ Some y) × R x y
both_are R None None both = absurd both
both_are R None (Some y) both = absurd both
both_are R (Some x) None both = absurd both
both_are R (Some x) (Some y) both = (x, y, refl, refl, both)

pub three_are : {A : Type 0} (R : A → A → A → Type 0) (o p q : Option A) → AreThree R o p q → (x : A) × (y : A) × (z : A) × (o ≡ Some x) × (p ≡ Some y) × (q ≡ Some z) × R x y z
three_are R None p q three = absurd three
three_are R (Some x) None q three = absurd three
three_are R (Some x) (Some y) None three = absurd three
three_are R (Some x) (Some y) (Some z) three = (x, y, z, refl, refl, refl, three)

-- what is there has as much spare
spare_is : (o : Option Stamped) (copy : Stamped) (n : ℕ) → o ≡ Some copy → n ≤ copy.versions.spare → IsSomeAnd o (λ (d : Stamped). n ≤ d.versions.spare)
spare_is o copy n there le = subst (λ (x : Option Stamped). IsSomeAnd x (λ (d : Stamped). n ≤ d.versions.spare)) (sym there) le

-- less is in reach where more is
pub less_spare : {A E : Type 0} (r : Result A E) (o : Option Stamped) (less more : ℕ) → less ≤ more → OnOk r (IsSomeAnd o (λ (c : Stamped). more ≤ c.versions.spare))
    → OnOk r (IsSomeAnd o (λ (c : Stamped). less ≤ c.versions.spare))
less_spare (Err e) o less more le has = tt
less_spare (Ok x) None less more le has = absurd has
less_spare (Ok x) (Some c) less more le has = omega (arith, le, has)

module _ {D S : Type 0} {g : Ghosts D S} {h : SlotGhosts S} where
  pub more_spare : (l : Ledger) (pool now : Pool D S g h) (space block : ℕ) (old new : Stamped) → IsPlace l.plan.now space block → copy_at pool space block ≡ Some old → HasMoreSpare old new
      → HasCopy pool now space block (Some new) → IsHolding l pool → IsHolding l now
  unfolding HasHere HasSlots
  more_spare l pool now space block old new place there more has facts =
      let plan = l.plan.now in
      let st = state_now l in
      let planned : pool.plan.now ≡ plan = ap (λ (p : Bor Plan). p.now) facts.planned in
      let others = others_of plan pool now space block (Some new) planned has in
      let here : copy_at now space block ≡ Some new = has.copies.here in
      record {
        planned = has.rest.plan ∙ facts.planned;
        here = here_changed plan st st pool now space block (λ s b _. refl) others
            (ap (option_map stamps) here ∙ ap Some more.versions ∙ sym (ap (option_map stamps) there) ∙ facts.here space block place) facts.here;
        slots = λ s b out is at. facts.slots s b out is (sym (has.rest.outs s b) ∙ at);
        told = λ is.
            let told = facts.told is in
            told_changed plan pool now space block planned (ap (λ (p : Bor Plan). p.now) has.rest.plan ∙ planned) others (λ s b _ _. has.rest.outs s b)
            (λ c at. let e : Some new ≡ Some c = sym here ∙ at in let one : new ≡ c = (cc) in sym (ap (λ (x : Stamped). x.told.mark) one) ∙ more.told
            ∙ told.copies space block old (subst (λ (p : Plan). IsPlace p space block) (sym planned) place) there)
            (λ out at. told.slots space block out (subst (λ (p : Plan). IsPlace p space block) (sym planned) place) (sym (has.rest.outs space block) ∙ at)) told;
      }

  pub more_kept : (l : Ledger) (pool now : Pool D S g h) (space block : ℕ) (old new : Stamped) → IsPlace l.plan.now space block → copy_at pool space block ≡ Some old → HasMoreSpare old new
      → HasCopy pool now space block (Some new) → pool.plan.now ≡ l.plan.now → HasSpare l.plan.now (state_now l) pool → HasSpare l.plan.now (state_now l) now
  unfolding HasSpare
  more_kept l pool now space block old new place there more has planned spare =
      let was = spare space block old place there in
      let grown = more.spare in
      spare_put l.plan.now (state_now l) pool now space block new (others_of l.plan.now pool now space block (Some new) planned has) has.copies.here (omega (arith, was, grown)) spare

  -- where a copy was changed the rest is as it was
  pub more_rest : (R : Stamped → Stamped → Type 0) (pool now : Pool D S g h) (space block : ℕ) (o p : Option Stamped) → AreBoth (λ c d. R c d × HasCopy pool now space block (Some d)) o p → KeepsRest pool now
  more_rest R pool now space block o p both = (both_are (λ c d. R c d × HasCopy pool now space block (Some d)) o p both).4.1.rest

  -- no copy has less spare
  pub none_less : (plan : Plan) (pool now : Pool D S g h) (space block : ℕ) (old new : Stamped) → pool.plan.now ≡ plan → copy_at pool space block ≡ Some old → HasMoreSpare old new
      → HasCopy pool now space block (Some new) → (s b : ℕ) (copy : Stamped) → IsPlace plan s b → copy_at pool s b ≡ Some copy → IsSomeAnd (copy_at now s b) (λ (d : Stamped). copy.versions.spare ≤ d.versions.spare)
  none_less plan pool now space block old new planned there more has s b copy place at =
      elim (one_or_other s b space block) [
        | inl e ↦
            let held : Some old ≡ Some copy = sym there ∙ sym (at_same (copy_at pool) s b space block e.0 e.1) ∙ at in
            let one : old ≡ copy = (cc) in
            spare_is (copy_at now s b) new copy.versions.spare (at_same (copy_at now) s b space block e.0 e.1 ∙ has.copies.here) (subst (λ (x : Stamped). x.versions.spare ≤ new.versions.spare) one more.spare)
        | inr e ↦ spare_is (copy_at now s b) copy copy.versions.spare (others_of plan pool now space block (Some new) planned has s b place e ∙ at) (omega arith)
      ]

  pub three_rest : (R : Stamped → Stamped → Stamped → Type 0) (pool now : Pool D S g h) (space block : ℕ) (o p q : Option Stamped) → AreThree (λ c d e. R c d e × HasCopy pool now space block (Some e)) o p q
      → KeepsRest pool now
  three_rest R pool now space block o p q three = (three_are (λ c d e. R c d e × HasCopy pool now space block (Some e)) o p q three).6.1.rest
