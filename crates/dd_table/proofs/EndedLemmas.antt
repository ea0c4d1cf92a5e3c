-- How far the slots of a table are ended.
use Rattle.std.proofs.Common.{◌≡◌, ◌≢◌, ℕ, ◌+◌, ◌≤◌, [], None, Bor, refl, sym, ap, ◌∙◌, subst, ⊎_elim, arith}
use Rattle.std.proofs.lemmas.Bool.{cases_eq}
use Rattle.dd_blocks.specs.declared.plan.Plan.{Plan}
use Rattle.dd_holding.specs.declared.holding.Holding.{Holding}
use Rattle.dd_holding.specs.Holdings.{HasSlot, Holds}
use Rattle.dd_pool.specs.Places.{IsPlace}
use Rattle.dd_pool.specs.Pools.{out_at}
use Rattle.dd_store.specs.declared.store.Slot.{Ghosts as SlotGhosts}
use Rattle.dd_store.specs.declared.store.Store.{Ghosts}
use Rattle.dd_table.proofs.FactsLemmas.{holds_same, holds_then}

module _ {D S : Type 0} {g : Ghosts D S} {h : SlotGhosts S} where
  -- the first so many blocks of the space have no slot
  pub record HasEnded (plan : Plan) (old new : Holding D S g h) (space count : ℕ) : Type 0 where
    pub kept : Holds old new []
    pub none : (b : ℕ) → IsPlace plan space b → b ≤ count → out_at new.pool space b ≡ None
    pub others : (s b : ℕ) → IsPlace plan s b → s ≢ space → out_at new.pool s b ≡ out_at old.pool s b

  pub ended_first : (plan : Plan) (x : Holding D S g h) (space : ℕ) → HasEnded plan x x space 0
  ended_first plan x space = record {
    kept = holds_same x;
    none = λ b place le. let some = place.a_block.0 in absurd (omega (arith, some, le));
    others = λ s b place apart. refl;
  }

  pub ended_next : (plan : Plan) (x y z : Holding D S g h) (space count : ℕ) → x.ledger.plan.now ≡ plan → HasEnded plan x y space count → Holds y z [] → HasSlot y z space (count + 1) None
      → HasEnded plan x z space (count + 1)
  ended_next plan x y z space count same ended kept slot =
      let at : y.ledger.plan.now ≡ plan = ap (λ (p : Bor Plan). p.now) ended.kept.grows.plan ∙ same in
      record {
        kept = holds_then x y z [] [] ended.kept kept;
        none = λ b place le. ⊎_elim
            (λ (e : b ≡ count + 1). subst (λ (n : ℕ). out_at z.pool space n ≡ None) (sym e) slot.here)
            (λ (apart : b ≡ count + 1 → ⊥). slot.others space b (subst (λ (p : Plan). IsPlace p space b) (sym at) place) (λ _ e. apart e) ∙ ended.none b place (below b count le apart))
            (cases_eq b (count + 1));
        others = λ s b place apart. slot.others s b (subst (λ (p : Plan). IsPlace p s b) (sym at) place) (λ e _. apart e) ∙ ended.others s b place apart;
      }
    where
      below : (b count : ℕ) → b ≤ count + 1 → (b ≡ count + 1 → ⊥) → b ≤ count
      below b count le apart = omega (arith, le, apart)

  -- the first so many spaces have no slot
  pub record HasEndedAll (plan : Plan) (old new : Holding D S g h) (count : ℕ) : Type 0 where
    pub kept : Holds old new []
    pub none : (s b : ℕ) → IsPlace plan s b → s ≤ count → out_at new.pool s b ≡ None

  pub all_first : (plan : Plan) (x : Holding D S g h) → HasEndedAll plan x x 0
  all_first plan x = record { kept = holds_same x; none = λ s b place le. let some = place.a_space.0 in absurd (omega (arith, some, le)) }

  pub all_next : (plan : Plan) (x y z : Holding D S g h) (count : ℕ) → HasEndedAll plan x y count → Holds y z [] → ((b : ℕ) → IsPlace plan (count + 1) b → out_at z.pool (count + 1) b ≡ None)
      → ((s b : ℕ) → IsPlace plan s b → s ≢ count + 1 → out_at z.pool s b ≡ out_at y.pool s b) → HasEndedAll plan x z (count + 1)
  all_next plan x y z count ended kept none others = record {
    kept = holds_then x y z [] [] ended.kept kept;
    none = λ s b place le. ⊎_elim
        (λ (e : s ≡ count + 1). subst (λ (n : ℕ). out_at z.pool n b ≡ None) (sym e) (none b (subst (λ (n : ℕ). IsPlace plan n b) e place)))
        (λ (apart : s ≡ count + 1 → ⊥). others s b place apart ∙ ended.none s b place (below s count le apart))
        (cases_eq s (count + 1));
  }
    where
      below : (s count : ℕ) → s ≤ count + 1 → (s ≡ count + 1 → ⊥) → s ≤ count
      below s count le apart = omega (arith, le, apart)
