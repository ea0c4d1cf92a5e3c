-- A copy that the state has Here is in memory, and no other is.
use Rattle.std.proofs.Common.{◌≡◌, ℕ, Bool, true, false, cond, List, Bor, Option, Some, None, refl, sym, ap, ◌∙◌, subst}
use Rattle.std.specs.Option.{option_map}
use Rattle.dd_blocks.specs.declared.plan.Plan.{Plan}
use Rattle.dd_blocks.specs.WellFormed.{IsWellFormed}
use Rattle.dd_copies.proofs.CellsLemmas.{there_in}
use Rattle.dd_holding.specs.Facts.{HasHere, IsHolding, stamps}
use Rattle.dd_holding.specs.Views.{here_versions}
use Rattle.dd_ledger.specs.declared.ledger.Ledger.{Ledger}
use Rattle.dd_ledger.specs.Ledgers.{state_now}
use Rattle.dd_ledger.proofs.FactsLemmas.{is_core}
use Rattle.dd_machine.specs.declared.copy_state.CopyState.{CopyState}
use Rattle.dd_machine.specs.Sound.{IsSound}
use Rattle.dd_machine.specs.States.{Copy}
use Rattle.dd_machine.specs.Tests.{Has, is_here, is_in_state, versions_of}
use Rattle.dd_pool.specs.declared.pool.Pool.{Pool}
use Rattle.dd_pool.specs.Places.{IsPlace}
use Rattle.dd_pool.specs.Pools.{copy_at}
use Rattle.dd_stamps.specs.declared.stamped.Stamped.{Stamped}
use Rattle.dd_store.specs.declared.store.Slot.{Ghosts as SlotGhosts}
use Rattle.dd_store.specs.declared.store.Store.{Ghosts}

no_more : {A : Type 0} → false ≡ true → A
no_more e = absurd (cc)

-- what is seen of a copy that is Here, and of another
pub seen_is : (c : Option Copy) → is_in_state is_here c ≡ true → here_versions c ≡ Some (versions_of c)
seen_is None is = no_more is
seen_is (Some c) is = ap (λ (t : Bool). cond t (Some c.versions) None) is

pub seen_away : (c : Option Copy) → is_in_state is_here c ≡ false → here_versions c ≡ None
seen_away None away = refl
seen_away (Some c) away = ap (λ (t : Bool). cond t (Some c.versions) None) away

some_stamped : (o : Option Stamped) (vs : List ℕ) → option_map stamps o ≡ Some vs → (copy : Stamped) × (o ≡ Some copy) × (copy.versions.list ≡ vs)
some_stamped None vs e = absurd (cc)
some_stamped (Some copy) vs e = (copy, refl, (cc))

none_stamped : (o : Option Stamped) → option_map stamps o ≡ None → o ≡ None
none_stamped None e = refl
none_stamped (Some copy) e = absurd (cc)

-- the state of a ledger is sound
pub sound_now : (l : Ledger) → IsWellFormed l.plan.now → IsSound l.plan.now (state_now l)
sound_now l well = (is_core _ _ _ _ _ well l.facts).sound

-- where there is a copy there is a place
pub place_there : (l : Ledger) (test : CopyState → Bool) (space block : ℕ) → Has (state_now l) space block test → IsPlace l.plan.now space block
place_there l test space block there =
    let known = there_in l.plan.now l.core.copies test space block l.facts.sized.copies there in
    record { a_space = known.0; a_block = known.1 }

module _ {D S : Type 0} {g : Ghosts D S} {h : SlotGhosts S} where
  pub in_memory : (l : Ledger) (pool : Pool D S g h) (space block : ℕ) → IsHolding l pool → IsPlace l.plan.now space block → Has (state_now l) space block is_here
      → (copy : Stamped) × (copy_at pool space block ≡ Some copy) × (copy.versions.list ≡ versions_of ((state_now l).copies space block))
  unfolding HasHere
  in_memory l pool space block facts place here =
      let c = (state_now l).copies space block in
      some_stamped (copy_at pool space block) (versions_of c) (facts.here space block place ∙ seen_is c here)

  pub out_of_memory : (l : Ledger) (pool : Pool D S g h) (space block : ℕ) → IsHolding l pool → IsPlace l.plan.now space block → here_versions ((state_now l).copies space block) ≡ None
      → copy_at pool space block ≡ None
  unfolding HasHere
  out_of_memory l pool space block facts place away = none_stamped (copy_at pool space block) (facts.here space block place ∙ away)

  -- nothing in memory is not something
  pub not_missing : {A : Type 0} (l : Ledger) (pool : Pool D S g h) (space block : ℕ) → IsHolding l pool → IsPlace l.plan.now space block → Has (state_now l) space block is_here
      → copy_at pool space block ≡ None → A
  not_missing l pool space block facts place here none =
      let there = in_memory l pool space block facts place here in
      absurd (let e : None ≡ Some there.0 = sym none ∙ there.1 in cc)

  pub versions_here : (l : Ledger) (pool : Pool D S g h) (space block : ℕ) (copy : Stamped) → IsHolding l pool → IsPlace l.plan.now space block → Has (state_now l) space block is_here
      → copy_at pool space block ≡ Some copy → copy.versions.list ≡ versions_of ((state_now l).copies space block)
  unfolding HasHere
  versions_here l pool space block copy facts place here there =
      let c = (state_now l).copies space block in
      let e : Some copy.versions.list ≡ Some (versions_of c) = ap (option_map stamps) (sym there) ∙ facts.here space block place ∙ seen_is c here in
      cc

  -- a place of the ledger's Plan is one of the pool's
  pub pool_place : (l : Ledger) (pool : Pool D S g h) (space block : ℕ) → IsHolding l pool → IsPlace l.plan.now space block → IsPlace pool.plan.now space block
  pool_place l pool space block facts place = subst (λ (p : Bor Plan). IsPlace p.now space block) (sym facts.planned) place
