-- A holding's facts, and how they are kept.
use Rattle.std.proofs.Common.{◌≡◌, ℕ, [], Bor, Option, Some, None, refl, sym, ap, ◌∙◌, subst, append-nil, Result, Ok, Err}
use Rattle.std.specs.Prelude.{OnOk, OnErr}
use Rattle.std.specs.Option.{option_map}
use Rattle.dd_blocks.specs.declared.plan.Plan.{Plan}
use Rattle.dd_holding.specs.Facts.{AreTold, HasHere, HasSlots, IsHolding, IsTelling, stamps}
use Rattle.dd_ledger.specs.declared.ledger.Ledger.{Ledger}
use Rattle.dd_ledger.specs.Ledgers.{GrowsBy, state_now}
use Rattle.dd_machine.specs.Runs.{start, state_after, state_of_run}
use Rattle.dd_machine.specs.States.{State}
use Rattle.dd_pool.specs.declared.pool.Pool.{Pool}
use Rattle.dd_pool.specs.Pools.{copy_at, out_at}
use Rattle.dd_store.specs.declared.store.Slot.{Ghosts as SlotGhosts}
use Rattle.dd_store.specs.declared.store.Store.{Ghosts}

-- what follows from both answers of a call
pub either : {A E P X Y : Type 0} (r : Result A E) → OnOk r X → OnErr r Y → (X → P) → (Y → P) → P
either (Ok x) ok err f g = f ok
either (Err e) ok err f g = g err

-- a ledger that stays grows by nothing
pub no_growth : (l : Ledger) → GrowsBy l l []
no_growth l = record { plan = refl; journal = sym (append-nil l.journal.items) }

module _ {D S : Type 0} {g : Ghosts D S} {h : SlotGhosts S} where
  -- the facts, from those of a state that the ledger is in
  pub holding_of : (l u : Ledger) (pool : Pool D S g h) (st : State) → u.plan ≡ l.plan → state_now u ≡ st → pool.plan ≡ l.plan → HasHere l.plan.now st pool → HasSlots l.plan.now st pool
      → (IsTelling (SlotGhosts.tells h) u → AreTold pool) → IsHolding u pool
  holding_of l u pool st same is planned here slots told =
      let here_u : HasHere l.plan.now (state_now u) pool = subst (λ (x : State). HasHere l.plan.now x pool) (sym is) here in
      let slots_u : HasSlots l.plan.now (state_now u) pool = subst (λ (x : State). HasSlots l.plan.now x pool) (sym is) slots in
      record {
        planned = planned ∙ sym same;
        here = subst (λ (p : Bor Plan). HasHere p.now (state_now u) pool) (sym same) here_u;
        slots = subst (λ (p : Bor Plan). HasSlots p.now (state_now u) pool) (sym same) slots_u;
        told = told;
      }

  -- without copies and slots
  pub empty_holding : (l : Ledger) (pool : Pool D S g h) → l.journal.items ≡ [] → pool.plan ≡ l.plan → ((s b : ℕ) → copy_at pool s b ≡ None) → ((s b : ℕ) → out_at pool s b ≡ None)
      → IsHolding l pool
  unfolding HasHere HasSlots state_after
  empty_holding l pool empty planned none no_slot =
      holding_of l l pool (start l.plan.now) refl (l.facts.state ∙ ap (state_of_run l.plan.now) empty) planned (λ s b _. ap (option_map stamps) (none s b)) (λ s b out _ there. nothing (out_at pool s b) out (no_slot s b) there)
      (λ _. record { copies = λ s b copy _ there. nothing (copy_at pool s b) copy (none s b) there; slots = λ s b out _ there. nothing (out_at pool s b) out (no_slot s b) there })
    where
      nothing : {A B : Type 0} (o : Option A) (x : A) → o ≡ None → o ≡ Some x → B
      nothing o x none there = absurd (let e : None ≡ Some x = sym none ∙ there in cc)
