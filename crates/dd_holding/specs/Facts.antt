-- What holds of the copies beside a ledger at every moment.
use Rattle.std.specs.Prelude.{◌≡◌, ℕ, ◌||◌, not, Bool, true, List, Some}
use Rattle.std.specs.Option.{option_map}
use Rattle.std.specs.Coded.{Coded-set, coded_list, coded_option, coded_ℕ, Π_prop, →_prop}
use Rattle.std.proofs.Props.{props}
use Rattle.std.specs.Borrow.{Bor}
use denote.Bor.{shr_coded}
use Rattle.dd_blocks.specs.contracts.plan.Plan.{the_row as plan_row}
use Rattle.dd_blocks.specs.declared.plan.Plan.{Plan}
use Rattle.dd_holding.specs.Views.{here_versions, slot_versions}
use Rattle.dd_ledger.specs.declared.ledger.Ledger.{Ledger}
use Rattle.dd_ledger.specs.Ledgers.{state_now}
use Rattle.dd_machine.specs.Runs.{has_pick}
use Rattle.dd_machine.specs.States.{State}
use Rattle.dd_pool.specs.declared.pool.Pool.{Pool}
use Rattle.dd_pool.specs.declared.spilled.Spilled.{Spilled}
use Rattle.dd_pool.specs.Places.{IsPlace}
use Rattle.dd_pool.specs.Pools.{copy_at, out_at}
use Rattle.dd_stamps.specs.declared.stamped.Stamped.{Stamped}
use Rattle.dd_store.specs.declared.store.Slot.{Ghosts as SlotGhosts}
use Rattle.dd_store.specs.declared.store.Store.{Ghosts}

-- the versions of a copy
abbrev pub stamps : Stamped → List ℕ
stamps copy = copy.versions.list

-- the slots tell their content, or none was made so far
abbrev pub IsTelling : Bool → Ledger → Type 0
IsTelling tells ledger = (tells || not (has_pick ledger.journal.items)) ≡ true

-- one reference equals another in one way at most
same_plan-prop : (p q : Bor Plan) → IsProp (p ≡ q)
same_plan-prop p q = Coded-set (shr_coded plan_row.coded) p q

module _ {D S : Type 0} {g : Ghosts D S} {h : SlotGhosts S} where
  -- a copy is in memory exactly where the state has it Here, and with its versions
  unfoldable pub HasHere : Plan → State → Pool D S g h → Type 0
  HasHere plan st pool = (s b : ℕ) → IsPlace plan s b → option_map stamps (copy_at pool s b) ≡ here_versions (st.copies s b)

  -- a slot has the versions of a copy that is in a slot
  unfoldable pub HasSlots : Plan → State → Pool D S g h → Type 0
  HasSlots plan st pool = (s b : ℕ) (out : Spilled S h) → IsPlace plan s b → out_at pool s b ≡ Some out → slot_versions (st.copies s b) ≡ Some out.versions.list

  -- the marks of all copies and slots are true
  pub record AreTold (pool : Pool D S g h) : Type 0 where
    pub copies : (s b : ℕ) (copy : Stamped) → IsPlace pool.plan.now s b → copy_at pool s b ≡ Some copy → copy.told.mark ≡ true
    pub slots : (s b : ℕ) (out : Spilled S h) → IsPlace pool.plan.now s b → out_at pool s b ≡ Some out → out.told.mark ≡ true

  -- the copies are those of the ledger's state, and true where slots tell or there are none
  pub record IsHolding (ledger : Ledger) (pool : Pool D S g h) : Type 0 where
    pub planned : pool.plan ≡ ledger.plan
    pub here : HasHere ledger.plan.now (state_now ledger) pool
    pub slots : HasSlots ledger.plan.now (state_now ledger) pool
    pub told : IsTelling (SlotGhosts.tells h) ledger → AreTold pool

  -- each of these holds in one way at most
  HasHere-prop : (plan : Plan) (st : State) (pool : Pool D S g h) → IsProp (HasHere plan st pool)
  unfolding HasHere
  HasHere-prop plan st pool =
      Π_prop (λ s. Π_prop (λ b. →_prop (Coded-set (coded_option (coded_list coded_ℕ)) (option_map stamps (copy_at pool s b)) (here_versions (st.copies s b)))))

  HasSlots-prop : (plan : Plan) (st : State) (pool : Pool D S g h) → IsProp (HasSlots plan st pool)
  unfolding HasSlots
  HasSlots-prop plan st pool =
      Π_prop (λ s. Π_prop (λ b. Π_prop (λ out. →_prop (→_prop (Coded-set (coded_option (coded_list coded_ℕ)) (slot_versions (st.copies s b)) (Some out.versions.list))))))

  AreTold-prop : (pool : Pool D S g h) → IsProp (AreTold pool)
  AreTold-prop pool = hlevel props

  pub IsHolding-prop : (ledger : Ledger) (pool : Pool D S g h) → IsProp (IsHolding ledger pool)
  IsHolding-prop ledger pool = hlevel (props, same_plan-prop, HasHere-prop, HasSlots-prop, AreTold-prop)
