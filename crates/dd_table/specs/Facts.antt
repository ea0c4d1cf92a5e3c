-- What holds of a table's slots while no cause is kept.
use Rattle.std.specs.Prelude.{◌≡◌, ℕ, true, Option, None, is_some}
use Rattle.std.proofs.Props.{props}
use Rattle.dd_holding.specs.Holdings.{state_now}
use Rattle.dd_holding.specs.declared.holding.Holding.{Holding}
use Rattle.dd_machine.specs.Tests.{is_idle, is_out, is_any, Has}
use Rattle.dd_pool.specs.Pools.{out_at}
use Rattle.dd_store.specs.declared.store.Slot.{Ghosts as SlotGhosts}
use Rattle.dd_store.specs.declared.store.Store.{Ghosts}
use Rattle.dd_table.specs.declared.fault.RunFault.{RunFault}

module _ {D S : Type 0} {g : Ghosts D S} {h : SlotGhosts S} where
  -- where no cause is kept nothing is under way with a copy, and one that is Out has its slot
  pub record IsSettled (holding : Holding D S g h) (cause : Option RunFault) : Type 0 where
    pub idle : cause ≡ None → (s b : ℕ) → Has (state_now holding) s b is_any → Has (state_now holding) s b is_idle
    pub slots : cause ≡ None → (s b : ℕ) → Has (state_now holding) s b is_out → is_some (out_at holding.pool s b) ≡ true

  pub IsSettled-prop : (holding : Holding D S g h) (cause : Option RunFault) → IsProp (IsSettled holding cause)
  IsSettled-prop holding cause = hlevel props
