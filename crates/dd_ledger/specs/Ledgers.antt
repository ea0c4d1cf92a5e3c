-- A ledger, as callers see it.
use Rattle.std.specs.Prelude.{◌≡◌, ℕ, ◌-◌, ◌+◌, List, ◌++◌, vec_capacity, vec_len}
use Rattle.dd_core.specs.Cores.{core_state}
use Rattle.dd_ledger.specs.declared.ledger.Ledger.{Ledger}
use Rattle.dd_machine.specs.declared.entry.Entry.{Entry}
use Rattle.dd_machine.specs.States.{State}

-- the state of the machine after its entries
abbrev pub state_now : Ledger → State
state_now l = core_state l.plan.now l.core

-- for how many entries it has room, beside those that room is kept for
abbrev pub spare_of : Ledger → ℕ
spare_of l = vec_capacity l.journal - (vec_len l.journal + l.owed)

-- it is of the same Plan, and has these entries more
pub record GrowsBy (old new : Ledger) (added : List Entry) : Type 0 where
  pub plan : new.plan ≡ old.plan
  pub journal : new.journal.items ≡ old.journal.items ++ added
