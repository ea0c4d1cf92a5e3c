-- What holds of a ledger at every moment.
use Rattle.std.specs.Prelude.{◌≡◌, ℕ, ◌≤◌, List, Option}
use Rattle.std.proofs.Props.{props}
use Rattle.dd_blocks.specs.declared.plan.Plan.{Plan}
use Rattle.dd_core.specs.Cores.{core_state}
use Rattle.dd_ledger.specs.Endings.{endings}
use Rattle.dd_ledger.specs.Picks.{first_pick}
use Rattle.dd_machine.specs.declared.entry.Entry.{Entry}
use Rattle.dd_machine.specs.Runs.{IsLegalRun, state_of_run}
use Rattle.dd_machine.proofs.PropsLemmas.{IsRun-prop}
use Rattle.dd_tables.specs.declared.tables.Tables.{Tables}
use Rattle.dd_tables.specs.Sized.{IsSized}

-- the journal is a legal run, and the core is in the state that it leads to; its first Pick is known, and the endings that the
-- state wants are among those that room is kept for
pub record IsLedger (plan : Plan) (core : Tables) (journal : List Entry) (first : Option ℕ) (owed : ℕ) : Type 0 where
  pub sized : IsSized plan core
  pub state : core_state plan core ≡ state_of_run plan journal
  pub legal : IsLegalRun plan journal
  pub picks : first ≡ first_pick journal
  pub endings : endings plan (core_state plan core) ≤ owed

pub IsLedger-prop : (plan : Plan) (core : Tables) (journal : List Entry) (first : Option ℕ) (owed : ℕ) → IsProp (IsLedger plan core journal first owed)
IsLedger-prop plan core journal first owed = hlevel (props, IsRun-prop)
