-- What a table knows of its store.
use Rattle.std.specs.Prelude.{◌≡◌, ℕ, ◌+◌, ◌^◌, ◌≤◌, List, Option, Some, length}
use Rattle.std.specs.List.{filter}
use Rattle.std.proofs.Props.{props}
use Rattle.dd_causes.specs.Counts.{Rose}
use Rattle.dd_machine.specs.declared.entry.Entry.{Entry}
use Rattle.dd_machine.specs.Runs.{is_pick}
use Rattle.dd_table.specs.declared.fault.RunFault.{RunFault}
use Rattle.dd_table.specs.declared.fault.RunFault.TheVariants.{DiskFault}

-- how many entries are Picks
unfoldable pub pick_count : List Entry → ℕ
pick_count entries = length (filter (λ (e : Entry). is_pick e.event) entries)

-- the store made few slots before the run, and one for each Pick since; its count of faults hasn't fallen, and it rose where the
-- disk is the cause that is kept
pub record IsCounted (first_faults first_made faults made : ℕ) (cause : Option RunFault) (journal : List Entry) : Type 0 where
  pub few : first_made ≤ 2 ^ 62
  pub made_is : made ≡ first_made + pick_count journal
  pub later : first_faults ≤ faults
  pub risen : cause ≡ Some DiskFault → Rose first_faults faults

pub IsCounted-prop : (first_faults first_made faults made : ℕ) (cause : Option RunFault) (journal : List Entry) → IsProp (IsCounted first_faults first_made faults made cause journal)
IsCounted-prop first_faults first_made faults made cause journal = hlevel props
