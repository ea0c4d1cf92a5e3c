-- What the calls of a run give.
use Rattle.std.specs.Prelude.{◌≡◌, ℕ, suc, Bool, List, Option, None, Some, Result, Ok, Err, OnErr, OnOk, IsErrOf, All}
use Rattle.std.specs.Io.KnownBytes.{Appends}
use Rattle.dd_blocks.specs.declared.plan.Plan.{Plan}
use Rattle.dd_core.specs.Lines.{with_line}
use Rattle.dd_ledger.specs.Ledgers as ledgers
use Rattle.dd_machine.specs.declared.event.Event.{Event}
use Rattle.dd_machine.specs.declared.event.Event.TheVariants.{Claim}
use Rattle.dd_machine.specs.Legal.{AllDone}
use Rattle.dd_machine.specs.Words.{rows, statement}
use Rattle.dd_print.specs.declared.fault.PrintFault.{PrintFault}
use Rattle.dd_print.specs.declared.fault.PrintFault.TheVariants as print
use Rattle.dd_print.specs.Held.{IsTelling}
use Rattle.dd_run.specs.Journals.{ClaimsBy}
use Rattle.dd_run.specs.Rows.{IsAtRow}
use Rattle.dd_run.specs.Texts.{WritesPrefix, whole_text}
use Rattle.dd_store.specs.declared.store.Slot.{Ghosts as SlotGhosts}
use Rattle.dd_store.specs.declared.store.Store.{Ghosts}
use Rattle.dd_table.specs.declared.fault.RunFault.{RunFault}
use Rattle.dd_table.specs.declared.fault.RunFault.TheVariants as run
use Rattle.dd_table.specs.declared.table.Table.{Table}
use Rattle.dd_table.specs.Tables.{GrowsBy, line_now, state_now}

-- no event is a Claim of another worker
abbrev pub AreBy : ℕ → List Event → Type 0
AreBy number events = All (λ (e : Event). (task worker : ℕ) → e ≡ Claim task worker → worker ≡ number) events

-- why a run ended early: None where it is whole
abbrev pub why_ended : Result (Unit {0}) PrintFault → Option PrintFault
why_ended (Ok done) = None
why_ended (Err fault) = Some fault

module _ {D S : Type 0} {g : Ghosts D S} {h : SlotGhosts S} where
  -- the new entries have the line of the row with i rows above it, and all Claims are those of worker 1
  pub record EntersRow (plan : Plan) (i : ℕ) (t u : Table D S g h) : Type 0 where
    pub added : List Event
    pub grows : ledgers.GrowsBy t.holding.ledger u.holding.ledger (with_line (statement plan (suc i)).line added)
    pub claims : AreBy 1 added
    pub opening : u.opening.value ≡ t.opening.value

  -- what a row gives that writes nothing: the next row is next; the disk is the answer only where the table keeps that
  abbrev pub StandsAfter : Plan → ℕ → Table D S g h → Result (Unit {0}) RunFault → Type 0
  StandsAfter plan i u (Ok done) = IsAtRow plan (suc i) u
  StandsAfter plan i u (Err fault) = fault ≡ run.DiskFault → u.cause ≡ Some run.DiskFault

  pub record RunGives (plan : Plan) (i : ℕ) (t u : Table D S g h) (result : Result (Unit {0}) RunFault) : Type 0 where
    pub enters : EntersRow plan i t u
    pub stands : StandsAfter plan i u result

  -- what any row gives
  abbrev pub EndsRow : Plan → ℕ → Table D S g h → Result (Unit {0}) PrintFault → Type 0
  EndsRow plan i u (Ok done) = IsAtRow plan (suc i) u
  EndsRow plan i u (Err fault) = fault ≡ print.DiskFault → u.cause ≡ Some run.DiskFault

  pub record RowGives (plan : Plan) (i : ℕ) (t u : Table D S g h) (result : Result (Unit {0}) PrintFault) : Type 0 where
    pub enters : EntersRow plan i t u
    pub ends : EndsRow plan i u result

  -- what all rows give
  pub record RowsGive (plan : Plan) (logged : Bool) (t u : Table D S g h) (result : Result (Unit {0}) PrintFault) (taken taken' : Option (List ℕ)) : Type 0 where
    pub ended : OnOk result (IsAtRow plan (rows plan) u)
    pub claims : ClaimsBy 1 u.holding.ledger.journal.items
    pub plan_is : u.holding.ledger.plan ≡ t.holding.ledger.plan
    pub opening : u.opening.value ≡ t.opening.value
    pub disk : IsErrOf result print.DiskFault → u.cause ≡ Some run.DiskFault
    pub all : IsTelling u → OnOk result (Appends taken taken' (whole_text plan logged u.holding.ledger.journal.items))
    pub prefix : IsTelling u → OnErr result (WritesPrefix plan logged u.holding.ledger.journal.items taken taken')

  -- what the tasks of a region give: every one is done, and nothing else of what the statements see changed
  pub record RunsTasks (t u : Table D S g h) (result : Result (Unit {0}) RunFault) : Type 0 where
    pub added : List Event
    pub grows : GrowsBy t u (with_line (line_now t) added)
    pub claims : AreBy 1 added
    pub progress : (state_now u).progress ≡ (state_now t).progress
    pub region : (state_now u).region ≡ (state_now t).region
    pub pin : (state_now u).pin ≡ (state_now t).pin
    pub done : OnOk result ((region : ℕ) → (state_now u).region ≡ Some region → AllDone u.holding.ledger.plan.now (state_now u) region)
    pub running : OnOk result (u.cause ≡ None)
    pub stopped : (fault : RunFault) → result ≡ Err fault → u.cause ≡ Some fault
