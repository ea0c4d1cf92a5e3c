-- What a worker gets of a table, and gives back.
use Rattle.std.specs.Prelude.{◌≡◌, ℕ, ◌+◌, ◌≤◌, ◌||◌, true, not, List, [], ◌∷◌, ◌++◌, length, All, None, Some, IsSome}
use Rattle.dd_machine.specs.declared.event.Event.{Event}
use Rattle.dd_machine.specs.declared.event.Event.TheVariants.{Claim}
use Rattle.dd_machine.specs.Legal.{AllDone}
use Rattle.dd_stamps.specs.declared.work.Stage.TheVariants.{Collecting, Ran}
use Rattle.dd_stamps.specs.declared.work.Work.{Work}
use Rattle.dd_store.specs.declared.store.Slot.{Ghosts as SlotGhosts}
use Rattle.dd_store.specs.declared.store.Store.{Ghosts}
use Rattle.dd_table.specs.declared.fault.RunFault.TheVariants.{DiskFault, Memory}
use Rattle.dd_table.specs.declared.table.Table.{Table}
use Rattle.dd_table.specs.declared.took.Took.{Took}
use Rattle.dd_table.specs.declared.took.Took.TheVariants as took
use Rattle.dd_table.specs.Outs.{IsOut, running_count}
use Rattle.dd_table.specs.Still.{IsPreparing, StandsStill}
use Rattle.dd_core.specs.Lines.{with_line}
use Rattle.dd_table.specs.Tables.{GrowsBy, IsCaused, line_now, state_now}

module _ {D S : Type 0} {g : Ghosts D S} {h : SlotGhosts S} where
  -- the new entries, with the next line, lead tasks on
  pub record Prepares (t u : Table D S g h) (prior : List Event) : Type 0 where
    pub grows : GrowsBy t u (with_line (line_now t) prior)
    pub prepares : All IsPreparing prior

  -- a work was handed out: its Claim is the last entry, and all that its task reads was collected
  pub record HandsOut (t u : Table D S g h) (worker : ℕ) (w : Work) : Type 0 where
    pub prior : List Event
    pub grows : GrowsBy t u (with_line (line_now t) (prior ++ Claim w.task worker ∷ []))
    pub prepares : All IsPreparing prior
    pub by : w.worker ≡ worker
    pub number : w.number ≡ length u.holding.ledger.journal.items
    pub out : IsOut u w
    pub stage : w.stage ≡ Collecting
    pub collected : w.left.items ≡ []
    pub told : (SlotGhosts.tells h || not w.picked) ≡ true → w.told.mark ≡ true
    pub before : t.cause ≡ None
    pub cause : u.cause ≡ None

  -- nobody can go on but those who run
  pub record IsIdle (t u : Table D S g h) (running out : ℕ) : Type 0 where
    pub prior : List Event
    pub prepares : Prepares t u prior
    pub running_is : running ≡ running_count u.holding.ledger.plan.now (state_now u)
    pub out_is : out ≡ 0
    pub some : 1 ≤ running + out
    pub still : (region : ℕ) → (state_now u).region ≡ Some region → StandsStill u.holding.ledger.plan.now (state_now u) region
    pub before : t.cause ≡ None
    pub cause : u.cause ≡ None

  -- every task of the region is done
  pub record IsDone (t u : Table D S g h) : Type 0 where
    pub grows : GrowsBy t u []
    pub done : (region : ℕ) → (state_now u).region ≡ Some region → AllDone u.holding.ledger.plan.now (state_now u) region
    pub before : t.cause ≡ None
    pub cause : u.cause ≡ None

  -- what a call of `next` gives
  abbrev pub NextGives : Table D S g h → Table D S g h → ℕ → Took → Type 0
  NextGives t u worker (took.Work w) = HandsOut t u worker w
  NextGives t u worker (took.Idle running out) = IsIdle t u running out
  NextGives t u worker took.AllDone = IsDone t u
  NextGives t u worker took.Stopped = GrowsBy t u [] × IsSome t.cause × (u.cause ≡ t.cause)
  NextGives t u worker took.DiskFault = ((prior : List Event) × Prepares t u prior) × (t.cause ≡ None) × (u.cause ≡ Some DiskFault) × IsCaused t u DiskFault
  NextGives t u worker took.Memory = ((prior : List Event) × Prepares t u prior) × (t.cause ≡ None) × (u.cause ≡ Some Memory)

  -- what `finish` needs of a work
  pub record MayFinish (t : Table D S g h) (w : Work) : Type 0 where
    pub out : IsOut t w
    pub ran : w.stage ≡ Ran
    pub told : (SlotGhosts.tells h || not w.picked) ≡ true → w.told.mark ≡ true
