-- How far tasks are led on, step by step.
use Rattle.std.specs.Prelude.{◌≡◌, ℕ, ◌≤◌, Bool, true, false, List, [], ◌∷◌, length, Some, None, IsSome, Result, Ok, Err}
use Rattle.dd_blocks.specs.declared.plan.Plan.{Plan}
use Rattle.dd_blocks.specs.WellFormed.{IsWellFormed}
use Rattle.dd_holding.specs.Carried.{carries}
use Rattle.dd_legal.specs.Starts.{MayStart}
use Rattle.dd_machine.specs.declared.event.Event.{Event}
use Rattle.dd_machine.specs.declared.event.Event.TheVariants.{Pick, Gone, Call, Come, Lend, Copy}
use Rattle.dd_machine.specs.declared.task_state.TaskState.TheVariants.{Waiting, Held}
use Rattle.dd_machine.specs.GoesOn.{LeadsHeldOn}
use Rattle.dd_machine.specs.Legal.{AllDone, May, MayHold}
use Rattle.dd_machine.specs.Needed.{needed}
use Rattle.dd_machine.specs.States.{State}
use Rattle.dd_next.specs.Claims.{is_claim}
use Rattle.dd_stamps.specs.declared.work.Work.{Work}
use Rattle.dd_store.specs.declared.store.Slot.{Ghosts as SlotGhosts}
use Rattle.dd_store.specs.declared.store.Store.{Ghosts}
use Rattle.dd_table.specs.declared.fault.RunFault.{RunFault}
use Rattle.dd_table.specs.declared.table.Table.{Table}
use Rattle.dd_table.specs.declared.took.Took.{Took}
use Rattle.dd_table.specs.declared.took.Took.TheVariants as took
use Rattle.dd_table.specs.declared.turns.Step.{Step}
use Rattle.dd_table.specs.declared.turns.Step.TheVariants as step
use Rattle.dd_table.specs.Outs.{running_count}
use Rattle.dd_table.specs.Still.{StandsStill}
use Rattle.dd_table.specs.Tables.{GrowsBy, IsCaused, state_now}
use Rattle.dd_table.specs.Turns.{HandsOut, Prepares}

-- the task can't be led on: where it is Held it can't start and nothing leads it on, and where it waits it can't be held
pub record Stands (task : ℕ) (plan : Plan) (st : State) : Type 0 where
  pub held : st.tasks task ≡ Held → (MayStart plan st task → ⊥) × ((event : Event) → LeadsHeldOn plan st task event → May plan st event → ⊥)
  pub waiting : st.tasks task ≡ Waiting → MayHold plan st task → ⊥

-- no task of the open region can be
abbrev pub AllStand : Plan → State → Type 0
AllStand plan st = (region : ℕ) → st.region ≡ Some region → StandsStill plan st region

-- nothing leads the task on but its Claim
abbrev pub IsServed : Plan → State → ℕ → Type 0
IsServed plan st task = (event : Event) → LeadsHeldOn plan st task event → May plan st event → is_claim event ≡ true

-- the event leads a task on, and doesn't start it
pub record Serves (plan : Plan) (st : State) (event : Event) : Type 0 where
  pub task : ℕ
  pub some : 1 ≤ task
  pub leads : LeadsHeldOn plan st task event
  pub may : May plan st event
  pub no_claim : is_claim event ≡ false

-- the events that are made where such an event is asked for
abbrev pub served : Plan → State → Event → List Event
served plan st (Pick space block) = Pick space block ∷ (Gone space block ∷ [])
served plan st (Call space block) = Call space block ∷ (Come space block ∷ [])
served plan st (Lend task block source) = Lend task block source ∷ (carries task block source (length (needed plan st task block source)) ∷ [])
served plan st (Copy task block source count) = carries task block source (length (needed plan st task block source)) ∷ []
served plan st event = event ∷ []

module _ {D S : Type 0} {g : Ghosts D S} {h : SlotGhosts S} where
  -- tasks may be led on: a region is open, and no cause is kept
  pub record MayLead (t : Table D S g h) : Type 0 where
    pub well : IsWellFormed t.holding.ledger.plan.now
    pub running : t.cause ≡ None
    pub open_is : IsSome (state_now t).region

  -- no entry was made
  pub record Stays (t u : Table D S g h) : Type 0 where
    pub grows : GrowsBy t u []
    pub cause : u.cause ≡ None

  -- some were made that lead tasks on, and a task is Held
  pub record Moves (t u : Table D S g h) : Type 0 where
    pub prior : List Event
    pub prepares : Prepares t u prior
    pub some : 1 ≤ length prior
    pub cause : u.cause ≡ None
    pub task : ℕ
    pub held : (state_now u).tasks task ≡ Held

  -- the run stops, and the cause is kept
  pub record Fails (t u : Table D S g h) (fault : RunFault) : Type 0 where
    pub prior : List Event
    pub prepares : Prepares t u prior
    pub cause : u.cause ≡ Some fault
    pub disk : IsCaused t u fault

  -- what a step gives; of what stands, so much is said
  abbrev pub StepGives : Table D S g h → Table D S g h → ℕ → (Plan → State → Type 0) → Result Step RunFault → Type 0
  StepGives t u worker stand (Ok (step.Claimed w)) = HandsOut t u worker w
  StepGives t u worker stand (Ok step.Moved) = Moves t u
  StepGives t u worker stand (Ok step.Stood) = Stays t u × stand u.holding.ledger.plan.now (state_now u)
  StepGives t u worker stand (Err fault) = Fails t u fault

  -- a task that is Held was led on, and is Held; whether some entry was made
  pub record HasServed (t u : Table D S g h) (task : ℕ) (some : Bool) : Type 0 where
    pub prior : List Event
    pub prepares : Prepares t u prior
    pub cause : u.cause ≡ None
    pub held : (state_now u).tasks task ≡ Held
    pub one : some ≡ true → 1 ≤ length prior
    pub none : some ≡ false → prior ≡ []

  -- what it gives to lead it on as far as it goes
  abbrev pub ServeGives : Table D S g h → Table D S g h → ℕ → Result Bool RunFault → Type 0
  ServeGives t u task (Ok some) = HasServed t u task some × IsServed u.holding.ledger.plan.now (state_now u) task
  ServeGives t u task (Err fault) = Fails t u fault

  -- what a Claim gives
  abbrev pub ClaimGives : Table D S g h → Table D S g h → ℕ → Result Work RunFault → Type 0
  ClaimGives t u worker (Ok w) = HandsOut t u worker w
  ClaimGives t u worker (Err fault) = Fails t u fault

  -- what a table answers in which no task can be led on
  abbrev pub StillGives : Table D S g h → Took → Type 0
  StillGives t (took.Idle running out) = (running ≡ running_count t.holding.ledger.plan.now (state_now t)) × (out ≡ 0) × (1 ≤ running)
  StillGives t took.AllDone = (region : ℕ) → (state_now t).region ≡ Some region → AllDone t.holding.ledger.plan.now (state_now t) region
  StillGives t _ = ⊥
