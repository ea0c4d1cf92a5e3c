-- What the write-back enters.
use Rattle.std.specs.Prelude.{◌≡◌, ℕ, ◌&&◌, not, nat_eq, Bool, true, false, List, [], ◌∷◌, ◌++◌, map, Some, Result, Ok, Err}
use Rattle.std.specs.List.{filter, flat_map, list_all, range_with_len}
use Rattle.dd_blocks.specs.declared.plan.Plan.{Plan}
use Rattle.dd_core.specs.Lines.{with_line}
use Rattle.dd_core.specs.Stale.{is_stale}
use Rattle.dd_machine.specs.declared.event.Event.{Event}
use Rattle.dd_machine.specs.declared.event.Event.TheVariants.{Ask, Rest, Put, Shift, Free, Begin, Hold, Pick, Gone, Make, Call, Come, Lend, Copy, Claim, Finish, Back, Close}
use Rattle.dd_machine.specs.Runs.{state_after}
use Rattle.dd_machine.specs.States.{State}
use Rattle.dd_machine.specs.Tests.{is_any, is_in_state}
use Rattle.dd_machine.specs.Words.{IsOneOf, blocks, spaces}
use Rattle.dd_store.specs.declared.store.Slot.{Ghosts as SlotGhosts}
use Rattle.dd_store.specs.declared.store.Store.{Ghosts}
use Rattle.dd_table.specs.declared.fault.RunFault.{RunFault}
use Rattle.dd_table.specs.declared.table.Table.{Table}
use Rattle.dd_table.specs.Tables.{Ends, GrowsBy, IsCaused, line_now, state_now}

-- an event that brings a block home: the block is asked for, others make room for it, it gets what it lacks, its pin is given up
abbrev pub is_homing : Event → Bool
is_homing (Ask space block) = true
is_homing Rest = true
is_homing (Put block) = false
is_homing (Shift block space) = false
is_homing (Free space block) = false
is_homing (Begin region) = false
is_homing (Hold task) = false
is_homing (Pick space block) = true
is_homing (Gone space block) = true
is_homing (Make task block) = false
is_homing (Call space block) = true
is_homing (Come space block) = true
is_homing (Lend task block source) = nat_eq task 0
is_homing (Copy task block source count) = false
is_homing (Claim task worker) = false
is_homing (Finish task) = false
is_homing (Back block source count) = true
is_homing (Close region) = false

-- all of them do
abbrev pub AreHoming : List Event → Type 0
AreHoming events = list_all is_homing events ≡ true

-- the copies of a block that aren't at its home are freed, by rising spaces; those of all blocks, by rising blocks
abbrev pub is_elsewhere : State → ℕ → ℕ → Bool
is_elsewhere st block space = not (nat_eq (st.homes block) space) && is_in_state is_any (st.copies space block)

abbrev pub freed_of_block : Plan → State → ℕ → List Event
freed_of_block plan st block = map (λ space. Free space block) (filter (is_elsewhere st block) (range_with_len 1 (spaces plan)))

abbrev pub freed_elsewhere : Plan → State → List Event
freed_elsewhere plan st = flat_map (freed_of_block plan st) (range_with_len 1 (blocks plan))

-- no home copy lacks a version
abbrev pub AllCurrent : Plan → State → Type 0
AllCurrent plan st = (block : ℕ) → IsOneOf (blocks plan) block → is_stale plan st block ≡ false

module _ {D S : Type 0} {g : Ghosts D S} {h : SlotGhosts S} where
  -- events that bring blocks home were entered, and the run goes on
  pub record Homes (t u : Table D S g h) : Type 0 where
    pub events : List Event
    pub homing : AreHoming events
    pub ends : Ends t u events

  -- some of them were entered, and then the run stopped: the cause is kept
  pub record StopsHoming (t u : Table D S g h) (fault : RunFault) : Type 0 where
    pub events : List Event
    pub homing : AreHoming events
    pub grows : GrowsBy t u (with_line (line_now t) events)
    pub cause : u.cause ≡ Some fault
    pub disk : IsCaused t u fault
    pub kept : (f : RunFault) → t.cause ≡ Some f → (fault ≡ f) × (events ≡ [])

  -- all of it: blocks come home until each home copy is current, then all other copies are freed, and the region is closed
  pub record WritesBack (t u : Table D S g h) (region : ℕ) : Type 0 where
    pub home : List Event
    pub homing : AreHoming home
    pub current : AllCurrent t.holding.ledger.plan.now (state_after t.holding.ledger.plan.now (state_now t) (with_line (line_now t) home))
    pub ends : Ends t u (home ++ (freed_elsewhere t.holding.ledger.plan.now (state_after t.holding.ledger.plan.now (state_now t) (with_line (line_now t) home)) ++ Close region ∷ []))

  -- what the write-back gives
  abbrev pub WriteBackGives : Table D S g h → Table D S g h → Result (Unit {0}) RunFault → Type 0
  WriteBackGives t u (Ok done) = (region : ℕ) → (state_now t).region ≡ Some region → WritesBack t u region
  WriteBackGives t u (Err fault) = StopsHoming t u fault
