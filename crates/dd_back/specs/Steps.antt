-- What the parts of a write-back say of each other.
use Rattle.std.specs.Prelude.{◌≡◌, ◌≢◌, ◌⊎◌, ℕ, ◌≤◌, ◌<◌, false, true, List, [], ◌∷◌, if◌then◌else◌, None, Some, Result, Ok, Err}
use Rattle.dd_blocks.specs.declared.plan.Plan.{Plan}
use Rattle.dd_core.specs.Stale.{is_stale}
use Rattle.dd_back.specs.Backs.{AllCurrent, Homes, StopsHoming, freed_elsewhere, freed_of_block, is_elsewhere}
use Rattle.dd_machine.specs.declared.event.Event.{Event}
use Rattle.dd_machine.specs.declared.event.Event.TheVariants.{Free}
use Rattle.dd_machine.specs.Bytes.{load}
use Rattle.dd_machine.specs.Legal.{AllDone}
use Rattle.dd_machine.specs.Needed.{is_needed}
use Rattle.dd_machine.specs.States.{State}
use Rattle.dd_machine.specs.Tests.{Has, is_here}
use Rattle.dd_machine.specs.Words.{IsOneOf, blocks, limit, size, spaces}
use Rattle.dd_store.specs.declared.store.Slot.{Ghosts as SlotGhosts}
use Rattle.dd_store.specs.declared.store.Store.{Ghosts}
use Rattle.dd_table.specs.declared.fault.RunFault.{RunFault}
use Rattle.dd_table.specs.declared.table.Table.{Table}
use Rattle.dd_table.specs.Tables.{Enters, state_now}

-- a region is open, and every task of it is done
pub record IsAtEnd (plan : Plan) (st : State) : Type 0 where
  pub region : ℕ
  pub open_is : st.region ≡ Some region
  pub done : AllDone plan st region

-- a block is pinned at its home: its copy there is Here, and there is room for one more
pub record IsPinnedHome (plan : Plan) (st : State) (block : ℕ) : Type 0 where
  pub at_end : IsAtEnd plan st
  pub pin : st.pin ≡ Some (st.homes block, block)
  pub here : Has st (st.homes block) block is_here
  pub low : load plan st (st.homes block) ≤ limit plan (st.homes block)

-- the home copy of a block needs nothing from a space
abbrev pub NeedsNone : Plan → State → ℕ → ℕ → Type 0
NeedsNone plan st block source = (i : ℕ) → i < size plan block → is_needed plan st 0 block source i ≡ true → ⊥

-- a copy is freed, where it stands elsewhere than at home
abbrev pub freed_at : State → ℕ → ℕ → List Event
freed_at st space block = if is_elsewhere st block space then Free space block ∷ [] else []

-- each copy is as it was, or it stood elsewhere than at home and is gone; no more changed that matters here
pub record Frees (st new : State) : Type 0 where
  pub region : new.region ≡ st.region
  pub tasks : new.tasks ≡ st.tasks
  pub homes : new.homes ≡ st.homes
  pub current : new.current ≡ st.current
  pub pin : new.pin ≡ st.pin
  pub progress : new.progress ≡ st.progress
  pub copies : (s b : ℕ) → (new.copies s b ≡ st.copies s b) ⊎ ((new.copies s b ≡ None) × (st.homes b ≢ s))

module _ {D S : Type 0} {g : Ghosts D S} {h : SlotGhosts S} where
  -- a block got what it lacked, from each space
  pub record Pulls (t u : Table D S g h) (block : ℕ) : Type 0 where
    pub homes : Homes t u
    pub pinned : IsPinnedHome t.holding.ledger.plan.now (state_now u) block
    pub none : (s : ℕ) → IsOneOf (spaces t.holding.ledger.plan.now) s → NeedsNone t.holding.ledger.plan.now (state_now u) block s

  abbrev pub PullsGive : Table D S g h → Table D S g h → ℕ → Result (Unit {0}) RunFault → Type 0
  PullsGive t u block (Ok done) = Pulls t u block
  PullsGive t u block (Err fault) = StopsHoming t u fault

  -- a block came home, and its home copy is current
  pub record ComesHome (t u : Table D S g h) (block : ℕ) : Type 0 where
    pub homes : Homes t u
    pub unpinned : (state_now u).pin ≡ None
    pub current : is_stale t.holding.ledger.plan.now (state_now u) block ≡ false

  abbrev pub ComeGives : Table D S g h → Table D S g h → ℕ → Result (Unit {0}) RunFault → Type 0
  ComeGives t u block (Ok done) = ComesHome t u block
  ComeGives t u block (Err fault) = StopsHoming t u fault

  -- all blocks came home
  pub record AllComeHome (t u : Table D S g h) : Type 0 where
    pub homes : Homes t u
    pub unpinned : (state_now u).pin ≡ None
    pub current : AllCurrent t.holding.ledger.plan.now (state_now u)

  abbrev pub AllComeGives : Table D S g h → Table D S g h → Result (Unit {0}) RunFault → Type 0
  AllComeGives t u (Ok done) = AllComeHome t u
  AllComeGives t u (Err fault) = StopsHoming t u fault

  -- the copies of a block that stood elsewhere than at home were freed, and no other copy
  pub record FreesOne (t u : Table D S g h) (block : ℕ) : Type 0 where
    pub enters : Enters t u (freed_of_block t.holding.ledger.plan.now (state_now t) block)
    pub frees : Frees (state_now t) (state_now u)
    pub others : (s b : ℕ) → b ≢ block → (state_now u).copies s b ≡ (state_now t).copies s b
    pub none : (s : ℕ) → IsOneOf (spaces t.holding.ledger.plan.now) s → is_elsewhere (state_now u) block s ≡ false

  -- those of all blocks were
  pub record FreesAll (t u : Table D S g h) : Type 0 where
    pub enters : Enters t u (freed_elsewhere t.holding.ledger.plan.now (state_now t))
    pub frees : Frees (state_now t) (state_now u)
    pub none : (s b : ℕ) → IsOneOf (spaces t.holding.ledger.plan.now) s → IsOneOf (blocks t.holding.ledger.plan.now) b → is_elsewhere (state_now u) b s ≡ false
