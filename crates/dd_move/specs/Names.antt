-- What is entered where a name of an array is dropped.
use Rattle.std.specs.Prelude.{◌≡◌, ℕ, ◌+◌, ◌≤◌, nat_eq, cond, List, [], ◌∷◌}
use Rattle.std.specs.List.{flat_map}
use Rattle.dd_blocks.specs.Numbered.{IsNumberIn}
use Rattle.dd_blocks.specs.declared.plan.Plan.{Plan}
use Rattle.dd_core.specs.Lines.{with_line}
use Rattle.dd_ledger.specs.Ledgers as ledgers
use Rattle.dd_machine.specs.declared.event.Event.{Event}
use Rattle.dd_machine.specs.declared.event.Event.TheVariants.{Free}
use Rattle.dd_machine.specs.Owed.{blocks_of}
use Rattle.dd_machine.specs.States.{State}
use Rattle.dd_pool.specs.Pools.{names_of}
use Rattle.dd_store.specs.declared.store.Slot.{Ghosts as SlotGhosts}
use Rattle.dd_store.specs.declared.store.Store.{Ghosts}
use Rattle.dd_table.specs.declared.table.Table.{Table}
use Rattle.dd_table.specs.Tables.{line_now, state_now}

-- the home copies of an array's blocks are freed
abbrev pub free_events : Plan → State → ℕ → List Event
free_events plan st array = flat_map (λ b. Free (st.homes b) b ∷ []) (blocks_of plan array)

module _ {D S : Type 0} {g : Ghosts D S} {h : SlotGhosts S} where
  -- the array has a name less, and where that was the last one its blocks were freed; nothing else was entered, and no other array
  -- has other names
  pub record Drops (t u : Table D S g h) (array : ℕ) : Type 0 where
    pub here : names_of u.holding.pool array + 1 ≡ names_of t.holding.pool array
    pub others : (a : ℕ) → IsNumberIn t.holding.ledger.plan.now.arrays a → (a ≡ array → ⊥) → names_of u.holding.pool a ≡ names_of t.holding.pool a
    pub entered : ledgers.GrowsBy t.holding.ledger u.holding.ledger
        (with_line (line_now t) (cond (nat_eq (names_of t.holding.pool array) 1) (free_events t.holding.ledger.plan.now (state_now t) array) []))
    pub opening : u.opening.value ≡ t.opening.value
    pub later : Ghosts.faults g t.store ≤ Ghosts.faults g u.store
    pub cause : u.cause ≡ t.cause
