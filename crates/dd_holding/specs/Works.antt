-- Tasks that were handed out, and what they leave in the memory of their space.
use Rattle.std.specs.Prelude.{◌≡◌, ℕ, ◌+◌, List, [], length, Contains}
use Rattle.dd_ledger.specs.declared.ledger.Ledger.{Ledger}
use Rattle.dd_machine.specs.Runs.{has_pick}
use Rattle.dd_pool.specs.declared.pool.Pool.{Pool}
use Rattle.dd_pool.specs.Keys.{AreBoth}
use Rattle.dd_pool.specs.Places.{IsPlace}
use Rattle.dd_pool.specs.Pools.{KeepsRest, copy_at}
use Rattle.dd_stamps.specs.Copies.{Stores}
use Rattle.dd_stamps.specs.declared.work.Stage.TheVariants.{Collecting}
use Rattle.dd_stamps.specs.declared.work.Work.{Work}
use Rattle.dd_store.specs.declared.store.Slot.{Ghosts as SlotGhosts}
use Rattle.dd_store.specs.declared.store.Store.{Ghosts}

-- the work is that of the task, which the next entry of the ledger gives to the worker, and all that it finds was collected
pub record IsHandedOut (l : Ledger) (w : Work) (number_of whose : ℕ) : Type 0 where
  pub plan : w.plan ≡ l.plan
  pub task : w.task ≡ number_of
  pub worker : w.worker ≡ whose
  pub number : w.number ≡ length l.journal.items + 1
  pub picked : w.picked ≡ has_pick l.journal.items
  pub stage : w.stage ≡ Collecting
  pub collected : w.left.items ≡ []

module _ {D S : Type 0} {g : Ghosts D S} {h : SlotGhosts S} where
  -- what a work made was stored into the copies of some blocks of a space, and nothing else changed
  pub record StoresAll (old new : Pool D S g h) (work : Work) (space : ℕ) (blocks : List ℕ) : Type 0 where
    pub stored : (b : ℕ) → Contains blocks b → AreBoth (λ c d. Stores c work d) (copy_at old space b) (copy_at new space b)
    pub others : (s b : ℕ) → IsPlace old.plan.now s b → (s ≡ space → Contains blocks b → ⊥) → copy_at new s b ≡ copy_at old s b
    pub rest : KeepsRest old new
