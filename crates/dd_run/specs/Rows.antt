-- Where a run stands between two statements.
use Rattle.std.specs.Prelude.{◌≡◌, ℕ, None}
use Rattle.dd_blocks.specs.declared.plan.Plan.{Plan}
use Rattle.dd_blocks.specs.Numbered.{IsNumberIn}
use Rattle.dd_pool.specs.Pools.{names_of}
use Rattle.dd_store.specs.declared.store.Slot.{Ghosts as SlotGhosts}
use Rattle.dd_store.specs.declared.store.Store.{Ghosts}
use Rattle.dd_table.specs.declared.table.Table.{Table}
use Rattle.dd_table.specs.Tables.{state_now}
use Rattle.laws_of_rows.specs.Rows as rows
use Rattle.laws_of_rows.specs.Rows.{names_at}

module _ {D S : Type 0} {g : Ghosts D S} {h : SlotGhosts S} where
  -- the first i rows were run: the entries of the others are left, no region is open and nothing is pinned, no cause is kept, and
  -- arrays have the names that these rows leave them
  pub record IsAtRow (plan : Plan) (i : ℕ) (t : Table D S g h) : Type 0 where
    pub plan_is : t.holding.ledger.plan.now ≡ plan
    pub cause : t.cause ≡ None
    pub at : rows.IsAtRow plan i (state_now t)
    pub names : (a : ℕ) → IsNumberIn plan.arrays a → names_of t.holding.pool a ≡ names_at plan i a
