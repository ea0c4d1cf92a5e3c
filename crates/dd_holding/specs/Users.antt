-- The Running tasks that may write a block, and the spare that its copy keeps for them.
use Rattle.std.specs.Prelude.{◌≡◌, ℕ, ◌*◌, ◌≤◌, ◌&&◌, nat_eq, Bool, length, Some}
use Rattle.std.proofs.Props.{props}
use Rattle.dd_blocks.specs.declared.plan.Plan.{Plan}
use Rattle.dd_machine.specs.Bytes.{when}
use Rattle.dd_machine.specs.States.{State}
use Rattle.dd_machine.specs.Tests.{is_running}
use Rattle.dd_machine.specs.Words.{place, size, tasks, total, touches}
use Rattle.dd_pool.specs.declared.pool.Pool.{Pool}
use Rattle.dd_pool.specs.Places.{IsPlace}
use Rattle.dd_pool.specs.Pools.{copy_at}
use Rattle.dd_stamps.specs.declared.stamped.Stamped.{Stamped}
use Rattle.dd_store.specs.declared.store.Slot.{Ghosts as SlotGhosts}
use Rattle.dd_store.specs.declared.store.Store.{Ghosts}

-- the task runs in the space, and touches the block
abbrev pub is_user : Plan → State → ℕ → ℕ → ℕ → Bool
is_user plan st space block task = is_running (st.tasks task) && (nat_eq (place plan task) space && touches plan task block)

-- how many tasks of a space run that touch a block
abbrev pub users : Plan → State → ℕ → ℕ → ℕ
users plan st space block = total (tasks plan) (λ t. when (is_user plan st space block t) 1)

-- the spare that they want: two runs for each place, for each of them
abbrev pub wanted : Plan → State → ℕ → ℕ → ℕ
wanted plan st space block = users plan st space block * (2 * size plan block)

-- what they want at most: no processor runs two tasks at once
abbrev pub most_wanted : Plan → ℕ → ℕ
most_wanted plan block = length plan.procs * (2 * size plan block)

module _ {D S : Type 0} {g : Ghosts D S} {h : SlotGhosts S} where
  -- each copy in memory has the spare that its users want
  unfoldable pub HasSpare : Plan → State → Pool D S g h → Type 0
  HasSpare plan st pool = (s b : ℕ) (copy : Stamped) → IsPlace plan s b → copy_at pool s b ≡ Some copy → wanted plan st s b ≤ copy.versions.spare

  pub HasSpare-prop : (plan : Plan) (st : State) (pool : Pool D S g h) → IsProp (HasSpare plan st pool)
  unfolding HasSpare
  HasSpare-prop plan st pool = hlevel props
