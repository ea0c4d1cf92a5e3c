-- Spaces that have room for all blocks at once.
use Rattle.std.specs.Prelude.{ℕ, zero, suc, ◌+◌, ◌≤◌, nat_eq, max, length}
use Rattle.dd_blocks.specs.declared.plan.Plan.{Plan}
use Rattle.dd_blocks.specs.Numbered.{proc_row}
use Rattle.dd_machine.specs.Bytes.{when}
use Rattle.dd_machine.specs.Words.{IsOneOf, argument_bytes, blocks, bytes, limit, proc_of, scratch, spaces, tasks, total}

-- the greatest of f 1 and so on to f n, or 0
abbrev pub most : ℕ → (ℕ → ℕ) → ℕ
most zero f = 0
most (suc n) f = max (most n f) (f (suc n))

-- how many processors there are
abbrev pub procs : Plan → ℕ
procs plan = length plan.procs

-- what a task takes beside its blocks
abbrev pub beside : Plan → ℕ → ℕ
beside plan task = argument_bytes plan task + scratch plan task

-- the most that the tasks of a space take beside their blocks, one on each processor
abbrev pub most_beside : Plan → ℕ → ℕ
most_beside plan space = total (procs plan) (λ q. when (nat_eq (proc_row plan q).space space) (most (tasks plan) (λ t. when (nat_eq (proc_of plan t) q) (beside plan t))))

-- the bytes of all blocks of the script
abbrev pub all_bytes : Plan → ℕ
all_bytes plan = total (blocks plan) (bytes plan)

-- beside all blocks there is room for the largest of them, and for the tasks
abbrev pub IsRoomy : Plan → ℕ → Type 0
IsRoomy plan space = all_bytes plan + max (most (blocks plan) (bytes plan)) (most_beside plan space) ≤ limit plan space

-- so is every space
abbrev pub AllRoomy : Plan → Type 0
AllRoomy plan = (space : ℕ) → IsOneOf (spaces plan) space → IsRoomy plan space
