-- The sound state: how many elements moved so far.
use Rattle.std.specs.Prelude.{◌≡◌, ℕ, ◌+◌, List, length, Option, Some, None}
use Rattle.dd_blocks.specs.declared.plan.Plan.{Plan}
use Rattle.dd_blocks.specs.Lives.{regions_run}
use Rattle.dd_meaning.specs.Moves.{moved}
use Rattle.dd_machine.specs.declared.entry.Entry.{Entry}
use Rattle.dd_machine.specs.Bytes.{when}
use Rattle.dd_machine.specs.Delivered.{delivered}
use Rattle.dd_machine.specs.Made.{was_closed}
use Rattle.dd_machine.specs.Owed.{made}
use Rattle.dd_machine.specs.States.{State}
use Rattle.dd_machine.specs.Words.{total}

-- how many regions there are
abbrev pub regions : Plan → ℕ
regions plan = length (regions_run plan.statements)

-- what the closed regions move
abbrev pub closed_moves : Plan → List Entry → ℕ
closed_moves plan es = total (regions plan) (λ q. when (was_closed es q) (moved plan q))

-- what the open one moved so far
abbrev pub open_moves : Plan → State → Option ℕ → ℕ
open_moves plan st None = 0
open_moves plan st (Some r) = delivered plan st r

-- the number moved is that of the closed regions' moves, and of those that the open one made
abbrev pub SoundMoved : Plan → State → Type 0
SoundMoved plan st = st.moved ≡ closed_moves plan (made plan st.progress) + open_moves plan st st.region
