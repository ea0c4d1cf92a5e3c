-- The world of a row is that of the tasks that are done when it begins.
use Rattle.std.proofs.Common.{◌≡◌, ℕ, ap}
use Rattle.dd_blocks.specs.declared.plan.Plan.{Plan}
use Rattle.dd_blocks.specs.WellFormed.{IsWellFormed}
use Rattle.dd_meaning.specs.Steps.{world_after}
use Rattle.dd_meaning.specs.Text.{world_at}
use Rattle.dd_machine.specs.Bytes.{when}
use Rattle.dd_machine.specs.SoundLives.{SoundLives}
use Rattle.dd_machine.specs.States.{State}
use Rattle.dd_machine.specs.Tests.{is_done}
use Rattle.dd_machine.specs.Words.{tasks, total}
use Rattle.laws_of_rows.specs.Rows.{IsAtRow}
use Rattle.laws_of_rows.proofs.TasksLemmas.{count_at_row}

pub world_at_row : (plan : Plan) (i : ℕ) (st : State) → IsWellFormed plan → SoundLives plan st → IsAtRow plan i st
    → world_after plan (total (tasks plan) (λ t. when (is_done (st.tasks t)) 1)) ≡ world_at plan i
world_at_row plan i st well lives at = ap (world_after plan) (count_at_row plan i st well lives at)
