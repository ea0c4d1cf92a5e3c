-- The entries that a statement asks for next.
use Rattle.std.specs.Prelude.{◌≡◌, ℕ, List, length, take}
use Rattle.dd_blocks.specs.declared.plan.Plan.{Plan}
use Rattle.dd_core.specs.Lines.{with_line}
use Rattle.dd_machine.specs.declared.event.Event.{Event}
use Rattle.dd_machine.specs.Owed.{left}
use Rattle.dd_machine.specs.States.{State}

-- the next entries of the statements are these events, all of one line
pub record AreDue (plan : Plan) (st : State) (events : List Event) : Type 0 where
  pub line : ℕ
  pub are : take (length events) (left plan st.progress) ≡ with_line line events
