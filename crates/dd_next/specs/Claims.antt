-- What is left for a task once its blocks are as it needs them.
use Rattle.std.specs.Prelude.{Bool, true, false}
use Rattle.dd_machine.specs.declared.event.Event.{Event}
use Rattle.dd_machine.specs.declared.event.Event.TheVariants.{Claim}

-- the event starts a task
abbrev pub is_claim : Event → Bool
is_claim (Claim task worker) = true
is_claim _ = false
