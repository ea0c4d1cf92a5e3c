-- The events that change no copy and end nothing.
use Rattle.std.specs.Prelude.{Bool, true, false}
use Rattle.dd_machine.specs.declared.event.Event.{Event}
use Rattle.dd_machine.specs.declared.event.Event.TheVariants.{Ask, Begin, Hold}

-- a block is asked for, a region begins, or a task is held
abbrev pub is_still : Event → Bool
is_still (Ask space block) = true
is_still (Begin region) = true
is_still (Hold task) = true
is_still _ = false
