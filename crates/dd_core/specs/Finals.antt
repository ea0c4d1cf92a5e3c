-- The events that take no memory, and so can't be refused.
use Rattle.std.specs.Prelude.{Bool, true, false}
use Rattle.dd_machine.specs.declared.event.Event.{Event}
use Rattle.dd_machine.specs.declared.event.Event.TheVariants.{Ask, Rest, Put, Shift, Free, Begin, Hold, Pick, Gone, Make, Call, Come, Lend, Copy, Claim, Finish, Back, Close}

-- the event ends something: a task, a pin, a copy or a region, or a copy leaves
abbrev pub is_final : Event → Bool
is_final (Ask space block) = false
is_final Rest = true
is_final (Put block) = false
is_final (Shift block space) = false
is_final (Free space block) = true
is_final (Begin region) = false
is_final (Hold task) = false
is_final (Pick space block) = true
is_final (Gone space block) = true
is_final (Make task block) = false
is_final (Call space block) = false
is_final (Come space block) = false
is_final (Lend task block source) = false
is_final (Copy task block source count) = false
is_final (Claim task worker) = false
is_final (Finish task) = true
is_final (Back block source count) = false
is_final (Close region) = true
