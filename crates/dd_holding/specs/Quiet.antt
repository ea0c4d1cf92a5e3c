-- The events that touch no values, and those that begin and end no task.
use Rattle.std.specs.Prelude.{Bool, true, false}
use Rattle.dd_machine.specs.declared.event.Event.{Event}
use Rattle.dd_machine.specs.declared.event.Event.TheVariants.{Ask, Rest, Put, Shift, Free, Begin, Hold, Pick, Gone, Make, Call, Come, Lend, Copy, Claim, Finish, Back, Close}

-- the event touches no values, and hands none out: each copy is in memory, or in a slot, where it was, with the versions that it had
abbrev pub is_quiet : Event → Bool
is_quiet (Ask space block) = true
is_quiet Rest = true
is_quiet (Put block) = false
is_quiet (Shift block space) = false
is_quiet (Free space block) = false
is_quiet (Begin region) = true
is_quiet (Hold task) = true
is_quiet (Pick space block) = false
is_quiet (Gone space block) = false
is_quiet (Make task block) = false
is_quiet (Call space block) = true
is_quiet (Come space block) = false
is_quiet (Lend task block source) = true
is_quiet (Copy task block source count) = false
is_quiet (Claim task worker) = false
is_quiet (Finish task) = false
is_quiet (Back block source count) = false
is_quiet (Close region) = true

-- no task begins to run with the event, and none ends
abbrev pub is_steady : Event → Bool
is_steady (Ask space block) = true
is_steady Rest = true
is_steady (Put block) = true
is_steady (Shift block space) = true
is_steady (Free space block) = true
is_steady (Begin region) = true
is_steady (Hold task) = true
is_steady (Pick space block) = true
is_steady (Gone space block) = true
is_steady (Make task block) = true
is_steady (Call space block) = true
is_steady (Come space block) = true
is_steady (Lend task block source) = true
is_steady (Copy task block source count) = true
is_steady (Claim task worker) = false
is_steady (Finish task) = false
is_steady (Back block source count) = true
is_steady (Close region) = true
