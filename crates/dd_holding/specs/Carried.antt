-- The events that carry elements from one copy to another.
use Rattle.std.specs.Prelude.{ℕ, zero, suc}
use Rattle.dd_machine.specs.declared.event.Event.{Event}
use Rattle.dd_machine.specs.declared.event.Event.TheVariants.{Back, Copy}

-- so many elements of a block are copied from a space for a task, or written back where it is 0
abbrev pub carries : ℕ → ℕ → ℕ → ℕ → Event
carries zero block source count = Back block source count
carries (suc t) block source count = Copy (suc t) block source count
