-- Events as entries.
use Rattle.std.specs.Prelude.{ℕ, List, map}
use Rattle.dd_machine.specs.declared.entry.Entry.{Entry}
use Rattle.dd_machine.specs.declared.event.Event.{Event}

-- events as entries of a line
abbrev pub with_line : ℕ → List Event → List Entry
with_line line events = map (λ event. record { line = line; event = event }) events
