-- What `take` finds.
use Rattle.std.specs.Prelude.{Option}
use Rattle.atomic_table.specs.declared.shared.Seat.{Seat}
use Rattle.dd_turn.specs.declared.baton.View.{View}
use Rattle.dd_turn.specs.declared.found.Found.{Found}
use Rattle.dd_turn.specs.declared.found.Found.TheVariants.{Turn, Busy, Ended}
use Rattle.dd_turn.specs.Seats.{IsFree, HasTurn, HasSeenEnd}

module _ {K T : Type 0} (Fits : K → T → Type 0) where
  -- the turn, with a value that fits; or the seat is as it was; or it has seen the end
  abbrev pub Finds : K → Seat (Option T) (View K) → Found T → Type 0
  Finds k seat (Turn t) = HasTurn k seat × Fits k t
  Finds k seat Busy = IsFree k seat
  Finds k seat Ended = HasSeenEnd k seat
