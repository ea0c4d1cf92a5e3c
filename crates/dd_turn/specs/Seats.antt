-- What a seat is doing: its view, and the slot that it has out.
use Rattle.std.specs.Prelude.{◌≡◌, true, false, [], ◌∷◌, Option, None}
use Rattle.atomic_table.specs.declared.shared.Seat.{Seat}
use Rattle.dd_turn.specs.declared.baton.View.{View}
use Rattle.dd_turn.specs.Turn.{view, idle}

module _ {K T : Type 0} where
  -- it doesn't hold the turn, and hasn't seen the end
  abbrev pub IsFree : K → Seat (Option T) (View K) → Type 0
  IsFree k seat = seat.me ≡ (idle k, [])

  -- it holds the turn, and has the slot out, from which the value was moved
  abbrev pub HasTurn : K → Seat (Option T) (View K) → Type 0
  HasTurn k seat = seat.me ≡ (view k true false, (0, None) ∷ [])

  -- it has seen the end, and doesn't hold the turn
  abbrev pub HasSeenEnd : K → Seat (Option T) (View K) → Type 0
  HasSeenEnd k seat = seat.me ≡ (view k false true, [])
