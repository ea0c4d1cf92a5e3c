-- Whose a seat is.
use Rattle.std.specs.Prelude.{◌≡◌, Option}
use Rattle.atomic_table.specs.declared.shared.Seat.{Seat}
use Rattle.dd_turn.specs.declared.baton.View.{View}
use Rattle.dd_turn.specs.declared.lock.Lock.{Lock}

-- the seat is of this lock, and of no other
abbrev pub IsSeatOf : {K T : Type 0} → Lock K T → Seat (Option T) (View K) → Type 0
IsSeatOf lock seat = seat.table_id ≡ lock.table.shared.table_id
