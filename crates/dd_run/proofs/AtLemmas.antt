-- What holds of a table that stands at a row.
use Rattle.std.proofs.Common.{◌≡◌, ℕ, suc, ◌<◌, sym, subst}
use Rattle.std.specs.Prelude.{Contains}
use Rattle.dd_blocks.specs.declared.plan.Plan.{Plan}
use Rattle.dd_blocks.specs.declared.what.What.{What}
use Rattle.dd_blocks.specs.Lives.{arrays_used}
use Rattle.dd_blocks.specs.Numbered.{IsNumberIn}
use Rattle.dd_blocks.specs.WellFormed.{IsWellFormed, StatementNamesRows}
use Rattle.dd_core.specs.Due.{AreDue}
use Rattle.dd_holding.proofs.HereLemmas.{sound_now}
use Rattle.dd_machine.specs.Sound.{IsSound}
use Rattle.dd_machine.specs.Words.{rows, statement}
use Rattle.dd_run.specs.Rows.{IsAtRow}
use Rattle.dd_run.proofs.SwapsLemmas.{IsCalm}
use Rattle.dd_statements.specs.Follows.{IsBetween, IsThere}
use Rattle.dd_store.specs.declared.store.Slot.{Ghosts as SlotGhosts}
use Rattle.dd_store.specs.declared.store.Store.{Ghosts}
use Rattle.dd_table.specs.declared.table.Table.{Table}
use Rattle.dd_table.specs.Tables.{state_now}
use Rattle.laws_of_rows.specs.Rows.{events_now, next_what}
use Rattle.laws_of_rows.proofs.DueLemmas.{due_of, names_rows}
use Rattle.laws_of_rows.proofs.LivesLemmas.{copy_used}

module _ {D S : Type 0} {g : Ghosts D S} {h : SlotGhosts S} where
  abbrev pub plan_of : Table D S g h → Plan
  plan_of t = t.holding.ledger.plan.now

  pub sound_at : (t : Table D S g h) → IsWellFormed (plan_of t) → IsSound (plan_of t) (state_now t)
  sound_at t well = sound_now t.holding.ledger well

  pub between_at : (t : Table D S g h) (i : ℕ) → IsAtRow (plan_of t) i t → IsBetween t
  between_at t i at = record { cause = at.cause; region = at.at.region; pin = at.at.pin }

  pub calm_at : (t : Table D S g h) (i : ℕ) → IsWellFormed (plan_of t) → IsAtRow (plan_of t) i t → IsCalm (plan_of t) (state_now t)
  calm_at t i well at = record { sound = sound_at t well; region = at.at.region; pin = at.at.pin }

  -- what its statement asks for is due
  pub due_at : (t : Table D S g h) (i : ℕ) (what : What) → IsWellFormed (plan_of t) → i < rows (plan_of t) → IsAtRow (plan_of t) i t → next_what (plan_of t) i ≡ what
      → AreDue (plan_of t) (state_now t) (events_now (plan_of t) (state_now t) what)
  due_at t i what well lt at is = record {
    line = (statement (plan_of t) (suc i)).line;
    are = due_of (plan_of t) i (state_now t) what well (sound_at t well).lives at.at lt is;
  }

  -- it names rows of the Plan
  pub names_at_row : (t : Table D S g h) (i : ℕ) (what : What) → IsWellFormed (plan_of t) → i < rows (plan_of t) → next_what (plan_of t) i ≡ what → StatementNamesRows (plan_of t) what
  names_at_row t i what well lt is = subst (StatementNamesRows (plan_of t)) is (names_rows (plan_of t) i well lt)

  -- and the array that it uses is there
  pub there_at : (t : Table D S g h) (i array : ℕ) (what : What) → IsWellFormed (plan_of t) → i < rows (plan_of t) → IsAtRow (plan_of t) i t → next_what (plan_of t) i ≡ what
      → IsNumberIn (plan_of t).arrays array → Contains (arrays_used (plan_of t) what) array → IsThere (plan_of t) (state_now t) array
  there_at t i array what well lt at is within used =
      λ block here. copy_used (plan_of t) i (state_now t) well (sound_at t well).lives at.at lt array block within here
      (subst (λ (w : What). Contains (arrays_used (plan_of t) w) array) (sym is) used)
