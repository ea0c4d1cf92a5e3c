-- What a row prints, by the values that its state stands for.
use Rattle.std.proofs.Common.{◌≡◌, ℕ, ◌<◌, List, ap, sym, ◌∙◌}
use Rattle.dd_blocks.specs.declared.plan.Plan.{Plan}
use Rattle.dd_blocks.specs.declared.what.What.{What}
use Rattle.dd_blocks.specs.declared.what.What.TheVariants.{Moved, Print, Sum}
use Rattle.dd_blocks.specs.Numbered.{IsNumberIn, array_row}
use Rattle.dd_blocks.specs.WellFormed.{IsWellFormed}
use Rattle.dd_meaning.specs.Text.{moved_above, moved_line, printed, printed_by, row_text, summed, world_at}
use Rattle.dd_machine.specs.Words.{rows}
use Rattle.dd_print.specs.Held.{values_now}
use Rattle.dd_run.specs.Rows.{IsAtRow}
use Rattle.dd_run.proofs.AtLemmas.{plan_of, sound_at}
use Rattle.dd_run.proofs.RowsLemmas.{row_prints, values_at_row}
use Rattle.dd_store.specs.declared.store.Slot.{Ghosts as SlotGhosts}
use Rattle.dd_store.specs.declared.store.Store.{Ghosts}
use Rattle.dd_table.specs.declared.table.Table.{Table}
use Rattle.dd_table.specs.Tables.{state_now}
use Rattle.laws_of_rows.specs.Rows.{next_what}
use Rattle.laws_of_rows.proofs.MovedLemmas.{moved_at_row}

pub row_prints_as : (plan : Plan) (i : ℕ) (what : What) → i < rows plan → next_what plan i ≡ what → row_text plan i ≡ printed_by plan (world_at plan i) (moved_above plan i) what
row_prints_as plan i what lt is = row_prints plan i lt ∙ ap (printed_by plan (world_at plan i) (moved_above plan i)) is

module _ {D S : Type 0} {g : Ghosts D S} {h : SlotGhosts S} where
  pub print_text : (t : Table D S g h) (i array : ℕ) → IsWellFormed (plan_of t) → i < rows (plan_of t) → IsAtRow (plan_of t) i t → next_what (plan_of t) i ≡ Print array → IsNumberIn (plan_of t).arrays array
      → printed (array_row (plan_of t) array).grid (values_now (plan_of t) (state_now t) array) ≡ row_text (plan_of t) i
  print_text t i array well lt at is within =
      ap (printed (array_row (plan_of t) array).grid) (values_at_row (plan_of t) i (state_now t) well (sound_at t well) at.at array within) ∙ sym (row_prints_as (plan_of t) i (Print array) lt is)

  pub sum_text : (t : Table D S g h) (i array : ℕ) (name : List ℕ) → IsWellFormed (plan_of t) → i < rows (plan_of t) → IsAtRow (plan_of t) i t → next_what (plan_of t) i ≡ Sum array name → IsNumberIn (plan_of t).arrays array
      → summed name (values_now (plan_of t) (state_now t) array) ≡ row_text (plan_of t) i
  sum_text t i array name well lt at is within =
      ap (summed name) (values_at_row (plan_of t) i (state_now t) well (sound_at t well) at.at array within) ∙ sym (row_prints_as (plan_of t) i (Sum array name) lt is)

  pub moved_text : (t : Table D S g h) (i count : ℕ) → IsWellFormed (plan_of t) → i < rows (plan_of t) → IsAtRow (plan_of t) i t → next_what (plan_of t) i ≡ Moved → count ≡ (state_now t).moved
      → moved_line count ≡ row_text (plan_of t) i
  moved_text t i count well lt at is same = ap moved_line (same ∙ moved_at_row (plan_of t) i (state_now t) well (sound_at t well) at.at) ∙ sym (row_prints_as (plan_of t) i Moved lt is)
