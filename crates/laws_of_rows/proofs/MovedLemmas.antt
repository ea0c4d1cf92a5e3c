-- How many elements moved when a row begins: those of the regions above it.
use Rattle.std.proofs.Common.{◌≡◌, ℕ, Bool, leb, ap, sym, ◌∙◌, arith}
use Rattle.dd_blocks.specs.declared.plan.Plan.{Plan}
use Rattle.dd_blocks.specs.WellFormed.{IsWellFormed}
use Rattle.dd_meaning.specs.Moves.{moved}
use Rattle.dd_meaning.specs.Text.{moved_above, regions_above}
use Rattle.dd_machine.specs.Bytes.{when}
use Rattle.dd_machine.specs.Made.{was_closed}
use Rattle.dd_machine.specs.Owed.{entries_from, made}
use Rattle.dd_machine.specs.Sound.{IsSound}
use Rattle.dd_machine.specs.SoundMoved.{closed_moves, open_moves, regions}
use Rattle.dd_machine.specs.States.{State}
use Rattle.dd_machine.proofs.TotalsLemmas.{total_same}
use Rattle.laws_of_moved.proofs.BelowLemmas.{sum_total}
use Rattle.laws_of_rows.specs.Rows.{IsAtRow}
use Rattle.laws_of_rows.proofs.RegionsLemmas.{closed_above, few_above}
use Rattle.laws_of_rows.proofs.RowsLemmas.{made_at_row}
use Rattle.laws_of_rows.proofs.TasksLemmas.{total_upto}

pub moved_at_row : (plan : Plan) (i : ℕ) (st : State) → IsWellFormed plan → IsSound plan st → IsAtRow plan i st → st.moved ≡ moved_above plan i
moved_at_row plan i st well sound at =
    let upto = regions_above plan i in
    let made_is : closed_moves plan (made plan st.progress) ≡ closed_moves plan (entries_from plan 1 i) = ap (closed_moves plan) (made_at_row plan i st sound.lives at) in
    let closed : closed_moves plan (entries_from plan 1 i) ≡ moved_above plan i =
    total_same (regions plan) (λ q. when (was_closed (entries_from plan 1 i) q) (moved plan q)) (λ q. when (leb q upto) (moved plan q))
    (λ q is. ap (λ (t : Bool). when t (moved plan q)) (closed_above plan i q well at.within is))
    ∙ total_upto (regions plan) upto (moved plan) (few_above plan i at.within)
    ∙ sym (sum_total (moved plan) upto) in
    let none = ap (open_moves plan st) at.region in
    let all = sound.moved in
    omega (arith, all, made_is, closed, none)
