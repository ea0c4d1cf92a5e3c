-- How a run gets from the start to each row, and from the last one to its end.
use Rattle.std.proofs.Common.{◌≡◌, ℕ, suc, ◌-◌, ◌<◌, ◌≤◌, List, [], ◌++◌, length, drop, None, refl, ap, sym, ◌∙◌, arith, take_all}
use Rattle.std.proofs.Math.Seq.{drop-append_seam}
use Rattle.std.proofs.lemmas.List.{append_cancel_left, append_cancel_right, drop_all}
use Rattle.dd_blocks.specs.declared.plan.Plan.{Plan}
use Rattle.dd_machine.specs.declared.entry.Entry.{Entry}
use Rattle.dd_machine.specs.Owed.{all_entries, entries_from, entries_of, left, made}
use Rattle.dd_machine.specs.Runs.{start}
use Rattle.dd_machine.specs.SoundLives.{SoundLives}
use Rattle.dd_machine.specs.States.{Progress, State}
use Rattle.dd_machine.specs.Words.{rows}
use Rattle.dd_machine.proofs.ProgressLemmas.{made_and_left, row_done}
use Rattle.laws_of_rows.specs.Rows.{IsAtRow}

-- the entries of the first rows and those of the others are all
rows_split : (plan : Plan) (i : ℕ) → i ≤ rows plan → entries_from plan 1 i ++ entries_from plan (suc i) (rows plan - i) ≡ all_entries plan
rows_split plan i le =
    let es = entries_of plan i in
    let above = entries_from plan 1 (i - 1) in
    let below = entries_from plan (suc i) (rows plan - i) in
    let p : Progress = record { row = i; made = length es } in
    let made_is : made plan p ≡ entries_from plan 1 i = ap (λ (xs : List Entry). above ++ xs) (take_all (length es) es (omega arith)) ∙ row_done plan i in
    let left_is : left plan p ≡ below = ap (λ (xs : List Entry). xs ++ below) (drop_all (length es) es (omega arith)) in
    ap (λ (xs : List Entry). xs ++ below) (sym made_is) ∙ ap (λ (xs : List Entry). made plan p ++ xs) (sym left_is) ∙ made_and_left plan p le

-- the entries of the first rows were made
pub made_at_row : (plan : Plan) (i : ℕ) (st : State) → SoundLives plan st → IsAtRow plan i st → made plan st.progress ≡ entries_from plan 1 i
made_at_row plan i st lives at =
    append_cancel_right (made plan st.progress) (entries_from plan 1 i) (left plan st.progress)
    (made_and_left plan st.progress lives.position.row_within ∙ sym (rows_split plan i at.within) ∙ ap (λ (es : List Entry). entries_from plan 1 i ++ es) (sym at.left))

-- those of the next row come first
pub left_at_row : (plan : Plan) (i : ℕ) (st : State) → i < rows plan → IsAtRow plan i st
    → left plan st.progress ≡ entries_of plan (suc i) ++ entries_from plan (suc (suc i)) (rows plan - suc i)
left_at_row plan i st lt at =
    let more : rows plan - i ≡ suc (rows plan - suc i) = omega (arith, lt) in
    at.left ∙ ap (entries_from plan (suc i)) more

-- a run is at its first row at the start
pub at_start : (plan : Plan) → IsAtRow plan 0 (start plan)
unfolding entries_of
at_start plan = record { within = omega arith; region = refl; pin = refl; left = refl }

-- and at the next one where the entries of a row were made
pub at_next : (plan : Plan) (i : ℕ) (st new : State) → i < rows plan → IsAtRow plan i st → new.region ≡ None → new.pin ≡ None
    → left plan st.progress ≡ entries_of plan (suc i) ++ left plan new.progress → IsAtRow plan (suc i) new
at_next plan i st new lt at region pin was = record {
  within = lt;
  region = region;
  pin = pin;
  left = append_cancel_left (entries_of plan (suc i)) (left plan new.progress) (entries_from plan (suc (suc i)) (rows plan - suc i)) (sym was ∙ left_at_row plan i st lt at);
}

-- so where as many as these left those that were left
pub at_next_drop : (plan : Plan) (i : ℕ) (st new : State) → i < rows plan → IsAtRow plan i st → new.region ≡ None → new.pin ≡ None
    → left plan new.progress ≡ drop (length (entries_of plan (suc i))) (left plan st.progress) → IsAtRow plan (suc i) new
at_next_drop plan i st new lt at region pin is = record {
  within = lt;
  region = region;
  pin = pin;
  left = is ∙ ap (drop (length (entries_of plan (suc i)))) (left_at_row plan i st lt at) ∙ drop-append_seam (entries_of plan (suc i)) (entries_from plan (suc (suc i)) (rows plan - suc i));
}

-- a row without entries takes nothing
pub at_next_same : (plan : Plan) (i : ℕ) (st : State) → i < rows plan → entries_of plan (suc i) ≡ [] → IsAtRow plan i st → IsAtRow plan (suc i) st
at_next_same plan i st lt none at = at_next plan i st st lt at at.region at.pin (ap (λ (es : List Entry). es ++ left plan st.progress) (sym none))

-- behind the last row nothing is left
pub at_end : (plan : Plan) (st : State) → IsAtRow plan (rows plan) st → left plan st.progress ≡ []
at_end plan st at = let none : rows plan - rows plan ≡ 0 = omega arith in at.left ∙ ap (entries_from plan (suc (rows plan))) none
