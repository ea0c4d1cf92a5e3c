-- The entries of a run that the statements ask for are those that its state says were made.
use Rattle.std.proofs.Common.{◌≡◌, ℕ, ◌≤◌, Bool, true, false, cond, List, [], ◌∷◌, ◌++◌, Option, Some, None, refl, ap, sym, ◌∙◌, ⊎_elim, append_assoc, append-nil, arith}
use Rattle.dd_blocks.specs.declared.plan.Plan.{Plan}
use Rattle.dd_blocks.specs.WellFormed.{IsWellFormed}
use Rattle.dd_machine.specs.declared.entry.Entry.{Entry}
use Rattle.dd_machine.specs.declared.event.Event.{Event}
use Rattle.dd_machine.specs.declared.event.Event.TheVariants.{Ask, Rest, Put, Shift, Free, Begin, Hold, Pick, Gone, Make, Call, Come, Lend, Copy, Claim, Finish, Back, Close}
use Rattle.dd_machine.specs.Effects.{after, on_outside}
use Rattle.dd_machine.specs.Legal.{IsNext, May}
use Rattle.dd_machine.specs.Orderly.{IsOrderly}
use Rattle.dd_machine.specs.Owed.{all_entries, left, made, next_line, one_more}
use Rattle.dd_machine.specs.Runs.{IsLegalRun, IsRun, IsWholeRun, start, state_after, state_of_run}
use Rattle.dd_machine.specs.Sound.{IsSound}
use Rattle.dd_machine.specs.SoundLimits.{IsOpen}
use Rattle.dd_machine.specs.States.{Progress, State}
use Rattle.dd_machine.proofs.ProgressLemmas.{made_and_left, makes_next}
use Rattle.dd_machine.proofs.TestsLemmas.{rested_at}
use Rattle.laws_of_lives.proofs.MadeLemmas.{outside_or_in}
use Rattle.laws_of_lives.proofs.OrderlyLemmas.{orderly}
use Rattle.laws_of_machine.specs.Asked.{asked, asked_inside, asked_outside, is_asked}
use Rattle.laws_of_machine.proofs.SoundLemmas.{keeps_sound, sound_run, start_sound}

-- the entry, where it is asked for
abbrev pub at_asked : State → ℕ → Event → List Entry
at_asked st line event = cond (is_asked st.region event) (record { line = line; event = event } ∷ []) []

-- at this position it has joined those that were made
abbrev Joins : Plan → State → ℕ → Event → Progress → Type 0
Joins plan st line event p = made plan p ≡ made plan st.progress ++ at_asked st line event

joins_one : (plan : Plan) (st : State) (line : ℕ) (event : Event) → next_line (left plan st.progress) ≡ Some line → IsNext plan st event → is_asked st.region event ≡ true → Joins plan st line event (one_more plan st.progress)
joins_one plan st line event at next is =
    let m = makes_next plan st.progress event next in
    let l : m.entry.line ≡ line = (let e : Some m.entry.line ≡ Some line = sym (ap next_line m.was_left) ∙ at in cc) in
    let same : m.entry ≡ record { line = line; event = event } = ap (λ (x : ℕ). let y : Entry = record { line = x; event = m.entry.event } in y) l ∙ ap (λ (x : Event). let y : Entry = record { line = line; event = x } in y) m.is in
    m.now_made
    ∙ ap (λ (x : Entry). made plan st.progress ++ x ∷ []) same
    ∙ ap (λ (t : Bool). made plan st.progress ++ cond t (record { line = line; event = event } ∷ []) []) (sym is)

joins_none : (plan : Plan) (st : State) (line : ℕ) (event : Event) (p : Progress) → p ≡ st.progress → is_asked st.region event ≡ false → Joins plan st line event p
joins_none plan st line event p same not_asked =
    ap (made plan) same
    ∙ sym (append-nil (made plan st.progress))
    ∙ ap (λ (t : Bool). made plan st.progress ++ cond t (record { line = line; event = event } ∷ []) []) (sym not_asked)

-- an event that statements ask for outside regions alone
joins_on : (plan : Plan) (st : State) (line : ℕ) (event : Event) → next_line (left plan st.progress) ≡ Some line → (st.region ≡ None → IsNext plan st event) → asked_outside event ≡ true → asked_inside event ≡ false
    → Joins plan st line event (on_outside plan st)
joins_on plan st line event at due outside inside = ⊎_elim
    (λ (out : (st.region ≡ None) × (on_outside plan st ≡ one_more plan st.progress)).
    ap (made plan) out.1 ∙ joins_one plan st line event at (due out.0) (ap (λ (o : Option ℕ). is_asked o event) out.0 ∙ outside))
    (λ (open_in : IsOpen st × (on_outside plan st ≡ st.progress)).
    joins_none plan st line event (on_outside plan st) open_in.1 (ap (λ (o : Option ℕ). is_asked o event) open_in.0.1 ∙ inside))
    (outside_or_in plan st)

never : (o : Option ℕ) (event : Event) → asked_outside event ≡ false → asked_inside event ≡ false → is_asked o event ≡ false
never None event outside inside = outside
never (Some r) event outside inside = inside

joins : (plan : Plan) (st : State) (line : ℕ) (event : Event) → IsSound plan st → next_line (left plan st.progress) ≡ Some line → May plan st event → Joins plan st line event (after plan st event).progress
joins plan st line (Ask space block) sound at may = joins_on plan st line (Ask space block) at may.due refl refl
joins plan st line Rest sound at may = ap (λ (x : State). made plan x.progress) (rested_at plan st may) ∙ joins_on plan st line Rest at may.due refl refl
joins plan st line (Put block) sound at may = joins_one plan st line (Put block) at may.due (ap (λ (o : Option ℕ). is_asked o (Put block)) may.outside)
joins plan st line (Shift block space) sound at may = joins_one plan st line (Shift block space) at may.due (ap (λ (o : Option ℕ). is_asked o (Shift block space)) may.outside)
joins plan st line (Free space block) sound at may = joins_on plan st line (Free space block) at may.due refl refl
joins plan st line (Begin region) sound at may = joins_one plan st line (Begin region) at may.due (ap (λ (o : Option ℕ). is_asked o (Begin region)) may.outside)
joins plan st line (Close region) sound at may = joins_one plan st line (Close region) at (sound.lives.open_next region may.open_is) (ap (λ (o : Option ℕ). is_asked o (Close region)) may.open_is)
joins plan st line (Hold task) sound at may = joins_none plan st line (Hold task) st.progress refl (never st.region (Hold task) refl refl)
joins plan st line (Pick space block) sound at may = joins_none plan st line (Pick space block) st.progress refl (never st.region (Pick space block) refl refl)
joins plan st line (Gone space block) sound at may = joins_none plan st line (Gone space block) st.progress refl (never st.region (Gone space block) refl refl)
joins plan st line (Make task block) sound at may = joins_none plan st line (Make task block) st.progress refl (never st.region (Make task block) refl refl)
joins plan st line (Call space block) sound at may = joins_none plan st line (Call space block) st.progress refl (never st.region (Call space block) refl refl)
joins plan st line (Come space block) sound at may = joins_none plan st line (Come space block) st.progress refl (never st.region (Come space block) refl refl)
joins plan st line (Lend task block source) sound at may = joins_none plan st line (Lend task block source) st.progress refl (never st.region (Lend task block source) refl refl)
joins plan st line (Copy task block source count) sound at may = joins_none plan st line (Copy task block source count) st.progress refl (never st.region (Copy task block source count) refl refl)
joins plan st line (Claim task worker) sound at may = joins_none plan st line (Claim task worker) st.progress refl (never st.region (Claim task worker) refl refl)
joins plan st line (Finish task) sound at may = joins_none plan st line (Finish task) st.progress refl (never st.region (Finish task) refl refl)
joins plan st line (Back block source count) sound at may = joins_none plan st line (Back block source count) st.progress refl (never st.region (Back block source count) refl refl)

made_after : (plan : Plan) (st : State) (entries : List Entry) → IsWellFormed plan → IsOrderly plan → IsSound plan st → IsRun plan st entries
    → made plan (state_after plan st entries).progress ≡ made plan st.progress ++ asked plan st entries
unfolding IsRun state_after asked
made_after plan st [] well order sound run = sym (append-nil (made plan st.progress))
made_after plan st (entry ∷ entries) well order sound run =
    let next = after plan st entry.event in
    made_after plan next entries well order (keeps_sound plan st entry.event well order sound run.0.1) run.1
    ∙ ap (λ (es : List Entry). es ++ asked plan next entries) (joins plan st entry.line entry.event sound run.0.0 run.0.1)
    ∙ append_assoc (made plan st.progress) (at_asked st entry.line entry.event) (asked plan next entries)

pub made_asked : (plan : Plan) (entries : List Entry) → IsWellFormed plan → IsLegalRun plan entries → made plan (state_of_run plan entries).progress ≡ asked plan (start plan) entries
made_asked plan entries well run = made_after plan (start plan) entries well (orderly plan well) (start_sound plan well) run

pub asked_and_left : (plan : Plan) (entries : List Entry) → IsWellFormed plan → IsLegalRun plan entries → asked plan (start plan) entries ++ left plan (state_of_run plan entries).progress ≡ all_entries plan
asked_and_left plan entries well run =
    ap (λ (es : List Entry). es ++ left plan (state_of_run plan entries).progress) (sym (made_asked plan entries well run))
    ∙ made_and_left plan (state_of_run plan entries).progress (sound_run plan entries well run).lives.position.row_within

pub all_asked : (plan : Plan) (entries : List Entry) → IsWellFormed plan → IsWholeRun plan entries → asked plan (start plan) entries ≡ all_entries plan
all_asked plan entries well whole =
    sym (append-nil (asked plan (start plan) entries))
    ∙ ap (λ (es : List Entry). asked plan (start plan) entries ++ es) (sym whole.1)
    ∙ asked_and_left plan entries well whole.0
