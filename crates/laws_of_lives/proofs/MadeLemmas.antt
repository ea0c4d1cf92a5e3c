-- What one more entry changes of what the statements made.
use Rattle.std.proofs.Common.{◌≡◌, ◌⊎◌, ℕ, false, ◌||◌, List, Option, Some, None, refl, ap, ◌∙◌, inl, inr, ⊎_elim}
use Rattle.std.specs.List.{fold}
use Rattle.std.proofs.lemmas.List.Sums.{fold_push}
use Rattle.dd_blocks.specs.declared.plan.Plan.{Plan}
use Rattle.dd_machine.specs.declared.entry.Entry.{Entry}
use Rattle.dd_machine.specs.declared.event.Event.{Event}
use Rattle.dd_machine.specs.Effects.{on_in, on_outside}
use Rattle.dd_machine.specs.Legal.{IsNext}
use Rattle.dd_machine.specs.Made.{begin_of, close_of, home_made, home_with, is_live, live_after, pin_after, pin_made, was_begun, was_closed}
use Rattle.dd_machine.specs.Owed.{made, one_more}
use Rattle.dd_machine.specs.SoundLimits.{IsOpen}
use Rattle.dd_machine.specs.States.{Progress, State}
use Rattle.dd_machine.proofs.ProgressLemmas.{Makes, makes_next}

pub live_makes : (plan : Plan) (p q : Progress) (event : Event) (b : ℕ) → Makes plan p q event → is_live (made plan q) b ≡ live_after b (is_live (made plan p) b) event
unfolding is_live
live_makes plan p q event b m =
    ap (λ (es : List Entry). fold (λ live (x : Entry). live_after b live x.event) false es) m.now_made
    ∙ fold_push (λ live (x : Entry). live_after b live x.event) false (made plan p) m.entry
    ∙ ap (live_after b (is_live (made plan p) b)) m.is

pub home_makes : (plan : Plan) (p q : Progress) (event : Event) (first b : ℕ) → Makes plan p q event → home_made first (made plan q) b ≡ home_with b (home_made first (made plan p) b) event
unfolding home_made
home_makes plan p q event first b m =
    ap (λ (es : List Entry). fold (λ home (x : Entry). home_with b home x.event) first es) m.now_made
    ∙ fold_push (λ home (x : Entry). home_with b home x.event) first (made plan p) m.entry
    ∙ ap (home_with b (home_made first (made plan p) b)) m.is

pub pin_makes : (plan : Plan) (p q : Progress) (event : Event) → Makes plan p q event → pin_made (made plan q) ≡ pin_after (pin_made (made plan p)) event
unfolding pin_made
pin_makes plan p q event m =
    ap (λ (es : List Entry). fold (λ pin (x : Entry). pin_after pin x.event) None es) m.now_made
    ∙ fold_push (λ pin (x : Entry). pin_after pin x.event) None (made plan p) m.entry
    ∙ ap (pin_after (pin_made (made plan p))) m.is

pub begun_makes : (plan : Plan) (p q : Progress) (event : Event) (r : ℕ) → Makes plan p q event → was_begun (made plan q) r ≡ (was_begun (made plan p) r || begin_of r event)
unfolding was_begun
begun_makes plan p q event r m =
    ap (λ (es : List Entry). fold (λ found (x : Entry). found || begin_of r x.event) false es) m.now_made
    ∙ fold_push (λ found (x : Entry). found || begin_of r x.event) false (made plan p) m.entry
    ∙ ap (λ (e : Event). was_begun (made plan p) r || begin_of r e) m.is

pub closed_makes : (plan : Plan) (p q : Progress) (event : Event) (r : ℕ) → Makes plan p q event → was_closed (made plan q) r ≡ (was_closed (made plan p) r || close_of r event)
unfolding was_closed
closed_makes plan p q event r m =
    ap (λ (es : List Entry). fold (λ found (x : Entry). found || close_of r x.event) false es) m.now_made
    ∙ fold_push (λ found (x : Entry). found || close_of r x.event) false (made plan p) m.entry
    ∙ ap (λ (e : Event). was_closed (made plan p) r || close_of r e) m.is

-- outside a region an entry is made, in one none is
pub outside_or_in : (plan : Plan) (st : State) → ((st.region ≡ None) × (on_outside plan st ≡ one_more plan st.progress)) ⊎ (IsOpen st × (on_outside plan st ≡ st.progress))
outside_or_in plan st = by st.region refl
  where
    by : (o : Option ℕ) → st.region ≡ o → ((st.region ≡ None) × (on_outside plan st ≡ one_more plan st.progress)) ⊎ (IsOpen st × (on_outside plan st ≡ st.progress))
    by None e = inl (e, ap (on_in plan st.progress) e)
    by (Some r) e = inr ((r, e), ap (on_in plan st.progress) e)

-- in an open region nothing was made
pub stays : (plan : Plan) (st : State) (r : ℕ) → st.region ≡ Some r → on_outside plan st ≡ st.progress
stays plan st r e = ap (on_in plan st.progress) e

-- what the event leaves as it was stays, whether it counts or not
pub same_on : {A : Type 0} (plan : Plan) (st : State) (event : Event) (f : List Entry → A)
    → (st.region ≡ None → IsNext plan st event) → (Makes plan st.progress (one_more plan st.progress) event → f (made plan (one_more plan st.progress)) ≡ f (made plan st.progress))
    → f (made plan (on_outside plan st)) ≡ f (made plan st.progress)
same_on plan st event f due one = ⊎_elim
    (λ (out : (st.region ≡ None) × (on_outside plan st ≡ one_more plan st.progress)). ap (λ (p : Progress). f (made plan p)) out.1 ∙ one (makes_next plan st.progress event (due out.0)))
    (λ (open_in : IsOpen st × (on_outside plan st ≡ st.progress)). ap (λ (p : Progress). f (made plan p)) open_in.1)
    (outside_or_in plan st)

pub out_is : (plan : Plan) (st : State) → st.region ≡ None → on_outside plan st ≡ one_more plan st.progress
out_is plan st e = ap (on_in plan st.progress) e
