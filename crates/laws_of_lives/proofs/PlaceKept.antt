-- The pin outside a region, and what is next in one.
use Rattle.std.proofs.Common.{◌≡◌, ℕ, true, ◌||◌, eqb, Some, None, ap, sym, ◌∙◌, subst, ⊎_elim}
use Rattle.std.proofs.lemmas.Bool.{eq-eqb, or_left, or_right}
use Rattle.dd_blocks.specs.declared.plan.Plan.{Plan}
use Rattle.dd_machine.specs.declared.event.Event.{Event}
use Rattle.dd_machine.specs.declared.event.Event.TheVariants.{Ask, Rest, Put, Shift, Free, Begin, Hold, Pick, Gone, Make, Call, Come, Lend, Copy, Claim, Finish, Back, Close}
use Rattle.dd_machine.specs.Effects.{after, on_outside}
use Rattle.dd_machine.specs.Legal.{IsNext, May}
use Rattle.dd_machine.specs.Made.{begin_of, is_live, pin_after, pin_made, was_begun}
use Rattle.dd_machine.specs.Orderly.{IsOrderly}
use Rattle.dd_machine.specs.Owed.{left, made, next_event, one_more}
use Rattle.dd_machine.specs.Sound.{IsSound}
use Rattle.dd_machine.specs.SoundLimits.{IsOpen}
use Rattle.dd_machine.specs.States.{Progress, State}
use Rattle.dd_machine.specs.Words.{IsOf, touches}
use Rattle.dd_machine.proofs.ProgressLemmas.{makes_next}
use Rattle.dd_machine.proofs.TestsLemmas.{rested_at}
use Rattle.laws_of_lives.proofs.MadeLemmas.{begun_makes, out_is, outside_or_in, pin_makes, stays}
use Rattle.laws_of_lives.proofs.LiveKept.{live_one}

abbrev PinIs : Plan → State → Type 0
PinIs plan st = st.region ≡ None → st.pin ≡ pin_made (made plan st.progress)

pin_one : (plan : Plan) (st : State) (event : Event) → IsNext plan st event → pin_made (made plan (one_more plan st.progress)) ≡ pin_after (pin_made (made plan st.progress)) event
pin_one plan st event next = pin_makes plan st.progress (one_more plan st.progress) event (makes_next plan st.progress event next)

-- outside a region the next entry is made
pin_on : (plan : Plan) (st : State) (event : Event) → st.region ≡ None → IsNext plan st event → pin_made (made plan (on_outside plan st)) ≡ pin_after (pin_made (made plan st.progress)) event
pin_on plan st event outside next = ap (λ (p : Progress). pin_made (made plan p)) (out_is plan st outside) ∙ pin_one plan st event next

pub keeps_pin_is : (plan : Plan) (st : State) (event : Event) → IsSound plan st → May plan st event → PinIs plan (after plan st event)
keeps_pin_is plan st (Ask space block) sound may = λ out. sym (pin_on plan st (Ask space block) out (may.due out))
keeps_pin_is plan st Rest sound may = subst (PinIs plan) (sym (rested_at plan st may)) (λ out. sym (pin_on plan st Rest out (may.due out)))
keeps_pin_is plan st (Put block) sound may = λ out. sound.lives.pin_is out ∙ sym (pin_one plan st (Put block) may.due)
keeps_pin_is plan st (Shift block space) sound may = λ out. sound.lives.pin_is out ∙ sym (pin_one plan st (Shift block space) may.due)
keeps_pin_is plan st (Free space block) sound may = λ out. sound.lives.pin_is out ∙ sym (pin_on plan st (Free space block) out (may.due out))
keeps_pin_is plan st (Begin r) sound may = λ out. cc
keeps_pin_is plan st (Close r) sound may = λ out. may.no_pin ∙ sym (pin_one plan st (Close r) (sound.lives.open_next r may.open_is))
keeps_pin_is plan st (Hold task) sound may = sound.lives.pin_is
keeps_pin_is plan st (Pick space block) sound may = sound.lives.pin_is
keeps_pin_is plan st (Gone space block) sound may = sound.lives.pin_is
keeps_pin_is plan st (Make task block) sound may = sound.lives.pin_is
keeps_pin_is plan st (Call space block) sound may = sound.lives.pin_is
keeps_pin_is plan st (Come space block) sound may = sound.lives.pin_is
keeps_pin_is plan st (Lend task block source) sound may = sound.lives.pin_is
keeps_pin_is plan st (Copy task block source count) sound may = sound.lives.pin_is
keeps_pin_is plan st (Claim task worker) sound may = sound.lives.pin_is
keeps_pin_is plan st (Finish task) sound may = sound.lives.pin_is
keeps_pin_is plan st (Back block source count) sound may = sound.lives.pin_is

abbrev pub OpenNext : Plan → State → Type 0
OpenNext plan st = (r : ℕ) → st.region ≡ Some r → IsNext plan st (Close r)

next_at : (plan : Plan) (p q : Progress) (event : Event) → q ≡ p → next_event (left plan p) ≡ Some event → next_event (left plan q) ≡ Some event
next_at plan p q event same next = ap (λ (x : Progress). next_event (left plan x)) same ∙ next

same_region : (r s : ℕ) → Some r ≡ Some s → r ≡ s
same_region r s e = cc

pub keeps_open_next : (plan : Plan) (st : State) (event : Event) → IsOrderly plan → IsSound plan st → May plan st event → OpenNext plan (after plan st event)
keeps_open_next plan st (Ask space block) orderly sound may = λ r open_in. next_at plan st.progress (on_outside plan st) (Close r) (stays plan st r open_in) (sound.lives.open_next r open_in)
keeps_open_next plan st Rest orderly sound may = subst (OpenNext plan) (sym (rested_at plan st may))
    (λ r open_in. next_at plan st.progress (on_outside plan st) (Close r) (stays plan st r open_in) (sound.lives.open_next r open_in))
keeps_open_next plan st (Put block) orderly sound may = λ r open_in. let out = may.outside in cc
keeps_open_next plan st (Shift block space) orderly sound may = λ r open_in. let out = may.outside in cc
keeps_open_next plan st (Free space block) orderly sound may = λ r open_in. next_at plan st.progress (on_outside plan st) (Close r) (stays plan st r open_in) (sound.lives.open_next r open_in)
keeps_open_next plan st (Begin region) orderly sound may = λ r open_in.
    subst (λ (x : ℕ). next_event (left plan (one_more plan st.progress)) ≡ Some (Close x)) (same_region region r open_in) (orderly.closes st.progress region may.due)
keeps_open_next plan st (Close region) orderly sound may = λ r open_in. cc
keeps_open_next plan st (Hold task) orderly sound may = sound.lives.open_next
keeps_open_next plan st (Pick space block) orderly sound may = sound.lives.open_next
keeps_open_next plan st (Gone space block) orderly sound may = sound.lives.open_next
keeps_open_next plan st (Make task block) orderly sound may = sound.lives.open_next
keeps_open_next plan st (Call space block) orderly sound may = sound.lives.open_next
keeps_open_next plan st (Come space block) orderly sound may = sound.lives.open_next
keeps_open_next plan st (Lend task block source) orderly sound may = sound.lives.open_next
keeps_open_next plan st (Copy task block source count) orderly sound may = sound.lives.open_next
keeps_open_next plan st (Claim task worker) orderly sound may = sound.lives.open_next
keeps_open_next plan st (Finish task) orderly sound may = sound.lives.open_next
keeps_open_next plan st (Back block source count) orderly sound may = sound.lives.open_next

pub begun_one : (plan : Plan) (st : State) (event : Event) (r : ℕ) → IsNext plan st event → was_begun (made plan (one_more plan st.progress)) r ≡ (was_begun (made plan st.progress) r || begin_of r event)
begun_one plan st event r next = begun_makes plan st.progress (one_more plan st.progress) event r (makes_next plan st.progress event next)

-- what was begun stays so
pub begun_more : (plan : Plan) (st : State) (event : Event) (r : ℕ) → IsNext plan st event → was_begun (made plan st.progress) r ≡ true → was_begun (made plan (one_more plan st.progress)) r ≡ true
begun_more plan st event r next was = begun_one plan st event r next ∙ or_left (was_begun (made plan st.progress) r) (begin_of r event) was

pub begun_on : (plan : Plan) (st : State) (event : Event) (r : ℕ) → (st.region ≡ None → IsNext plan st event) → was_begun (made plan st.progress) r ≡ true → was_begun (made plan (on_outside plan st)) r ≡ true
begun_on plan st event r due was = ⊎_elim
    (λ (out : (st.region ≡ None) × (on_outside plan st ≡ one_more plan st.progress)). ap (λ (p : Progress). was_begun (made plan p) r) out.1 ∙ begun_more plan st event r (due out.0) was)
    (λ (open_in : IsOpen st × (on_outside plan st ≡ st.progress)). ap (λ (p : Progress). was_begun (made plan p) r) open_in.1 ∙ was)
    (outside_or_in plan st)

abbrev OpenBegun : Plan → State → Type 0
OpenBegun plan st = (r : ℕ) → st.region ≡ Some r → was_begun (made plan st.progress) r ≡ true

pub keeps_open_begun : (plan : Plan) (st : State) (event : Event) → IsSound plan st → May plan st event → OpenBegun plan (after plan st event)
keeps_open_begun plan st (Ask space block) sound may = λ r open_in. begun_on plan st (Ask space block) r may.due (sound.lives.open_begun r open_in)
keeps_open_begun plan st Rest sound may = subst (OpenBegun plan) (sym (rested_at plan st may)) (λ r open_in. begun_on plan st Rest r may.due (sound.lives.open_begun r open_in))
keeps_open_begun plan st (Put block) sound may = λ r open_in. begun_more plan st (Put block) r may.due (sound.lives.open_begun r open_in)
keeps_open_begun plan st (Shift block space) sound may = λ r open_in. begun_more plan st (Shift block space) r may.due (sound.lives.open_begun r open_in)
keeps_open_begun plan st (Free space block) sound may = λ r open_in. begun_on plan st (Free space block) r may.due (sound.lives.open_begun r open_in)
keeps_open_begun plan st (Begin region) sound may = λ r open_in.
    begun_one plan st (Begin region) r may.due ∙ or_right (was_begun (made plan st.progress) r) (eqb region r) (eq-eqb region r (same_region region r open_in))
keeps_open_begun plan st (Close region) sound may = λ r open_in. cc
keeps_open_begun plan st (Hold task) sound may = sound.lives.open_begun
keeps_open_begun plan st (Pick space block) sound may = sound.lives.open_begun
keeps_open_begun plan st (Gone space block) sound may = sound.lives.open_begun
keeps_open_begun plan st (Make task block) sound may = sound.lives.open_begun
keeps_open_begun plan st (Call space block) sound may = sound.lives.open_begun
keeps_open_begun plan st (Come space block) sound may = sound.lives.open_begun
keeps_open_begun plan st (Lend task block source) sound may = sound.lives.open_begun
keeps_open_begun plan st (Copy task block source count) sound may = sound.lives.open_begun
keeps_open_begun plan st (Claim task worker) sound may = sound.lives.open_begun
keeps_open_begun plan st (Finish task) sound may = sound.lives.open_begun
keeps_open_begun plan st (Back block source count) sound may = sound.lives.open_begun

abbrev TouchedLive : Plan → State → Type 0
TouchedLive plan st = (r t b : ℕ) → st.region ≡ Some r → IsOf plan r t → touches plan t b ≡ true → is_live (made plan st.progress) b ≡ true

live_stays : (plan : Plan) (st : State) (r b : ℕ) → st.region ≡ Some r → is_live (made plan st.progress) b ≡ true → is_live (made plan (on_outside plan st)) b ≡ true
live_stays plan st r b open_in live = ap (λ (p : Progress). is_live (made plan p) b) (stays plan st r open_in) ∙ live

pub keeps_touched_live : (plan : Plan) (st : State) (event : Event) → IsOrderly plan → IsSound plan st → May plan st event → TouchedLive plan (after plan st event)
keeps_touched_live plan st (Ask space block) orderly sound may = λ r t b open_in of touched. live_stays plan st r b open_in (sound.lives.touched_live r t b open_in of touched)
keeps_touched_live plan st Rest orderly sound may = subst (TouchedLive plan) (sym (rested_at plan st may))
    (λ r t b open_in of touched. live_stays plan st r b open_in (sound.lives.touched_live r t b open_in of touched))
keeps_touched_live plan st (Put block) orderly sound may = λ r t b open_in of touched. let out = may.outside in cc
keeps_touched_live plan st (Shift block space) orderly sound may = λ r t b open_in of touched. let out = may.outside in cc
keeps_touched_live plan st (Free space block) orderly sound may = λ r t b open_in of touched. live_stays plan st r b open_in (sound.lives.touched_live r t b open_in of touched)
keeps_touched_live plan st (Begin region) orderly sound may = λ r t b open_in of touched.
    live_one plan st (Begin region) b may.due ∙ orderly.touched st.progress region t b may.due (subst (λ (x : ℕ). IsOf plan x t) (sym (same_region region r open_in)) of) touched
keeps_touched_live plan st (Close region) orderly sound may = λ r t b open_in of touched. cc
keeps_touched_live plan st (Hold task) orderly sound may = sound.lives.touched_live
keeps_touched_live plan st (Pick space block) orderly sound may = sound.lives.touched_live
keeps_touched_live plan st (Gone space block) orderly sound may = sound.lives.touched_live
keeps_touched_live plan st (Make task block) orderly sound may = sound.lives.touched_live
keeps_touched_live plan st (Call space block) orderly sound may = sound.lives.touched_live
keeps_touched_live plan st (Come space block) orderly sound may = sound.lives.touched_live
keeps_touched_live plan st (Lend task block source) orderly sound may = sound.lives.touched_live
keeps_touched_live plan st (Copy task block source count) orderly sound may = sound.lives.touched_live
keeps_touched_live plan st (Claim task worker) orderly sound may = sound.lives.touched_live
keeps_touched_live plan st (Finish task) orderly sound may = sound.lives.touched_live
keeps_touched_live plan st (Back block source count) orderly sound may = sound.lives.touched_live
