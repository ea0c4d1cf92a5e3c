-- A block is live exactly where its home has a copy of it, and its home is where the statements put it.
use Rattle.std.proofs.Common.{◌≡◌, ◌≢◌, ℕ, Bool, true, false, cond, eqb, Option, None, refl, ap, sym, ◌∙◌, subst, ⊎_elim}
use Rattle.std.proofs.lemmas.Bool.Decides.{eqb_tells}
use Rattle.dd_blocks.specs.declared.plan.Plan.{Plan}
use Rattle.dd_blocks.specs.Numbered.{block_row}
use Rattle.dd_machine.specs.declared.copy_state.CopyState.TheVariants as state
use Rattle.dd_machine.specs.declared.event.Event.{Event}
use Rattle.dd_machine.specs.declared.event.Event.TheVariants.{Ask, Rest, Put, Shift, Free, Begin, Hold, Pick, Gone, Make, Call, Come, Lend, Copy, Claim, Finish, Back, Close}
use Rattle.dd_machine.specs.Effects.{after, fresh, in_state, on_outside}
use Rattle.dd_machine.specs.Legal.{IsNext, May}
use Rattle.dd_machine.specs.Made.{home_made, home_with, is_live, live_after}
use Rattle.dd_machine.specs.Owed.{made, one_more}
use Rattle.dd_machine.specs.Sound.{IsSound}
use Rattle.dd_machine.specs.SoundLimits.{IsOpen}
use Rattle.dd_machine.specs.States as states
use Rattle.dd_machine.specs.States.{Progress, State, at_copy, at_one}
use Rattle.dd_machine.specs.Tests.{is_any, is_in_state}
use Rattle.dd_machine.specs.Words.{place}
use Rattle.dd_machine.proofs.ChangesLemmas.{at_copy_other, at_copy_same, at_one_other, at_one_same, at_one_tells}
use Rattle.dd_machine.proofs.ProgressLemmas.{makes_next}
use Rattle.dd_machine.proofs.TestsLemmas.{any_copied, any_finished, any_in_state, rested_at, same_at}
use Rattle.laws_of_lives.proofs.MadeLemmas.{home_makes, live_makes, outside_or_in, same_on}

pub live_one : (plan : Plan) (st : State) (event : Event) (b : ℕ) → IsNext plan st event → is_live (made plan (one_more plan st.progress)) b ≡ live_after b (is_live (made plan st.progress) b) event
live_one plan st event b next = live_makes plan st.progress (one_more plan st.progress) event b (makes_next plan st.progress event next)

home_one : (plan : Plan) (st : State) (event : Event) (first b : ℕ) → IsNext plan st event → home_made first (made plan (one_more plan st.progress)) b ≡ home_with b (home_made first (made plan st.progress) b) event
home_one plan st event first b next = home_makes plan st.progress (one_more plan st.progress) event first b (makes_next plan st.progress event next)

-- an event that is no Put and no Free
pub live_same : (plan : Plan) (st : State) (event : Event) (b : ℕ) → (st.region ≡ None → IsNext plan st event) → ((x : Bool) → live_after b x event ≡ x) → is_live (made plan (on_outside plan st)) b ≡ is_live (made plan st.progress) b
live_same plan st event b due none = same_on plan st event (λ es. is_live es b) due (λ m. live_makes plan st.progress (one_more plan st.progress) event b m ∙ none (is_live (made plan st.progress) b))

-- an event that is no Shift
home_same : (plan : Plan) (st : State) (event : Event) (first b : ℕ) → (st.region ≡ None → IsNext plan st event) → ((x : ℕ) → home_with b x event ≡ x) → home_made first (made plan (on_outside plan st)) b ≡ home_made first (made plan st.progress) b
home_same plan st event first b due none = same_on plan st event (λ es. home_made first es b) due (λ m. home_makes plan st.progress (one_more plan st.progress) event first b m ∙ none (home_made first (made plan st.progress) b))

abbrev HomeIs : Plan → State → Type 0
HomeIs plan st = (b : ℕ) → home_made (block_row plan b).home (made plan st.progress) b ≡ st.homes b

pub keeps_home_is : (plan : Plan) (st : State) (event : Event) → IsSound plan st → May plan st event → HomeIs plan (after plan st event)
keeps_home_is plan st (Ask space block) sound may = λ b. home_same plan st (Ask space block) (block_row plan b).home b may.due (λ x. refl) ∙ sound.lives.home_is b
keeps_home_is plan st Rest sound may = subst (HomeIs plan) (sym (rested_at plan st may))
    (λ b. home_same plan st Rest (block_row plan b).home b may.due (λ x. refl) ∙ sound.lives.home_is b)
keeps_home_is plan st (Put block) sound may = λ b. home_one plan st (Put block) (block_row plan b).home b may.due ∙ sound.lives.home_is b
keeps_home_is plan st (Shift block space) sound may = λ b.
    home_one plan st (Shift block space) (block_row plan b).home b may.due
    ∙ ⊎_elim
    (λ (e : (eqb block b ≡ true) × (block ≡ b)). ap (λ (t : Bool). cond t space (home_made (block_row plan b).home (made plan st.progress) b)) e.0 ∙ sym (ap (at_one st.homes block space) (sym e.1) ∙ at_one_same st.homes block space))
    (λ (e : (eqb block b ≡ false) × (block ≢ b)). ap (λ (t : Bool). cond t space (home_made (block_row plan b).home (made plan st.progress) b)) e.0 ∙ sound.lives.home_is b ∙ sym (at_one_other st.homes block space b (λ same. e.1 (sym same))))
    (eqb_tells block b)
keeps_home_is plan st (Free space block) sound may = λ b. home_same plan st (Free space block) (block_row plan b).home b may.due (λ x. refl) ∙ sound.lives.home_is b
keeps_home_is plan st (Begin r) sound may = λ b. home_one plan st (Begin r) (block_row plan b).home b may.due ∙ sound.lives.home_is b
keeps_home_is plan st (Close r) sound may = λ b. home_one plan st (Close r) (block_row plan b).home b (sound.lives.open_next r may.open_is) ∙ sound.lives.home_is b
keeps_home_is plan st (Hold task) sound may = sound.lives.home_is
keeps_home_is plan st (Pick space block) sound may = sound.lives.home_is
keeps_home_is plan st (Gone space block) sound may = sound.lives.home_is
keeps_home_is plan st (Make task block) sound may = sound.lives.home_is
keeps_home_is plan st (Call space block) sound may = sound.lives.home_is
keeps_home_is plan st (Come space block) sound may = sound.lives.home_is
keeps_home_is plan st (Lend task block source) sound may = sound.lives.home_is
keeps_home_is plan st (Copy task block source count) sound may = sound.lives.home_is
keeps_home_is plan st (Claim task worker) sound may = sound.lives.home_is
keeps_home_is plan st (Finish task) sound may = sound.lives.home_is
keeps_home_is plan st (Back block source count) sound may = sound.lives.home_is

abbrev HomeLive : Plan → State → Type 0
HomeLive plan st = (b : ℕ) → is_live (made plan st.progress) b ≡ is_in_state is_any (st.copies (st.homes b) b)

-- one copy was changed, and is there as before
live_at : (plan : Plan) (st : State) (space block : ℕ) (copy : Option states.Copy) → IsSound plan st → is_in_state is_any copy ≡ is_in_state is_any (st.copies space block)
    → (b : ℕ) → is_live (made plan st.progress) b ≡ is_in_state is_any (at_copy st.copies space block copy (st.homes b) b)
live_at plan st space block copy sound same b = sound.lives.home_live b ∙ sym (same_at (is_in_state is_any) st.copies space block copy same (st.homes b) b)

pub keeps_home_live : (plan : Plan) (st : State) (event : Event) → IsSound plan st → May plan st event → HomeLive plan (after plan st event)
keeps_home_live plan st (Ask space block) sound may = λ b. live_same plan st (Ask space block) b may.due (λ x. refl) ∙ sound.lives.home_live b
keeps_home_live plan st Rest sound may = subst (HomeLive plan) (sym (rested_at plan st may))
    (λ b. live_same plan st Rest b may.due (λ x. refl) ∙ sound.lives.home_live b)
keeps_home_live plan st (Put block) sound may = λ b.
    live_one plan st (Put block) b may.due
    ∙ ⊎_elim
    (λ (e : (eqb block b ≡ true) × (block ≡ b)). ap (λ (t : Bool). cond t true (is_live (made plan st.progress) b)) e.0
    ∙ sym (ap (λ (x : ℕ). is_in_state is_any (at_copy st.copies (st.homes block) block (fresh plan block 0) (st.homes x) x)) (sym e.1) ∙ ap (is_in_state is_any) (at_copy_same st.copies (st.homes block) block (fresh plan block 0))))
    (λ (e : (eqb block b ≡ false) × (block ≢ b)). ap (λ (t : Bool). cond t true (is_live (made plan st.progress) b)) e.0
    ∙ sound.lives.home_live b ∙ sym (ap (is_in_state is_any) (at_copy_other st.copies (st.homes block) block (fresh plan block 0) (st.homes b) b (λ s same. e.1 (sym same)))))
    (eqb_tells block b)
keeps_home_live plan st (Shift block space) sound may = λ b.
    live_one plan st (Shift block space) b may.due
    ∙ sound.lives.home_live b
    ∙ shift b
  where
    old : ℕ → ℕ → Option states.Copy
    old = at_copy st.copies (st.homes block) block None

    new : Option states.Copy
    new = in_state state.Here (st.copies (st.homes block) block)

    shift : (b : ℕ) → is_in_state is_any (st.copies (st.homes b) b) ≡ is_in_state is_any (at_copy old space block new (at_one st.homes block space b) b)
    shift b = ⊎_elim
        (λ (e : (b ≡ block) × (at_one st.homes block space b ≡ space)).
        ap (λ (x : ℕ). is_in_state is_any (st.copies (st.homes x) x)) e.0
        ∙ sym (any_in_state state.Here (st.copies (st.homes block) block))
        ∙ sym (ap (is_in_state is_any) (at_copy_same old space block new))
        ∙ sym (ap (λ (x : ℕ). is_in_state is_any (at_copy old space block new x b)) e.1 ∙ ap (λ (x : ℕ). is_in_state is_any (at_copy old space block new space x)) e.0))
        (λ (e : (b ≢ block) × (at_one st.homes block space b ≡ st.homes b)).
        sym (ap (λ (x : ℕ). is_in_state is_any (at_copy old space block new x b)) e.1
        ∙ ap (is_in_state is_any) (at_copy_other old space block new (st.homes b) b (λ s same. e.0 same) ∙ at_copy_other st.copies (st.homes block) block None (st.homes b) b (λ s same. e.0 same))))
        (at_one_tells st.homes block space b)
keeps_home_live plan st (Free space block) sound may = λ b. ⊎_elim
    (λ (out : (st.region ≡ None) × (on_outside plan st ≡ one_more plan st.progress)).
    ap (λ (p : Progress). is_live (made plan p) b) out.1 ∙ live_one plan st (Free space block) b (may.due out.0) ∙ freed b (may.at_home out.0))
    (λ (open_in : IsOpen st × (on_outside plan st ≡ st.progress)).
    ap (λ (p : Progress). is_live (made plan p) b) open_in.1 ∙ sound.lives.home_live b
    ∙ sym (ap (is_in_state is_any) (at_copy_other st.copies space block None (st.homes b) b (λ s same. may.elsewhere open_in.0.0 open_in.0.1 (ap st.homes (sym same) ∙ s)))))
    (outside_or_in plan st)
  where
    freed : (b : ℕ) → st.homes block ≡ space → live_after b (is_live (made plan st.progress) b) (Free space block) ≡ is_in_state is_any (at_copy st.copies space block None (st.homes b) b)
    freed b home = ⊎_elim
        (λ (e : (eqb block b ≡ true) × (block ≡ b)). ap (λ (t : Bool). cond t false (is_live (made plan st.progress) b)) e.0
        ∙ sym (ap (λ (x : ℕ). is_in_state is_any (at_copy st.copies space block None (st.homes x) x)) (sym e.1)
        ∙ ap (λ (x : ℕ). is_in_state is_any (at_copy st.copies space block None x block)) home
        ∙ ap (is_in_state is_any) (at_copy_same st.copies space block None)))
        (λ (e : (eqb block b ≡ false) × (block ≢ b)). ap (λ (t : Bool). cond t false (is_live (made plan st.progress) b)) e.0
        ∙ sound.lives.home_live b ∙ sym (ap (is_in_state is_any) (at_copy_other st.copies space block None (st.homes b) b (λ s same. e.1 (sym same)))))
        (eqb_tells block b)
keeps_home_live plan st (Begin r) sound may = λ b. live_one plan st (Begin r) b may.due ∙ sound.lives.home_live b
keeps_home_live plan st (Close r) sound may = λ b. live_one plan st (Close r) b (sound.lives.open_next r may.open_is) ∙ sound.lives.home_live b
keeps_home_live plan st (Hold task) sound may = sound.lives.home_live
keeps_home_live plan st (Pick space block) sound may = live_at plan st space block (in_state state.Leaving (st.copies space block)) sound (any_in_state state.Leaving (st.copies space block))
keeps_home_live plan st (Gone space block) sound may = live_at plan st space block (in_state state.Out (st.copies space block)) sound (any_in_state state.Out (st.copies space block))
keeps_home_live plan st (Make task block) sound may =
    let o = sound.limits.active_open task (rw may.held refl) in
    let live : is_live (made plan st.progress) block ≡ true = sound.lives.touched_live o.0 task block o.1 o.2 may.touched in
    λ b. sound.lives.home_live b ∙ sym (ap (is_in_state is_any) (at_copy_other st.copies (place plan task) block (fresh plan block states.blank) (st.homes b) b
    (λ s same. let h : true ≡ false = sym live ∙ sound.lives.home_live block ∙ ap (λ (x : ℕ). is_in_state is_any (st.copies (st.homes x) block)) (sym same) ∙ ap (λ (x : ℕ). is_in_state is_any (st.copies x block)) s ∙ ap (is_in_state is_any) may.absent in cc)))
keeps_home_live plan st (Call space block) sound may = live_at plan st space block (in_state state.Coming (st.copies space block)) sound (any_in_state state.Coming (st.copies space block))
keeps_home_live plan st (Come space block) sound may = live_at plan st space block (in_state state.Here (st.copies space block)) sound (any_in_state state.Here (st.copies space block))
keeps_home_live plan st (Lend task block source) sound may = live_at plan st source block (in_state (state.Lent task) (st.copies source block)) sound (any_in_state (state.Lent task) (st.copies source block))
keeps_home_live plan st (Copy task block source count) sound may = λ b. sound.lives.home_live b ∙ sym (any_copied plan st task block source count (st.homes b) b)
keeps_home_live plan st (Claim task worker) sound may = sound.lives.home_live
keeps_home_live plan st (Finish task) sound may = λ b. sound.lives.home_live b ∙ sym (any_finished plan st task (st.homes b) b)
keeps_home_live plan st (Back block source count) sound may = λ b. sound.lives.home_live b ∙ sym (any_copied plan st 0 block source count (st.homes b) b)
