-- A task has one lend at most.
use Rattle.std.proofs.Common.{◌≡◌, ℕ, true, false, eqb, Option, Some, None, refl, ap, sym, ◌∙◌, subst, ⊎_elim}
use Rattle.std.proofs.lemmas.Bool.{eqb-true}
use Rattle.dd_blocks.specs.declared.plan.Plan.{Plan}
use Rattle.dd_machine.specs.declared.copy_state.CopyState.{CopyState}
use Rattle.dd_machine.specs.declared.copy_state.CopyState.TheVariants as state
use Rattle.dd_machine.specs.declared.event.Event.{Event}
use Rattle.dd_machine.specs.declared.event.Event.TheVariants.{Ask, Rest, Put, Shift, Free, Begin, Hold, Pick, Gone, Make, Call, Come, Lend, Copy, Claim, Finish, Back, Close}
use Rattle.dd_machine.specs.Effects.{after, fresh, in_state}
use Rattle.dd_machine.specs.Legal.{May}
use Rattle.dd_machine.specs.Needed.{source}
use Rattle.dd_machine.specs.States as states
use Rattle.dd_machine.specs.States.{State, at_copy, at_one}
use Rattle.dd_machine.specs.Tests.{Has, is_in_state}
use Rattle.dd_machine.specs.Words.{place}
use Rattle.dd_machine.proofs.ChangesLemmas.{at_copy_tells}
use Rattle.dd_machine.proofs.TestsLemmas.{none_in_state, passed_other, rested_at, state_finished}
use Rattle.dd_machine.specs.SoundProgress.{SoundProgress}
use Rattle.laws_of_progress.proofs.LendsWhole.{lent_before, to}

abbrev pub LendsOnce : State → Type 0
LendsOnce st = (s b x c t : ℕ) → Has st s b (to t) → Has st x c (to t) → (s ≡ x) × (b ≡ c)

once_from : (st new : State) → ((s b t : ℕ) → Has new s b (to t) → Has st s b (to t)) → LendsOnce st → LendsOnce new
once_from st new was old s b x c t lent other = old s b x c t (was s b t lent) (was x c t other)

once_state : (st : State) (space block : ℕ) (new : CopyState) → ((t : ℕ) → to t new ≡ false) → LendsOnce st → LendsOnce (record st { copies = at_copy st.copies space block (in_state new (st.copies space block)) })
once_state st space block new none = once_from st (record st { copies = at_copy st.copies space block (in_state new (st.copies space block)) })
    (λ s b t lent. passed_other (to t) st.copies space block (in_state new (st.copies space block)) (none_in_state (to t) new (st.copies space block) (none t)) s b lent)

once_new : (st : State) (copies : ℕ → ℕ → Option states.Copy) (space block : ℕ) (copy : Option states.Copy) → ((t : ℕ) → is_in_state (to t) copy ≡ false) → ((s b t : ℕ) → is_in_state (to t) (copies s b) ≡ true → Has st s b (to t))
    → (s b t : ℕ) → is_in_state (to t) (at_copy copies space block copy s b) ≡ true → Has st s b (to t)
once_new st copies space block copy none old s b t lent = old s b t (passed_other (to t) copies space block copy (none t) s b lent)

pub keeps_lends_once : (plan : Plan) (st : State) (event : Event) → SoundProgress plan st → May plan st event → LendsOnce (after plan st event)
keeps_lends_once plan st (Ask space block) able may = able.lends_once
keeps_lends_once plan st Rest able may = subst LendsOnce (sym (rested_at plan st may)) able.lends_once
keeps_lends_once plan st (Put block) able may = once_from st (after plan st (Put block)) (once_new st st.copies (st.homes block) block (fresh plan block 0) (λ t. refl) (λ s b t lent. lent)) able.lends_once
keeps_lends_once plan st (Shift block space) able may = once_from st (after plan st (Shift block space))
    (once_new st (at_copy st.copies (st.homes block) block None) space block (in_state state.Here (st.copies (st.homes block) block)) (λ t. none_in_state (to t) state.Here (st.copies (st.homes block) block) refl)
    (once_new st st.copies (st.homes block) block None (λ t. refl) (λ s b t lent. lent))) able.lends_once
keeps_lends_once plan st (Free space block) able may = once_from st (after plan st (Free space block)) (once_new st st.copies space block None (λ t. refl) (λ s b t lent. lent)) able.lends_once
keeps_lends_once plan st (Begin r) able may = able.lends_once
keeps_lends_once plan st (Close r) able may = able.lends_once
keeps_lends_once plan st (Hold task) able may = able.lends_once
keeps_lends_once plan st (Pick space block) able may = once_state st space block state.Leaving (λ t. refl) able.lends_once
keeps_lends_once plan st (Gone space block) able may = once_state st space block state.Out (λ t. refl) able.lends_once
keeps_lends_once plan st (Make task block) able may = once_from st (after plan st (Make task block)) (once_new st st.copies (place plan task) block (fresh plan block states.blank) (λ t. refl) (λ s b t lent. lent)) able.lends_once
keeps_lends_once plan st (Call space block) able may = once_state st space block state.Coming (λ t. refl) able.lends_once
keeps_lends_once plan st (Come space block) able may = once_state st space block state.Here (λ t. refl) able.lends_once
keeps_lends_once plan st (Lend task block source) able may = λ s b x c t lent other. ⊎_elim
    (λ (e : At s b). ⊎_elim
    (λ (f : At x c). (e.0 ∙ sym f.0, e.1 ∙ sym f.1))
    (λ (f : Old x c). absurd (clash t s b x c e f lent other))
    (at_copy_tells st.copies source block copy x c))
    (λ (e : Old s b). ⊎_elim
    (λ (f : At x c). absurd (clash t x c s b f e other lent))
    (λ (f : Old x c). able.lends_once s b x c t (ap (is_in_state (to t)) (sym e.1) ∙ lent) (ap (is_in_state (to t)) (sym f.1) ∙ other))
    (at_copy_tells st.copies source block copy x c))
    (at_copy_tells st.copies source block copy s b)
  where
    copy : Option states.Copy
    copy = in_state (state.Lent task) (st.copies source block)

    At : ℕ → ℕ → Type 0
    At s b = (s ≡ source) × (b ≡ block) × (at_copy st.copies source block copy s b ≡ copy)

    Old : ℕ → ℕ → Type 0
    Old s b = (s ≡ source → b ≡ block → ⊥) × (at_copy st.copies source block copy s b ≡ st.copies s b)

    lent_is : (n : ℕ) (c : Option states.Copy) → is_in_state (to n) (in_state (state.Lent task) c) ≡ true → task ≡ n
    lent_is n None e = absurd cc
    lent_is n (Some c) e = eqb-true task n e

    clash : (t s b x c : ℕ) → At s b → Old x c → is_in_state (to t) (at_copy st.copies source block copy s b) ≡ true → is_in_state (to t) (at_copy st.copies source block copy x c) ≡ true → ⊥
    clash t s b x c e f lent other =
        let is : task ≡ t = lent_is t (st.copies source block) (ap (is_in_state (to t)) (sym e.2) ∙ lent) in
        let old : Has st x c (to t) = ap (is_in_state (to t)) (sym f.1) ∙ other in
        let h : true ≡ false = sym old ∙ ap (λ (n : ℕ). is_in_state (to n) (st.copies x c)) (sym is) ∙ may.no_lend x c in cc
keeps_lends_once plan st (Copy task block source count) able may = once_from st (after plan st (Copy task block source count)) (λ s b t lent. lent_before plan st task block source count s b (λ u. eqb u t) lent) able.lends_once
keeps_lends_once plan st (Claim task worker) able may = able.lends_once
keeps_lends_once plan st (Finish task) able may = once_from st (after plan st (Finish task)) (λ s b t lent. sym (state_finished plan st task s b (to t)) ∙ lent) able.lends_once
keeps_lends_once plan st (Back block source count) able may = once_from st (after plan st (Back block source count)) (λ s b t lent. lent_before plan st 0 block source count s b (λ u. eqb u t) lent) able.lends_once
