-- Before the first Pick every copy is in memory.
use Rattle.std.proofs.Common.{◌≡◌, ℕ, Bool, true, false, ◌||◌, List, [], ◌∷◌, Option, Some, None, refl, sym, ap, ◌∙◌}
use Rattle.std.specs.Prelude.{not}
use Rattle.std.proofs.lemmas.Bool.{or_parts}
use Rattle.dd_blocks.specs.declared.plan.Plan.{Plan}
use Rattle.dd_ledger.specs.declared.ledger.Ledger.{Ledger}
use Rattle.dd_ledger.specs.Ledgers.{state_now}
use Rattle.dd_machine.specs.declared.copy_state.CopyState.{CopyState}
use Rattle.dd_machine.specs.declared.copy_state.CopyState.TheVariants.{Here, Leaving, Out, Coming, Lent}
use Rattle.dd_machine.specs.declared.entry.Entry.{Entry}
use Rattle.dd_machine.specs.declared.event.Event.{Event}
use Rattle.dd_machine.specs.declared.event.Event.TheVariants as event
use Rattle.dd_machine.specs.Effects.{after, after_copy, after_rest, copy_where, given_back, in_state, not_lent}
use Rattle.dd_machine.specs.Legal.{May}
use Rattle.dd_machine.specs.Needed.{is_needed, own_space}
use Rattle.dd_machine.specs.Runs.{IsRun, has_pick, is_pick, start, state_after}
use Rattle.dd_machine.specs.States.{Copy, State, at_copy}
use Rattle.dd_machine.specs.Tests.{is_coming, is_here, is_in_state, is_leaving, is_out}
use Rattle.dd_machine.specs.Words.{element}
use Rattle.dd_machine.proofs.ChangesLemmas.{each_at_copy}
use Rattle.dd_machine.proofs.TestsLemmas.{none_in_state, state_finished, state_where}

-- it isn't in memory
abbrev pub is_away : CopyState → Bool
is_away s = not (is_here s)

abbrev pub NoneAway : State → Type 0
NoneAway st = (s b : ℕ) → is_in_state is_away (st.copies s b) ≡ false

no_more : {A : Type 0} → false ≡ true → A
no_more e = absurd (cc)

-- a copy that passes one of these tests is away
away_by : (test : CopyState → Bool) → ((s : CopyState) → test s ≡ true → is_away s ≡ true) → (c : Option Copy) → is_in_state test c ≡ true → is_in_state is_away c ≡ false → ⊥
away_by test away None is none = no_more is
away_by test away (Some c) is none = no_more (sym none ∙ away c.state is)

leaving_away : (s : CopyState) → is_leaving s ≡ true → is_away s ≡ true
leaving_away Here is = is
leaving_away Leaving is = refl
leaving_away Out is = refl
leaving_away Coming is = refl
leaving_away (Lent t) is = refl

out_away : (s : CopyState) → is_out s ≡ true → is_away s ≡ true
out_away Here is = is
out_away Leaving is = refl
out_away Out is = refl
out_away Coming is = refl
out_away (Lent t) is = refl

coming_away : (s : CopyState) → is_coming s ≡ true → is_away s ≡ true
coming_away Here is = is
coming_away Leaving is = refl
coming_away Out is = refl
coming_away Coming is = refl
coming_away (Lent t) is = refl

given_away : (c : Option Copy) → is_in_state is_away c ≡ false → is_in_state is_away (given_back c) ≡ false
given_away None none = refl
given_away (Some c) none = by c.state none
  where
    by : (s : CopyState) → is_away s ≡ false → is_away (not_lent s) ≡ false
    by Here none = refl
    by Leaving none = none
    by Out none = none
    by Coming none = none
    by (Lent t) none = none

rest_copies : (plan : Plan) (st : State) (pin : Option (ℕ × ℕ)) → (after_rest plan st pin).copies ≡ st.copies
rest_copies plan st None = refl
rest_copies plan st (Some p) = refl

changed : (st : State) (space block : ℕ) (copy : Option Copy) → NoneAway st → is_in_state is_away copy ≡ false → (s b : ℕ) → is_in_state is_away (at_copy st.copies space block copy s b) ≡ false
changed st space block copy none new = each_at_copy (λ s b c. is_in_state is_away c ≡ false) st.copies space block copy none new

copied : (plan : Plan) (st : State) (task block from count : ℕ) → NoneAway st → NoneAway (after_copy plan st task block from count)
copied plan st task block from count none =
    let own = own_space plan st task block in
    let lender = at_copy st.copies from block (given_back (st.copies from block)) in
    let new = copy_where (is_needed plan st task block from) (λ i. st.current (element plan block i)) (st.copies own block) in
    each_at_copy (λ s b c. is_in_state is_away c ≡ false) lender own block new
    (changed st from block (given_back (st.copies from block)) none (given_away (st.copies from block) (none from block)))
    (state_where (is_needed plan st task block from) (λ i. st.current (element plan block i)) is_away (st.copies own block) ∙ none own block)

-- no event but a Pick takes a copy away
stays_here : (plan : Plan) (st : State) (ev : Event) → May plan st ev → is_pick ev ≡ false → NoneAway st → NoneAway (after plan st ev)
stays_here plan st (event.Ask space block) may other none = none
stays_here plan st event.Rest may other none = λ s b. ap (λ (copies : ℕ → ℕ → Option Copy). is_in_state is_away (copies s b)) (rest_copies plan st st.pin) ∙ none s b
stays_here plan st (event.Put block) may other none = changed st (st.homes block) block _ none refl
stays_here plan st (event.Shift block space) may other none =
    each_at_copy (λ s b c. is_in_state is_away c ≡ false) (at_copy st.copies (st.homes block) block None) space block (in_state Here (st.copies (st.homes block) block))
    (changed st (st.homes block) block None none refl) (none_in_state is_away Here (st.copies (st.homes block) block) refl)
stays_here plan st (event.Free space block) may other none = changed st space block None none refl
stays_here plan st (event.Begin region) may other none = none
stays_here plan st (event.Hold task) may other none = none
stays_here plan st (event.Pick space block) may other none = no_more (sym other)
stays_here plan st (event.Gone space block) may other none = absurd (away_by is_leaving leaving_away (st.copies space block) may.leaving (none space block))
stays_here plan st (event.Make task block) may other none = changed st _ block _ none refl
stays_here plan st (event.Call space block) may other none = absurd (away_by is_out out_away (st.copies space block) may.out (none space block))
stays_here plan st (event.Come space block) may other none = absurd (away_by is_coming coming_away (st.copies space block) may.coming (none space block))
stays_here plan st (event.Lend task block source) may other none = absurd (away_by is_out out_away (st.copies source block) may.out (none source block))
stays_here plan st (event.Copy task block source count) may other none = copied plan st task block source count none
stays_here plan st (event.Claim task worker) may other none = none
stays_here plan st (event.Finish task) may other none = λ s b. state_finished plan st task s b is_away ∙ none s b
stays_here plan st (event.Back block source count) may other none = copied plan st 0 block source count none
stays_here plan st (event.Close region) may other none = none

all_here : (plan : Plan) (st : State) (entries : List Entry) → IsRun plan st entries → has_pick entries ≡ false → NoneAway st → NoneAway (state_after plan st entries)
unfolding IsRun state_after has_pick
all_here plan st [] run none here = here
all_here plan st (e ∷ es) run none here =
    let parts = or_parts (is_pick e.event) (has_pick es) none in
    all_here plan (after plan st e.event) es run.1 parts.1 (stays_here plan st e.event run.0.1 parts.0 here)

-- so where a copy isn't in memory there was a Pick
pub away_picked : (l : Ledger) (test : CopyState → Bool) → ((s : CopyState) → test s ≡ true → is_away s ≡ true) → (space block : ℕ) → is_in_state test ((state_now l).copies space block) ≡ true
    → has_pick l.journal.items ≡ true
away_picked l test away space block is = by (has_pick l.journal.items) refl
  where
    by : (picked : Bool) → has_pick l.journal.items ≡ picked → picked ≡ true
    by true e = refl
    by false e =
        let none = all_here l.plan.now (start l.plan.now) l.journal.items l.facts.legal e (λ s b. refl) in
        absurd (away_by test away ((state_now l).copies space block) is (ap (λ (st : State). is_in_state is_away (st.copies space block)) l.facts.state ∙ none space block))

pub coming_picked : (l : Ledger) (space block : ℕ) → is_in_state is_coming ((state_now l).copies space block) ≡ true → has_pick l.journal.items ≡ true
coming_picked l space block is = away_picked l is_coming coming_away space block is

pub out_picked : (l : Ledger) (space block : ℕ) → is_in_state is_out ((state_now l).copies space block) ≡ true → has_pick l.journal.items ≡ true
out_picked l space block is = away_picked l is_out out_away space block is

-- slots tell where one was needed
pub tells_now : (tells picked : Bool) → picked ≡ true → (tells || not picked) ≡ true → tells ≡ true
tells_now true picked was is = refl
tells_now false picked was is = sym (ap not was) ∙ is
