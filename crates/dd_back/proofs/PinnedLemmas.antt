-- A block that is pinned at its home at the end of a region: what it gets from a space is legal, and it needs nothing from there then.
use Rattle.std.proofs.Common.{◌≡◌, ℕ, ◌<◌, ◌≤◌, Bool, true, false, cond, ◌||◌, eqb, length, Option, Some, None, refl, ap, sym, ◌∙◌, subst, ⊎_elim, arith}
use Rattle.std.specs.Prelude.{is_some, not}
use Rattle.std.proofs.lemmas.Bool.{and_from, and_parts, cases_Bool, eq-eqb, eqb-true, not-true, not_from_false}
use Rattle.dd_back.specs.Steps.{IsPinnedHome, NeedsNone}
use Rattle.dd_blocks.specs.declared.plan.Plan.{Plan}
use Rattle.dd_blocks.specs.Elements.{Element}
use Rattle.dd_machine.specs.declared.copy_state.CopyState.{CopyState}
use Rattle.dd_machine.specs.declared.copy_state.CopyState.TheVariants as state
use Rattle.dd_machine.specs.declared.event.Event.TheVariants.{Back, Lend}
use Rattle.dd_machine.specs.Bytes.{beside_bytes, is_pinned, load, pin_bytes, pin_bytes_in, when}
use Rattle.dd_machine.specs.Effects.{after, after_copy, copy_where, given_back, in_state}
use Rattle.dd_machine.specs.Legal.{AllDone, May, MayRest}
use Rattle.dd_machine.specs.Needed.{is_current, is_current_at, is_needed, needed, source, source_in, version}
use Rattle.dd_machine.specs.Sound.{IsSound}
use Rattle.dd_machine.specs.SoundVersions.{HasCurrent}
use Rattle.dd_machine.specs.States as states
use Rattle.dd_machine.specs.States.{State, at_copy}
use Rattle.dd_machine.specs.Tests.{Has, is_any, is_here, is_here_or_coming, is_idle, is_in_state, is_leaving, is_out, versions_of}
use Rattle.dd_machine.specs.Words.{IsOneOf, blocks, bytes, element, size, spaces}
use Rattle.dd_machine.proofs.RangesLemmas.{all_below}
use Rattle.dd_machine.proofs.TestsLemmas.{none_in_state, not_two, pair_same, passes_any, same_at, state_where}
use Rattle.dd_machine.proofs.TotalsLemmas.{total_le, when_le, when_true}
use Rattle.dd_back.proofs.EndLemmas.{quiet_end}
use Rattle.dd_back.proofs.HomingLemmas.{Keeps, event_keeps}
use Rattle.dd_table.specs.Pulls.{back_of, first_pull}
use Rattle.dd_table.proofs.IdleLemmas.{AreIdle}
use Rattle.laws_of_bound.proofs.StateSteps.{IsNeeded, one_needed}
use Rattle.laws_of_limits.proofs.PinsKept.{out_or_in}
use Rattle.laws_of_progress.proofs.QuietLemmas.{here_gives}
use Rattle.laws_of_progress.proofs.QuietRoom.{fits_beside, idle_out, no_lend}
use Rattle.laws_of_versions.proofs.WhereLemmas.{copied_hit}

-- the block that is pinned needs room once more beside it
pin_room : (plan : Plan) (st : State) (block : ℕ) → IsPinnedHome plan st block → bytes plan block ≤ beside_bytes plan st (st.homes block)
pin_room plan st block p =
    let home = st.homes block in
    let is : pin_bytes plan st home ≡ when (eqb home home) (bytes plan block) =
    ap (λ (o : Option ℕ). pin_bytes_in plan o st.pin home) p.at_end.open_is ∙ ap (λ (o : Option (ℕ × ℕ)). pin_bytes_in plan (Some p.at_end.region) o home) p.pin in
    let all = when_true (eqb home home) (bytes plan block) (eq-eqb home home refl) in
    omega (arith, is, all)

-- a place that isn't current comes from a space that has it
pub has_source : (plan : Plan) (st : State) (block i : ℕ) → IsSound plan st → IsPinnedHome plan st block → i < size plan block → is_current_at plan st (st.homes block) block i ≡ false
    → HasCurrent plan st (source plan st block i) block i
has_source plan st block i sound p lt off = ⊎_elim
    (λ (h : HasCurrent plan st (source plan st block i) block i). h)
    (λ (h : AllDone plan st p.at_end.region × HasCurrent plan st (st.homes block) block i). absurd (
    let on : is_current_at plan st (st.homes block) block i ≡ true = eq-eqb (version st (st.homes block) block i) (st.current (element plan block i)) h.1.1 in
    let x : true ≡ false = sym on ∙ off in cc))
    (sound.versions.source_holds p.at_end.region block i p.at_end.open_is (passes_any is_here (st.copies (st.homes block) block) p.here) lt)

-- what a place that is needed says
needs_parts : (plan : Plan) (st : State) (block from i : ℕ) → is_needed plan st 0 block from i ≡ true → (is_current_at plan st (st.homes block) block i ≡ false) × (source plan st block i ≡ from)
needs_parts plan st block from i is =
    let p = and_parts (not (is_current_at plan st (st.homes block) block i)) (eqb (source plan st block i) from) is in
    (not-true (is_current_at plan st (st.homes block) block i) p.0, eqb-true (source plan st block i) from p.1)

needs_from : (plan : Plan) (st : State) (block from i : ℕ) → is_current_at plan st (st.homes block) block i ≡ false → source plan st block i ≡ from → is_needed plan st 0 block from i ≡ true
needs_from plan st block from i off is =
    and_from (not (is_current_at plan st (st.homes block) block i)) (eqb (source plan st block i) from) (not_from_false (is_current_at plan st (st.homes block) block i) off) (eq-eqb (source plan st block i) from is)

-- the first event of a pull
pub pull_may : (plan : Plan) (st : State) (block from : ℕ) → IsSound plan st → AreIdle st.copies → IsPinnedHome plan st block → 0 < length (needed plan st 0 block from) → May plan st (first_pull plan st block from)
pull_may plan st block from sound idle p some = by (is_in_state is_out (st.copies from block)) refl
  where
    n : IsNeeded plan st 0 block from
    n = one_needed plan st 0 block from some

    parts : (is_current_at plan st (st.homes block) block n.at ≡ false) × (source plan st block n.at ≡ from)
    parts = needs_parts plan st block from n.at n.needs

    holds : HasCurrent plan st from block n.at
    holds = subst (λ (s : ℕ). HasCurrent plan st s block n.at) parts.1 (has_source plan st block n.at sound p n.within parts.0)

    known : IsOneOf (spaces plan) from × IsOneOf (blocks plan) block
    known = sound.progress.copy_known from block holds.0

    by : (out : Bool) → is_in_state is_out (st.copies from block) ≡ out → May plan st (cond out (Lend 0 block from) (back_of plan st block from))
    by true out = record {
      source_is = known.0;
      block_is = known.1;
      asked = (ap is_some p.at_end.open_is, p.pin);
      here = p.here;
      no_lend = λ x y. no_lend st (λ u. eqb u 0) x y (quiet_end plan st sound p.at_end idle);
      out = out;
      some_needed = some;
      fits = fits_beside plan st (st.homes block) (bytes plan block) (quiet_end plan st sound p.at_end idle) p.low (pin_room plan st block p);
    }
    by false not_out = record {
      source_is = known.0;
      block_is = known.1;
      asked = (ap is_some p.at_end.open_is, p.pin);
      here = p.here;
      gives = here_gives 0 (st.copies from block) (⊎_elim
          (λ (here : is_in_state is_here (st.copies from block) ≡ true). here)
          (λ (away : is_in_state is_here (st.copies from block) ≡ false). absurd (let h : true ≡ false = sym (idle_out (st.copies from block) (idle from block holds.0) away) ∙ not_out in cc))
          (cases_Bool (is_in_state is_here (st.copies from block))));
      exact = refl;
      some_needed = some;
    }

-- what no more blocks count in is no larger
pub load_le : (plan : Plan) (st : State) (copies : ℕ → ℕ → Option states.Copy) (s : ℕ)
    → ((b : ℕ) → (is_in_state is_here_or_coming (copies s b) || is_pinned plan st s b) ≡ true → (is_in_state is_here_or_coming (st.copies s b) || is_pinned plan st s b) ≡ true)
    → load plan (record st { copies = copies }) s ≤ load plan st s
load_le plan st copies s each =
    let few = total_le (blocks plan) (λ b. when (is_in_state is_here_or_coming (copies s b) || is_pinned plan st s b) (bytes plan b)) (λ b. when (is_in_state is_here_or_coming (st.copies s b) || is_pinned plan st s b) (bytes plan b))
    (λ b is. when_le (is_in_state is_here_or_coming (copies s b) || is_pinned plan st s b) (is_in_state is_here_or_coming (st.copies s b) || is_pinned plan st s b) (bytes plan b) (each b)) in
    omega (arith, few)

-- a test of copies that a Back leaves as it was
given_test : (test : CopyState → Bool) → ((t : ℕ) → test (state.Lent t) ≡ test state.Out) → (c : Option states.Copy) → is_in_state test (given_back c) ≡ is_in_state test c
given_test test same None = refl
given_test test same (Some c) = by c.state
  where
    by : (s : CopyState) → is_in_state test (given_back (Some (record { state = s; versions = c.versions }))) ≡ test s
    by state.Here = refl
    by state.Leaving = refl
    by state.Out = refl
    by state.Coming = refl
    by (state.Lent t) = sym (same t)

copied_test : (test : CopyState → Bool) → ((t : ℕ) → test (state.Lent t) ≡ test state.Out) → (plan : Plan) (st : State) (block from count s b : ℕ)
    → is_in_state test ((after_copy plan st 0 block from count).copies s b) ≡ is_in_state test (st.copies s b)
copied_test test same plan st block from count s b =
    let own = st.homes block in
    let lender = at_copy st.copies from block (given_back (st.copies from block)) in
    let new = copy_where (is_needed plan st 0 block from) (λ i. st.current (element plan block i)) (st.copies own block) in
    let lent : (x y : ℕ) → is_in_state test (lender x y) ≡ is_in_state test (st.copies x y) = same_at (is_in_state test) st.copies from block (given_back (st.copies from block)) (given_test test same (st.copies from block)) in
    same_at (is_in_state test) lender own block new (state_where (is_needed plan st 0 block from) (λ i. st.current (element plan block i)) test (st.copies own block) ∙ sym (lent own block)) s b ∙ lent s b

-- a Back leaves the block pinned
pub back_pinned : (plan : Plan) (st : State) (block from count : ℕ) → IsPinnedHome plan st block → IsPinnedHome plan (after plan st (Back block from count)) block
back_pinned plan st block from count p = record {
  at_end = record { region = p.at_end.region; open_is = p.at_end.open_is; done = p.at_end.done };
  pin = p.pin;
  here = copied_test is_here (λ t. refl) plan st block from count (st.homes block) block ∙ p.here;
  low = (let le = load_le plan st (after_copy plan st 0 block from count).copies (st.homes block)
      (λ b is. ap (λ (x : Bool). x || is_pinned plan st (st.homes block) b) (sym (copied_test is_here_or_coming (λ t. refl) plan st block from count (st.homes block) b)) ∙ is) in let low = p.low in omega (arith, le, low));
}

out_test : (test : CopyState → Bool) → test state.Out ≡ false → (c : Option states.Copy) → is_in_state is_out c ≡ true → is_in_state test c ≡ false
out_test test off None out = absurd (let e : false ≡ true = out in cc)
out_test test off (Some c) out = by c.state out
  where
    by : (s : CopyState) → is_out s ≡ true → test s ≡ false
    by state.Here is = absurd (let e : false ≡ true = is in cc)
    by state.Leaving is = absurd (let e : false ≡ true = is in cc)
    by state.Out is = off
    by state.Coming is = absurd (let e : false ≡ true = is in cc)
    by (state.Lent t) is = absurd (let e : false ≡ true = is in cc)

-- so does a Lend of a copy that is Out
lent_test : (test : CopyState → Bool) → test state.Out ≡ false → test (state.Lent 0) ≡ false → (plan : Plan) (st : State) (block from : ℕ) → Has st from block is_out
    → (s b : ℕ) → is_in_state test ((after plan st (Lend 0 block from)).copies s b) ≡ is_in_state test (st.copies s b)
lent_test test off lent plan st block from out = same_at (is_in_state test) st.copies from block (in_state (state.Lent 0) (st.copies from block))
    (none_in_state test (state.Lent 0) (st.copies from block) lent ∙ sym (out_test test off (st.copies from block) out))

pub lend_pinned : (plan : Plan) (st : State) (block from : ℕ) → Has st from block is_out → IsPinnedHome plan st block → IsPinnedHome plan (after plan st (Lend 0 block from)) block
lend_pinned plan st block from out p = record {
  at_end = record { region = p.at_end.region; open_is = p.at_end.open_is; done = p.at_end.done };
  pin = p.pin;
  here = lent_test is_here refl refl plan st block from out (st.homes block) block ∙ p.here;
  low = (let le = load_le plan st (after plan st (Lend 0 block from)).copies (st.homes block)
      (λ b is. ap (λ (x : Bool). x || is_pinned plan st (st.homes block) b) (sym (lent_test is_here_or_coming refl refl plan st block from out (st.homes block) b)) ∙ is) in let low = p.low in omega (arith, le, low));
}

-- what is needed was needed before
pub needs_kept : (plan : Plan) (st new : State) (block from i : ℕ) → Keeps plan st new → is_needed plan new 0 block from i ≡ true → is_needed plan st 0 block from i ≡ true
needs_kept plan st new block from i k is =
    let parts = needs_parts plan new block from i is in
    let home : new.homes block ≡ st.homes block = ap (λ (f : ℕ → ℕ). f block) k.homes in
    let same : source plan new block i ≡ source plan st block i =
    ap (λ (r : Option ℕ). source_in plan r (new.homes block) (new.current (element plan block i))) k.region
    ∙ ap (λ (s : ℕ). source_in plan st.region s (new.current (element plan block i))) home
    ∙ ap (λ (f : Element → ℕ). source_in plan st.region (st.homes block) (f (element plan block i))) k.current in
    needs_from plan st block from i
    (⊎_elim
    (λ (on : is_current_at plan st (st.homes block) block i ≡ true). absurd (
    let now : is_current_at plan new (st.homes block) block i ≡ true = k.at (st.homes block) block i on in
    let h : true ≡ false = sym now ∙ ap (λ (s : ℕ). is_current_at plan new s block i) (sym home) ∙ parts.0 in cc))
    (λ (off : is_current_at plan st (st.homes block) block i ≡ false). off)
    (cases_Bool (is_current_at plan st (st.homes block) block i)))
    (sym same ∙ parts.1)

pub none_kept : (plan : Plan) (st new : State) (block from : ℕ) → Keeps plan st new → NeedsNone plan st block from → NeedsNone plan new block from
none_kept plan st new block from k none i lt is = none i lt (needs_kept plan st new block from i k is)

-- after a Back nothing is needed from its space
pub back_none : (plan : Plan) (st : State) (block from count : ℕ) → length (versions_of (st.copies (st.homes block) block)) ≡ size plan block → IsPinnedHome plan st block
    → NeedsNone plan (after plan st (Back block from count)) block from
back_none plan st block from count sized p i lt is =
    let new = after plan st (Back block from count) in
    let before = needs_kept plan st new block from i (event_keeps plan st p.at_end.region (Back block from count) p.at_end.open_is refl) is in
    let hit = copied_hit plan st 0 block from count i before (omega (arith, lt, sized)) in
    let on : is_current_at plan new (st.homes block) block i ≡ true = eq-eqb (version new (st.homes block) block i) (st.current (element plan block i)) hit in
    let h : true ≡ false = sym on ∙ (needs_parts plan new block from i is).0 in
    absurd cc

-- so where nothing is needed from any space the home copy is current, and the pin may be given up
pub pulled_current : (plan : Plan) (st : State) (block : ℕ) → IsSound plan st → IsPinnedHome plan st block → ((s : ℕ) → IsOneOf (spaces plan) s → NeedsNone plan st block s) → is_current plan st (st.homes block) block ≡ true
pulled_current plan st block sound p none = all_below (is_current_at plan st (st.homes block) block) (size plan block) (λ i lt. ⊎_elim
    (λ (on : is_current_at plan st (st.homes block) block i ≡ true). on)
    (λ (off : is_current_at plan st (st.homes block) block i ≡ false).
    let holds = has_source plan st block i sound p lt off in
    absurd (none (source plan st block i) (sound.progress.copy_known (source plan st block i) block holds.0).0 i lt (needs_from plan st block (source plan st block i) i off refl)))
    (cases_Bool (is_current_at plan st (st.homes block) block i)))

leaving_idle : (s : CopyState) → is_leaving s ≡ true → is_idle s ≡ true → ⊥
leaving_idle state.Leaving a c = cc
leaving_idle _ a c = cc

not_leaving : (c : Option states.Copy) → (is_in_state is_any c ≡ true → is_in_state is_idle c ≡ true) → is_in_state is_leaving c ≡ false
not_leaving c idle = ⊎_elim
    (λ (on : is_in_state is_leaving c ≡ true). absurd (not_two is_leaving is_idle leaving_idle c on (idle (passes_any is_leaving c on))))
    (λ (off : is_in_state is_leaving c ≡ false). off)
    (cases_Bool (is_in_state is_leaving c))

pub rest_may : (plan : Plan) (st : State) (block : ℕ) → AreIdle st.copies → IsPinnedHome plan st block → is_current plan st (st.homes block) block ≡ true → MayRest plan st
rest_may plan st block idle p now = record {
  due = λ out. out_or_in out p.at_end.open_is;
  pinned = ap is_some p.pin;
  here = λ x y same. let e = pair_same (st.homes block) x block y (sym p.pin ∙ same) in subst (λ (z : ℕ). Has st z y is_here) e.0 (subst (λ (z : ℕ). Has st (st.homes block) z is_here) e.1 p.here);
  current = λ q x y q_is same. let e = pair_same (st.homes block) x block y (sym p.pin ∙ same) in subst (λ (z : ℕ). is_current plan st z y ≡ true) e.0 (subst (λ (z : ℕ). is_current plan st (st.homes block) z ≡ true) e.1 now);
  none_leaving = λ s c. not_leaving (st.copies s c) (idle s c);
}
