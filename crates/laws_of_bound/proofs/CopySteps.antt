-- The entries that bring needed elements to a copy: Copy and Back.
use Rattle.std.proofs.Common.{◌≡◌, ◌≢◌, ℕ, ◌+◌, ◌≤◌, Bool, true, false, ◌&&◌, ◌||◌, eqb, Option, Some, None, refl, ap, sym, ◌∙◌, subst, ⊎_elim, arith}
use Rattle.std.specs.Prelude.{not}
use Rattle.std.proofs.lemmas.Bool.{and_parts, cases_eq, eq-eqb, eqb-true, false_from_ne_true, ne_eqb, or_right}
use Rattle.dd_blocks.specs.declared.plan.Plan.{Plan}
use Rattle.dd_blocks.specs.WellFormed.{IsWellFormed}
use Rattle.dd_machine.specs.declared.copy_state.CopyState.{CopyState}
use Rattle.dd_machine.specs.declared.copy_state.CopyState.TheVariants as state
use Rattle.dd_machine.specs.declared.task_state.TaskState.TheVariants.{Held, Done}
use Rattle.dd_machine.specs.Effects.{after_copy, copy_where, given_back}
use Rattle.dd_machine.specs.Legal.{AllDone, MayCopy}
use Rattle.dd_machine.specs.Needed.{is_current_at, is_needed, own_space, source as source_of, version}
use Rattle.dd_machine.specs.Sound.{IsSound}
use Rattle.dd_machine.specs.SoundVersions.{HasCurrent}
use Rattle.dd_machine.specs.States as states
use Rattle.dd_machine.specs.States.{State, at_copy}
use Rattle.dd_machine.specs.Tests.{Has, is_any, is_here, is_here_or_lent, is_in_state, is_lent, is_pin}
use Rattle.dd_machine.specs.Words.{IsOf, element, reads, touches}
use Rattle.dd_machine.proofs.ChangesLemmas.{at_copy_same, at_copy_tells}
use Rattle.dd_machine.proofs.TestsLemmas.{any_copied, passes_any, same_at, state_where}
use Rattle.laws_of_limits.proofs.WithinKept.{lent_given}
use Rattle.laws_of_versions.proofs.WhereLemmas.{copied_hit, copied_version}
use Rattle.laws_of_bound.specs.Cost.{any_undone, bring_cost, copy_cost, fetch_at, is_short, is_stale, region_cost, send_cost}
use Rattle.laws_of_bound.proofs.CopiesLemmas.{bring_given, bring_where, copies_le, cost_given, cost_where}
use Rattle.laws_of_bound.proofs.FetchLemmas.{fetch_le, fetch_less, needed_same, send_got, send_le, short_by, short_needed}
use Rattle.laws_of_bound.proofs.RestLemmas.{IsKept, Wants, rest_less}
use Rattle.laws_of_bound.proofs.StateSteps.{IsNeeded, fetch_wants, one_needed}
use Rattle.laws_of_bound.proofs.WantsLemmas.{short_same, stale_same}

-- what a Copy or Back leaves as it was, of each copy
copied_same : {A : Type 0} (g : Option states.Copy → A) (plan : Plan) (st : State) (task block from count : ℕ) → ((c : Option states.Copy) → g (given_back c) ≡ g c)
    → ((changed : ℕ → Bool) (new : ℕ → ℕ) (c : Option states.Copy) → g (copy_where changed new c) ≡ g c) → (s b : ℕ) → g ((after_copy plan st task block from count).copies s b) ≡ g (st.copies s b)
copied_same g plan st task block from count given at_places s b =
    let own = own_space plan st task block in
    let lender = at_copy st.copies from block (given_back (st.copies from block)) in
    let new = copy_where (is_needed plan st task block from) (λ i. st.current (element plan block i)) (st.copies own block) in
    let lent : (x y : ℕ) → g (lender x y) ≡ g (st.copies x y) = same_at g st.copies from block (given_back (st.copies from block)) (given (st.copies from block)) in
    same_at g lender own block new (at_places (is_needed plan st task block from) (λ i. st.current (element plan block i)) (st.copies own block) ∙ sym (lent own block)) s b ∙ lent s b

-- a version that is current isn't needed
not_needed : (plan : Plan) (st : State) (t b s i : ℕ) → version st (own_space plan st t b) b i ≡ st.current (element plan b i) → is_needed plan st t b s i ≡ true → ⊥
not_needed plan st t b s i now needs =
    let parts = and_parts (eqb t 0 || reads plan t (element plan b i)) (not (is_current_at plan st (own_space plan st t b) b i) && eqb (source_of plan st b i) s) needs in
    let both = and_parts (not (is_current_at plan st (own_space plan st t b) b i)) (eqb (source_of plan st b i) s) parts.1 in
    let h : true ≡ false = sym both.0 ∙ ap not (eq-eqb (version st (own_space plan st t b) b i) (st.current (element plan b i)) now) in
    cc

needs_from : (plan : Plan) (st : State) (t b s i : ℕ) → is_needed plan st t b s i ≡ true → source_of plan st b i ≡ s
needs_from plan st t b s i needs =
    let parts = and_parts (eqb t 0 || reads plan t (element plan b i)) (not (is_current_at plan st (own_space plan st t b) b i) && eqb (source_of plan st b i) s) needs in
    let both = and_parts (not (is_current_at plan st (own_space plan st t b) b i)) (eqb (source_of plan st b i) s) parts.1 in
    eqb-true (source_of plan st b i) s both.1

-- what is needed after was needed before
copied_needs : (plan : Plan) (st : State) (task block from count t b s i : ℕ) → is_needed plan (after_copy plan st task block from count) t b s i ≡ true → is_needed plan st t b s i ≡ true
copied_needs plan st task block from count t b s i needs = ⊎_elim
    (λ (same : version new own b i ≡ version st own b i). sym (needed_same plan st new.copies t b s i same) ∙ needs)
    (λ (now : (own ≡ own_space plan st task block) × (b ≡ block) × (is_needed plan st task block from i ≡ true) × (version new own b i ≡ st.current (element plan b i))).
    absurd (not_needed plan new t b s i now.3 needs))
    (copied_version plan st task block from count own b i)
  where
    own : ℕ
    own = own_space plan st t b

    new : State
    new = after_copy plan st task block from count

copied_short : (plan : Plan) (st : State) (task block from count t b s : ℕ) → is_short plan (after_copy plan st task block from count) t b (own_space plan st t b) s ≡ true → is_short plan st t b (own_space plan st t b) s ≡ true
copied_short plan st task block from count t b s =
    short_same plan (after_copy plan st task block from count) st t b (own_space plan st t b) s (any_copied plan st task block from count (own_space plan st t b) b)
    (λ i lt needs. copied_needs plan st task block from count t b s i needs)

copied_stale : (plan : Plan) (st : State) (task block from count s b : ℕ) → is_stale plan (after_copy plan st task block from count) s b ≡ true → is_stale plan st s b ≡ true
copied_stale plan st task block from count s b = stale_same plan (after_copy plan st task block from count) st s b
    (λ i lt now. ⊎_elim
    (λ (same : version (after_copy plan st task block from count) s b i ≡ version st s b i). ap (λ (v : ℕ). eqb v (st.current (element plan b i))) same ∙ now)
    (λ (hit : (s ≡ own_space plan st task block) × (b ≡ block) × (is_needed plan st task block from i ≡ true) × (version (after_copy plan st task block from count) s b i ≡ st.current (element plan b i))).
    eq-eqb (version (after_copy plan st task block from count) s b i) (st.current (element plan b i)) hit.3)
    (copied_version plan st task block from count s b i))

other_lent : (task t : ℕ) (s : CopyState) → task ≢ t → is_here_or_lent task s ≡ true → is_lent (λ x. eqb x t) s ≡ false
other_lent task t state.Here ne is = refl
other_lent task t state.Leaving ne is = refl
other_lent task t state.Out ne is = refl
other_lent task t state.Coming ne is = refl
other_lent task t (state.Lent k) ne is = ne_eqb k t (λ same. ne (sym (eqb-true k task is) ∙ same))

other_gives : (task t : ℕ) (c : Option states.Copy) → task ≢ t → is_in_state (is_here_or_lent task) c ≡ true → is_in_state (is_lent (λ x. eqb x t)) c ≡ false
other_gives task t None ne is = refl
other_gives task t (Some k) ne is = other_lent task t k.state ne is

-- what isn't the lend that is used up stays
copied_lent : (plan : Plan) (st : State) (task block from count t s b : ℕ) → is_in_state (is_here_or_lent task) (st.copies from block) ≡ true → (task ≡ t → s ≡ from → b ≡ block → ⊥)
    → is_in_state (is_lent (λ x. eqb x t)) ((after_copy plan st task block from count).copies s b) ≡ is_in_state (is_lent (λ x. eqb x t)) (st.copies s b)
copied_lent plan st task block from count t s b gives other =
    let own = own_space plan st task block in
    let lender = at_copy st.copies from block (given_back (st.copies from block)) in
    let new = copy_where (is_needed plan st task block from) (λ i. st.current (element plan block i)) (st.copies own block) in
    let test = is_in_state (is_lent (λ x. eqb x t)) in
    let lent : (x y : ℕ) → (task ≡ t → x ≡ from → y ≡ block → ⊥) → test (lender x y) ≡ test (st.copies x y) = λ x y off. ⊎_elim
    (λ (e : (x ≡ from) × (y ≡ block) × (at_copy st.copies from block (given_back (st.copies from block)) x y ≡ given_back (st.copies from block))).
    ap test e.2 ∙ lent_given (λ k. eqb k t) (st.copies from block)
    ∙ sym (ap (λ (k : ℕ). test (st.copies k y)) e.0 ∙ ap (λ (k : ℕ). test (st.copies from k)) e.1 ∙ other_gives task t (st.copies from block) (λ same. off same e.0 e.1) gives))
    (λ (e : (x ≡ from → y ≡ block → ⊥) × (at_copy st.copies from block (given_back (st.copies from block)) x y ≡ st.copies x y)). ap test e.1)
    (at_copy_tells st.copies from block (given_back (st.copies from block)) x y) in
    ⊎_elim
    (λ (e : (s ≡ own) × (b ≡ block) × (at_copy lender own block new s b ≡ new)).
    ap test e.2 ∙ state_where (is_needed plan st task block from) (λ i. st.current (element plan block i)) (is_lent (λ x. eqb x t)) (st.copies own block)
    ∙ sym (ap (λ (k : ℕ). test (st.copies k b)) e.0 ∙ ap (λ (k : ℕ). test (st.copies own k)) e.1))
    (λ (e : (s ≡ own → b ≡ block → ⊥) × (at_copy lender own block new s b ≡ lender s b)). ap test e.1 ∙ lent s b other)
    (at_copy_tells lender own block new s b)

-- the source isn't the own space
source_elsewhere : (plan : Plan) (st : State) (r task block from : ℕ) → IsSound plan st → st.region ≡ Some r → Wants plan st r task block → Has st (own_space plan st task block) block is_here
    → IsNeeded plan st task block from → from ≢ own_space plan st task block
source_elsewhere plan st r task block from sound open_in wants here n same = ⊎_elim
    (λ (at : HasCurrent plan st (source_of plan st block n.at) block n.at).
    not_needed plan st task block from n.at (sym (ap (λ (s : ℕ). version st s block n.at) (needs_from plan st task block from n.at n.needs ∙ same)) ∙ at.1) n.needs)
    (λ (home : AllDone plan st r × HasCurrent plan st (st.homes block) block n.at). ⊎_elim
    (λ (w : IsOf plan r task × (st.tasks task ≡ Held) × (touches plan task block ≡ true)). let h : Held ≡ Done = sym w.1 ∙ home.0 task w.0 in cc)
    (λ (w : (task ≡ 0) × (is_pin st.pin (st.homes block) block ≡ true)).
    not_needed plan st task block from n.at (ap (λ (k : ℕ). version st (own_space plan st k block) block n.at) w.0 ∙ home.1.1) n.needs)
    wants)
    (sound.versions.source_holds r block n.at open_in home_there n.within)
  where
    home_there : Has st (st.homes block) block is_any
    home_there = ⊎_elim
        (λ (w : IsOf plan r task × (st.tasks task ≡ Held) × (touches plan task block ≡ true)). sym (sound.lives.home_live block) ∙ sound.lives.touched_live r task block open_in w.0 w.2)
        (λ (w : (task ≡ 0) × (is_pin st.pin (st.homes block) block ≡ true)).
        passes_any is_here (st.copies (st.homes block) block) (subst (λ (k : ℕ). Has st (own_space plan st k block) block is_here) w.0 here))
        wants

pub falls_copy : (plan : Plan) (st : State) (r task block from count : ℕ) → IsWellFormed plan → IsSound plan st → st.region ≡ Some r → MayCopy plan st task block from count
    → region_cost plan (after_copy plan st task block from count) r + 1 ≤ region_cost plan st r
unfolding fetch_at is_stale send_cost
falls_copy plan st r task block from count well sound open_in may =
    let n = one_needed plan st task block from (let some = may.some_needed in let exact = may.exact in omega (arith, some, exact)) in
    let wants = fetch_wants plan st r task block from well sound open_in may.asked n in
    let short = short_needed plan st task block (own_space plan st task block) from n.at n.within n.needs in
    let kept : IsKept plan st r (after_copy plan st task block from count).copies = record {
      fetch = λ t b w. let le = fetch_le plan (after_copy plan st task block from count) st t b (own_space plan st t b) 0 (let h = bring (own_space plan st t b) b in omega (arith, h)) (λ s _ _. send n t b s) in omega (arith, le);
      stale = λ b is. or_right (any_undone plan st.tasks r) (is_stale plan st (st.homes b) b) (copied_stale plan st task block from count (st.homes b) b is);
    } in
    let less = fetch_less plan (after_copy plan st task block from count) st task block (own_space plan st task block) from 1 (let h = bring (own_space plan st task block) block in omega (arith, h)) (λ s _ _. send n task block s)
    may.source_is (source_elsewhere plan st r task block from sound open_in wants may.here n) (got n) in
    let rest = rest_less plan st r (after_copy plan st task block from count).copies task block 1 kept may.block_is wants less in
    let cs = copies_le plan st (after_copy plan st task block from count).copies (λ a s b. let e = copied_same (copy_cost a) plan st task block from count (cost_given a) (λ changed new c. cost_where changed new a c) s b in omega (arith, e)) in
    omega (arith, cs, rest)
  where
    bring : (s b : ℕ) → bring_cost ((after_copy plan st task block from count).copies s b) ≤ bring_cost (st.copies s b)
    bring s b = let e = copied_same bring_cost plan st task block from count bring_given bring_where s b in omega (arith, e)

    now_lent : is_in_state (is_lent (λ x. eqb x task)) ((after_copy plan st task block from count).copies from block) ≡ false
    now_lent = gone (own_space plan st task block) may.here
      where
        lender : ℕ → ℕ → Option states.Copy
        lender = at_copy st.copies from block (given_back (st.copies from block))

        test : Option states.Copy → Bool
        test = is_in_state (is_lent (λ x. eqb x task))

        here_no : (c : Option states.Copy) → is_in_state is_here c ≡ true → is_in_state (is_lent (λ x. eqb x task)) c ≡ false
        here_no None is = refl
        here_no (Some k) is = by k.state is
          where
            by : (s : CopyState) → is_here s ≡ true → is_lent (λ x. eqb x task) s ≡ false
            by state.Here is = refl
            by state.Leaving is = refl
            by state.Out is = refl
            by state.Coming is = refl
            by (state.Lent t) is = absurd cc

        new : ℕ → Option states.Copy
        new own = copy_where (is_needed plan st task block from) (λ i. st.current (element plan block i)) (st.copies own block)

        gone : (own : ℕ) → is_in_state is_here (st.copies own block) ≡ true → is_in_state (is_lent (λ x. eqb x task)) (at_copy lender own block (new own) from block) ≡ false
        gone own here = ⊎_elim
            (λ (e : (from ≡ own) × (block ≡ block) × (at_copy lender own block (new own) from block ≡ new own)).
            ap (is_in_state (is_lent (λ x. eqb x task))) e.2 ∙ state_where (is_needed plan st task block from) (λ i. st.current (element plan block i)) (is_lent (λ x. eqb x task)) (st.copies own block) ∙ here_no (st.copies own block) here)
            (λ (e : (from ≡ own → block ≡ block → ⊥) × (at_copy lender own block (new own) from block ≡ lender from block)).
            ap (is_in_state (is_lent (λ x. eqb x task))) (e.1 ∙ at_copy_same st.copies from block (given_back (st.copies from block))) ∙ lent_given (λ k. eqb k task) (st.copies from block))
            (at_copy_tells lender own block (new own) from block)

    now_short : is_short plan (after_copy plan st task block from count) task block (own_space plan st task block) from ≡ false
    now_short = false_from_ne_true (is_short plan (after_copy plan st task block from count) task block (own_space plan st task block) from) (λ is.
        short_by plan (after_copy plan st task block from count) task block (own_space plan st task block) from
        (λ none. let there = passes_any is_here (st.copies (own_space plan st task block) block) may.here in
        let h : true ≡ false = sym there ∙ sym (any_copied plan st task block from count (own_space plan st task block) block) ∙ none in cc)
        (λ i lt needs.
        let before = copied_needs plan st task block from count task block from i needs in
        let there = passes_any is_here (st.copies (own_space plan st task block) block) may.here in
        let long = sound.versions.sized (own_space plan st task block) block there in
        not_needed plan (after_copy plan st task block from count) task block from i (copied_hit plan st task block from count i before (omega (arith, lt, long))) needs)
        is)

    got : IsNeeded plan st task block from → send_cost plan (after_copy plan st task block from count) task block (own_space plan st task block) from + 1 ≤ send_cost plan st task block (own_space plan st task block) from
    got n = send_got plan (after_copy plan st task block from count) st task block (own_space plan st task block) from now_lent now_short
        (short_needed plan st task block (own_space plan st task block) from n.at n.within n.needs)

    same_send : (t b s : ℕ) → (task ≡ t → s ≡ from → b ≡ block → ⊥) → send_cost plan (after_copy plan st task block from count) t b (own_space plan st t b) s ≤ send_cost plan st t b (own_space plan st t b) s
    same_send t b s off = send_le plan (after_copy plan st task block from count) st t b (own_space plan st t b) s (copied_lent plan st task block from count t s b may.gives off) (copied_short plan st task block from count t b s)

    send : IsNeeded plan st task block from → (t b s : ℕ) → send_cost plan (after_copy plan st task block from count) t b (own_space plan st t b) s ≤ send_cost plan st t b (own_space plan st t b) s
    send n t b s = ⊎_elim
        (λ (e : task ≡ t). ⊎_elim
        (λ (f : from ≡ s). ⊎_elim
        (λ (g : block ≡ b).
        let h : send_cost plan (after_copy plan st task block from count) task block (own_space plan st task block) from ≤ send_cost plan st task block (own_space plan st task block) from = let l = got n in omega (arith, l) in
        subst (λ (k : ℕ). send_cost plan (after_copy plan st task block from count) k b (own_space plan st k b) s ≤ send_cost plan st k b (own_space plan st k b) s) e
        (subst (λ (k : ℕ). send_cost plan (after_copy plan st task block from count) task b (own_space plan st task b) k ≤ send_cost plan st task b (own_space plan st task b) k) f
        (subst (λ (k : ℕ). send_cost plan (after_copy plan st task block from count) task k (own_space plan st task k) from ≤ send_cost plan st task k (own_space plan st task k) from) g h)))
        (λ (g : block ≡ b → ⊥). same_send t b s (λ _ _ same. g (sym same)))
        (cases_eq block b))
        (λ (f : from ≡ s → ⊥). same_send t b s (λ _ same _. f (sym same)))
        (cases_eq from s))
        (λ (e : task ≡ t → ⊥). same_send t b s (λ same _ _. e same))
        (cases_eq task t)
