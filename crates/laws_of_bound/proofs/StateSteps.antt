-- The entries that bring a copy from one state to another.
use Rattle.std.proofs.Common.{◌≡◌, ◌≢◌, ℕ, zero, suc, ◌+◌, ◌<◌, ◌≤◌, Bool, true, false, eqb, List, Option, Some, refl, ap, sym, ◌∙◌, subst, inl, inr, ⊎_elim, arith}
use Rattle.std.specs.Prelude.{length, not, slice_index}
use Rattle.std.proofs.lemmas.Bool.{cases_eq, eq-eqb, ne_eqb, or_right}
use Rattle.dd_blocks.specs.declared.plan.Plan.{Plan}
use Rattle.dd_blocks.specs.WellFormed.{IsWellFormed}
use Rattle.dd_machine.specs.declared.copy_state.CopyState.{CopyState}
use Rattle.dd_machine.specs.declared.copy_state.CopyState.TheVariants as state
use Rattle.dd_machine.specs.declared.event.Event.TheVariants.{Pick, Gone, Call, Come, Lend}
use Rattle.dd_machine.specs.Bytes.{is_pinned}
use Rattle.dd_machine.specs.Effects.{after, in_state}
use Rattle.dd_machine.specs.Legal.{MayCall, MayCome, MayFetch, MayGone, MayLend, MayPick}
use Rattle.dd_machine.specs.Needed.{is_needed, needed, own_space}
use Rattle.dd_machine.specs.Sound.{IsSound}
use Rattle.dd_machine.specs.States as states
use Rattle.dd_machine.specs.States.{State, at_copy}
use Rattle.dd_machine.specs.Tests.{is_active, is_any, is_coming, is_here, is_in_state, is_leaving, is_lent, is_out, versions_of}
use Rattle.dd_machine.specs.Words.{IsOf, IsOneOf, blocks, element, size, spaces}
use Rattle.dd_machine.proofs.ChangesLemmas.{at_copy_same, at_copy_tells}
use Rattle.dd_machine.proofs.TestsLemmas.{any_in_state, not_two, same_at, versions_in_state}
use Rattle.laws_of_limits.proofs.OrdersKept.{victim_there}
use Rattle.laws_of_limits.proofs.PinsKept.{same_some}
use Rattle.laws_of_lives.proofs.ElementsLemmas.{touches_used}
use Rattle.laws_of_versions.proofs.ConflictLemmas.{reads_needed, use_of_read}
use Rattle.laws_of_bound.specs.Cost.{any_undone, bring_cost, bring_of, fetch_at, is_short, is_stale, region_cost, send_cost, state_cost}
use Rattle.laws_of_bound.proofs.CopiesLemmas.{bring_now, bring_was, coming_is, copies_fall, copies_rise, cost_moves, here_is, leaving_is, out_is, state_there}
use Rattle.laws_of_bound.proofs.FetchLemmas.{fetch_le, fetch_less, needed_same, send_le, send_lent, short_needed}
use Rattle.laws_of_bound.proofs.RestLemmas.{IsKept, Wants, rest_le, rest_less}
use Rattle.laws_of_bound.proofs.WantsLemmas.{pin_is, pinned_wanted, short_same, stale_same, wants_pinned}
use Rattle.dd_machine.proofs.RangesLemmas.{kept_one}

abbrev There : CopyState → Option states.Copy → Type 0
There old c = (k : states.Copy) × (c ≡ Some k) × (k.state ≡ old)

abbrev moved : State → ℕ → ℕ → CopyState → State
moved st space block new = record st { copies = at_copy st.copies space block (in_state new (st.copies space block)) }

-- what is short stays so
moved_short : (plan : Plan) (st : State) (space block : ℕ) (new : CopyState) (t b s : ℕ) → is_short plan (moved st space block new) t b (own_space plan st t b) s ≡ true → is_short plan st t b (own_space plan st t b) s ≡ true
moved_short plan st space block new t b s =
    let copy = in_state new (st.copies space block) in
    short_same plan (moved st space block new) st t b (own_space plan st t b) s
    (same_at (is_in_state is_any) st.copies space block copy (any_in_state new (st.copies space block)) (own_space plan st t b) b)
    (λ i lt needs. sym (needed_same plan st (at_copy st.copies space block copy) t b s i
    (ap (λ (vs : List ℕ). slice_index vs i) (same_at versions_of st.copies space block copy (versions_in_state new (st.copies space block)) (own_space plan st t b) b))) ∙ needs)

moved_stale : (plan : Plan) (st : State) (space block : ℕ) (new : CopyState) (s b : ℕ) → is_stale plan (moved st space block new) s b ≡ true → is_stale plan st s b ≡ true
moved_stale plan st space block new s b = stale_same plan (moved st space block new) st s b
    (λ i lt now. ap (λ (vs : List ℕ). eqb (slice_index vs i) (st.current (element plan b i))) (same_at versions_of st.copies space block (in_state new (st.copies space block)) (versions_in_state new (st.copies space block)) s b) ∙ now)

-- the own copy costs no more
moved_bring : (plan : Plan) (st : State) (space block : ℕ) (old new : CopyState) (s b : ℕ) → There old (st.copies space block) → (s ≡ space → b ≡ block → bring_of new ≤ bring_of old)
    → bring_cost (at_copy st.copies space block (in_state new (st.copies space block)) s b) ≤ bring_cost (st.copies s b)
moved_bring plan st space block old new s b there le = ⊎_elim
    (λ (e : (s ≡ space) × (b ≡ block) × (at_copy st.copies space block copy s b ≡ copy)).
    let n : bring_cost (at_copy st.copies space block copy s b) ≡ bring_of new = ap bring_cost e.2 ∙ bring_now old new (st.copies space block) there in
    let o : bring_cost (st.copies s b) ≡ bring_of old = ap (λ (x : ℕ). bring_cost (st.copies x b)) e.0 ∙ ap (λ (y : ℕ). bring_cost (st.copies space y)) e.1 ∙ bring_was old (st.copies space block) there in
    omega (arith, n, o, le e.0 e.1))
    (λ (e : (s ≡ space → b ≡ block → ⊥) × (at_copy st.copies space block copy s b ≡ st.copies s b)).
    let n : bring_cost (at_copy st.copies space block copy s b) ≡ bring_cost (st.copies s b) = ap bring_cost e.1 in omega (arith, n))
    (at_copy_tells st.copies space block copy s b)
  where
    copy : Option states.Copy
    copy = in_state new (st.copies space block)

test_was : (test : CopyState → Bool) (old : CopyState) (c : Option states.Copy) → There old c → is_in_state test c ≡ test old
test_was test old c there = ap (is_in_state test) there.1 ∙ ap test there.2

test_now : (test : CopyState → Bool) (old new : CopyState) (c : Option states.Copy) → There old c → is_in_state test (in_state new c) ≡ test new
test_now test old new c there = ap (λ (o : Option states.Copy). is_in_state test (in_state new o)) there.1

-- neither state is lent
moved_send : (plan : Plan) (st : State) (space block : ℕ) (old new : CopyState) (t b s : ℕ) → There old (st.copies space block) → ((k : ℕ) → is_lent (λ x. eqb x k) new ≡ is_lent (λ x. eqb x k) old)
    → send_cost plan (moved st space block new) t b (own_space plan st t b) s ≤ send_cost plan st t b (own_space plan st t b) s
moved_send plan st space block old new t b s there same =
    send_le plan (moved st space block new) st t b (own_space plan st t b) s
    (same_at (is_in_state (is_lent (λ x. eqb x t))) st.copies space block (in_state new (st.copies space block))
    (test_now (is_lent (λ x. eqb x t)) old new (st.copies space block) there ∙ same t ∙ sym (test_was (is_lent (λ x. eqb x t)) old (st.copies space block) there)) s b)
    (moved_short plan st space block new t b s)

moved_kept : (plan : Plan) (st : State) (r space block : ℕ) (old new : CopyState) → There old (st.copies space block) → ((k : ℕ) → is_lent (λ x. eqb x k) new ≡ is_lent (λ x. eqb x k) old)
    → ((t b : ℕ) → Wants plan st r t b → own_space plan st t b ≡ space → b ≡ block → bring_of new ≤ bring_of old) → IsKept plan st r (at_copy st.copies space block (in_state new (st.copies space block)))
moved_kept plan st r space block old new there same bring = record {
  fetch = λ t b wants. let le = fetch_le plan (moved st space block new) st t b (own_space plan st t b) 0
      (let h = moved_bring plan st space block old new (own_space plan st t b) b there (bring t b wants) in omega (arith, h))
      (λ s _ _. moved_send plan st space block old new t b s there same) in omega (arith, le);
  stale = λ b is. or_right (any_undone plan st.tasks r) (is_stale plan st (st.homes b) b) (moved_stale plan st space block new (st.homes b) b is);
}

falls_state : (plan : Plan) (st : State) (r space block : ℕ) (old new : CopyState) → There old (st.copies space block) → IsOneOf (spaces plan) space → IsOneOf (blocks plan) block
    → state_cost new + 1 ≤ state_cost old → IsKept plan st r (at_copy st.copies space block (in_state new (st.copies space block))) → region_cost plan (moved st space block new) r + 1 ≤ region_cost plan st r
falls_state plan st r space block old new there s_is b_is less kept =
    let cs = copies_fall plan st space block (in_state new (st.copies space block)) 1 s_is b_is
    (let h = cost_moves (not (eqb space (st.homes block))) old new (st.copies space block) 1 0 there (omega (arith, less)) in omega (arith, h)) in
    let rest = rest_le plan st r (at_copy st.copies space block (in_state new (st.copies space block))) kept in
    omega (arith, cs, rest)

pub falls_gone : (plan : Plan) (st : State) (r space block : ℕ) → MayGone plan st space block → region_cost plan (after plan st (Gone space block)) r + 1 ≤ region_cost plan st r
falls_gone plan st r space block may =
    let there = state_there is_leaving state.Leaving (st.copies space block) leaving_is may.leaving in
    falls_state plan st r space block state.Leaving state.Out there may.space_is may.block_is (omega arith)
    (moved_kept plan st r space block state.Leaving state.Out there (λ k. refl) (λ t b wants _ _. omega arith))

pub falls_come : (plan : Plan) (st : State) (r space block : ℕ) → MayCome plan st space block → region_cost plan (after plan st (Come space block)) r + 1 ≤ region_cost plan st r
unfolding fetch_at is_stale send_cost
falls_come plan st r space block may =
    let there = state_there is_coming state.Coming (st.copies space block) coming_is may.coming in
    falls_state plan st r space block state.Coming state.Here there may.space_is may.block_is (omega arith)
    (moved_kept plan st r space block state.Coming state.Here there (λ k. refl) (λ t b wants _ _. omega arith))

pub falls_pick : (plan : Plan) (st : State) (r space block : ℕ) → IsSound plan st → MayPick plan st space block → region_cost plan (after plan st (Pick space block)) r + 1 ≤ region_cost plan st r
unfolding fetch_at is_stale send_cost
falls_pick plan st r space block sound may =
    let victim = victim_there plan st space block may.is_victim in
    let here = sound.limits.order_here space block victim.0 in
    let there = state_there is_here state.Here (st.copies space block) here_is here in
    falls_state plan st r space block state.Here state.Leaving there may.space_is (sound.progress.copy_known space block (ap (is_in_state is_any) there.1)).1 (omega arith)
    (moved_kept plan st r space block state.Here state.Leaving there (λ k. refl) (λ t b wants own same.
    let pinned : is_pinned plan st space block ≡ true = ap (is_pinned plan st space) (sym same) ∙ ap (λ (s : ℕ). is_pinned plan st s b) (sym own) ∙ wants_pinned plan st r t b wants in
    absurd (let h : true ≡ false = sym pinned ∙ victim.1 in cc)))

pub falls_call : (plan : Plan) (st : State) (r space block : ℕ) → IsSound plan st → st.region ≡ Some r → MayCall plan st space block → region_cost plan (after plan st (Call space block)) r + 1 ≤ region_cost plan st r
falls_call plan st r space block sound open_in may =
    let there = state_there is_out state.Out (st.copies space block) out_is may.out in
    let copy = in_state state.Coming (st.copies space block) in
    let kept = moved_kept plan st r space block state.Out state.Coming there (λ k. refl) (λ t b wants _ _. omega arith) in
    let w = pinned_wanted plan st r space block sound open_in (λ here. not_two is_here is_out here_out (st.copies space block) here may.out) may.pinned in
    let n : bring_cost (at_copy st.copies space block copy (own_space plan st w.task block) block) ≡ 0 =
    ap (λ (s : ℕ). bring_cost (at_copy st.copies space block copy s block)) w.own ∙ ap bring_cost (at_copy_same st.copies space block copy) ∙ bring_now state.Out state.Coming (st.copies space block) there in
    let o : bring_cost (st.copies (own_space plan st w.task block) block) ≡ 4 = ap (λ (s : ℕ). bring_cost (st.copies s block)) w.own ∙ bring_was state.Out (st.copies space block) there in
    let less = fetch_le plan (moved st space block state.Coming) st w.task block (own_space plan st w.task block) 4 (omega (arith, n, o))
    (λ s _ _. moved_send plan st space block state.Out state.Coming w.task block s there (λ k. refl)) in
    let rest = rest_less plan st r (at_copy st.copies space block copy) w.task block 4 kept may.block_is w.wants less in
    let cs = copies_rise plan st space block copy 3 (let h = cost_moves (not (eqb space (st.homes block))) state.Out state.Coming (st.copies space block) 0 3 there (omega arith) in omega (arith, h)) in
    omega (arith, cs, rest)
  where
    here_out : (s : CopyState) → is_here s ≡ true → is_out s ≡ true → ⊥
    here_out s here out = let e : true ≡ false = sym out ∙ ap is_out (here_is s here) in cc

-- ---- Lend

-- a copy is lent: what it is lent for was short
lend_send : (plan : Plan) (st : State) (task block source t b s : ℕ) → There state.Out (st.copies source block) → is_short plan st task block (own_space plan st task block) source ≡ true
    → send_cost plan (moved st source block (state.Lent task)) t b (own_space plan st t b) s ≤ send_cost plan st t b (own_space plan st t b) s
lend_send plan st task block source t b s there short = ⊎_elim
    (λ (e : (s ≡ source) × (b ≡ block) × (at_copy st.copies source block copy s b ≡ copy)). ⊎_elim
    (λ (same : task ≡ t).
    let now : is_in_state (is_lent (λ x. eqb x t)) (at_copy st.copies source block copy s b) ≡ true = ap (is_in_state (is_lent (λ x. eqb x t))) e.2 ∙ test_now (is_lent (λ x. eqb x t)) state.Out (state.Lent task) (st.copies source block) there ∙ eq-eqb task t same in
    let was : is_in_state (is_lent (λ x. eqb x t)) (st.copies s b) ≡ false = ap (λ (x : ℕ). is_in_state (is_lent (λ x. eqb x t)) (st.copies x b)) e.0 ∙ ap (λ (y : ℕ). is_in_state (is_lent (λ x. eqb x t)) (st.copies source y)) e.1 ∙ test_was (is_lent (λ x. eqb x t)) state.Out (st.copies source block) there in
    let sh : is_short plan st t b (own_space plan st t b) s ≡ true =
    ap (λ (k : ℕ). is_short plan st k b (own_space plan st k b) s) (sym same) ∙ ap (λ (y : ℕ). is_short plan st task y (own_space plan st task y) s) e.1 ∙ ap (is_short plan st task block (own_space plan st task block)) e.0 ∙ short in
    let h = send_lent plan (moved st source block (state.Lent task)) st t b (own_space plan st t b) s now was sh in omega (arith, h))
    (λ (ne : task ≡ t → ⊥).
    send_le plan (moved st source block (state.Lent task)) st t b (own_space plan st t b) s
    (ap (is_in_state (is_lent (λ x. eqb x t))) e.2 ∙ test_now (is_lent (λ x. eqb x t)) state.Out (state.Lent task) (st.copies source block) there ∙ ne_eqb task t ne
    ∙ sym (ap (λ (x : ℕ). is_in_state (is_lent (λ x. eqb x t)) (st.copies x b)) e.0 ∙ ap (λ (y : ℕ). is_in_state (is_lent (λ x. eqb x t)) (st.copies source y)) e.1 ∙ test_was (is_lent (λ x. eqb x t)) state.Out (st.copies source block) there))
    (moved_short plan st source block (state.Lent task) t b s))
    (cases_eq task t))
    (λ (e : (s ≡ source → b ≡ block → ⊥) × (at_copy st.copies source block copy s b ≡ st.copies s b)).
    send_le plan (moved st source block (state.Lent task)) st t b (own_space plan st t b) s (ap (is_in_state (is_lent (λ x. eqb x t))) e.1) (moved_short plan st source block (state.Lent task) t b s))
    (at_copy_tells st.copies source block copy s b)
  where
    copy : Option states.Copy
    copy = in_state (state.Lent task) (st.copies source block)

-- a place that is needed
pub record IsNeeded (plan : Plan) (st : State) (task block source : ℕ) : Type 0 where
  pub at : ℕ
  pub within : at < size plan block
  pub needs : is_needed plan st task block source at ≡ true

pub one_needed : (plan : Plan) (st : State) (task block source : ℕ) → 0 < length (needed plan st task block source) → IsNeeded plan st task block source
one_needed plan st task block source some =
    let k = kept_one (is_needed plan st task block source) 0 (size plan block) some in
    record { at = k.0; within = omega (arith, k.2); needs = k.3 }

-- who fetches a needed element wants its block
pub fetch_wants : (plan : Plan) (st : State) (r task block source : ℕ) → IsWellFormed plan → IsSound plan st → st.region ≡ Some r → MayFetch st task block → IsNeeded plan st task block source → Wants plan st r task block
fetch_wants plan st r zero block source well sound open_in asked n = inr (refl, pin_is st.pin (st.homes block) block asked.1)
fetch_wants plan st r (suc t) block source well sound open_in asked n =
    let o = sound.limits.active_open (suc t) (ap is_active asked) in
    let same : o.0 ≡ r = same_some o.0 r st.region o.1 open_in in
    let of : IsOf plan r (suc t) = subst (λ (k : ℕ). IsOf plan k (suc t)) same o.2 in
    inl (of, asked, touches_used plan well (suc t) block n.at of.0 n.within (use_of_read plan (suc t) (element plan block n.at) (reads_needed plan st (suc t) block source n.at (omega arith) n.needs)))

pub falls_lend : (plan : Plan) (st : State) (r task block source : ℕ) → IsWellFormed plan → IsSound plan st → st.region ≡ Some r → MayLend plan st task block source
    → region_cost plan (after plan st (Lend task block source)) r + 1 ≤ region_cost plan st r
falls_lend plan st r task block source well sound open_in may =
    let there = state_there is_out state.Out (st.copies source block) out_is may.out in
    let n = one_needed plan st task block source may.some_needed in
    let wants = fetch_wants plan st r task block source well sound open_in may.asked n in
    let short = short_needed plan st task block (own_space plan st task block) source n.at n.within n.needs in
    let copies = at_copy st.copies source block (in_state (state.Lent task) (st.copies source block)) in
    let bring : (t b : ℕ) → bring_cost (copies (own_space plan st t b) b) ≤ bring_cost (st.copies (own_space plan st t b) b) =
    λ t b. moved_bring plan st source block state.Out (state.Lent task) (own_space plan st t b) b there (λ _ _. omega arith) in
    let kept : IsKept plan st r copies = record {
      fetch = λ t b w. let le = fetch_le plan (moved st source block (state.Lent task)) st t b (own_space plan st t b) 0 (let h = bring t b in omega (arith, h)) (λ s _ _. lend_send plan st task block source t b s there short) in omega (arith, le);
      stale = λ b is. or_right (any_undone plan st.tasks r) (is_stale plan st (st.homes b) b) (moved_stale plan st source block (state.Lent task) (st.homes b) b is);
    } in
    let elsewhere : source ≢ own_space plan st task block = λ same. not_two is_here is_out here_out (st.copies source block) (ap (λ (s : ℕ). is_in_state is_here (st.copies s block)) same ∙ may.here) may.out in
    let now : is_in_state (is_lent (λ x. eqb x task)) (copies source block) ≡ true =
    ap (is_in_state (is_lent (λ x. eqb x task))) (at_copy_same st.copies source block (in_state (state.Lent task) (st.copies source block))) ∙ test_now (is_lent (λ x. eqb x task)) state.Out (state.Lent task) (st.copies source block) there ∙ eq-eqb task task refl in
    let less = fetch_less plan (moved st source block (state.Lent task)) st task block (own_space plan st task block) source 1 (bring task block) (λ s _ _. lend_send plan st task block source task block s there short)
    may.source_is elsewhere (send_lent plan (moved st source block (state.Lent task)) st task block (own_space plan st task block) source now (test_was (is_lent (λ x. eqb x task)) state.Out (st.copies source block) there) short) in
    let rest = rest_less plan st r copies task block 1 kept may.block_is wants less in
    let cs = copies_rise plan st source block (in_state (state.Lent task) (st.copies source block)) 0 (let h = cost_moves (not (eqb source (st.homes block))) state.Out (state.Lent task) (st.copies source block) 0 0 there (omega arith) in omega (arith, h)) in
    omega (arith, cs, rest)
  where
    here_out : (s : CopyState) → is_here s ≡ true → is_out s ≡ true → ⊥
    here_out s here out = let e : true ≡ false = sym out ∙ ap is_out (here_is s here) in cc
