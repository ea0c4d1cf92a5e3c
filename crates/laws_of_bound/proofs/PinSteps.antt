-- The entries that pin a block in a region and let it go: Ask and Rest.
use Rattle.std.proofs.Common.{◌≡◌, ℕ, zero, suc, ◌+◌, ◌<◌, ◌≤◌, Bool, true, false, ◌||◌, eqb, Option, Some, None, refl, ap, sym, ◌∙◌, subst, ⊎_elim, arith}
use Rattle.std.specs.Prelude.{not}
use Rattle.std.specs.List.{list_all, range_with_len}
use Rattle.std.proofs.lemmas.Bool.{and_cases, and_right, eq-eqb, false_from_ne_true, ne_eqb, not-true, not_from_false, or_from, or_right}
use Rattle.dd_blocks.specs.declared.plan.Plan.{Plan}
use Rattle.dd_machine.specs.declared.event.Event.TheVariants.{Ask, Rest}
use Rattle.dd_machine.specs.Bytes.{when}
use Rattle.dd_machine.specs.Effects.{after}
use Rattle.dd_machine.specs.Legal.{MayAsk, MayRest}
use Rattle.dd_machine.specs.Needed.{is_current, is_current_at, version}
use Rattle.dd_machine.specs.Sound.{IsSound}
use Rattle.dd_machine.specs.States.{State}
use Rattle.dd_machine.specs.Tests.{is_done, is_pin}
use Rattle.dd_machine.specs.Words.{IsOneOf, blocks, element, size, spaces}
use Rattle.dd_machine.proofs.TestsLemmas.{current_version, pin_of, rested}
use Rattle.dd_machine.proofs.TotalsLemmas.{total_less_one}
use Rattle.laws_of_bound.specs.Cost.{any_below, any_undone, block_cost, block_weight, blocks_cost, fetch_at, is_stale, most_fetch, region_cost, send_cost}
use Rattle.laws_of_bound.proofs.FetchLemmas.{fetch_most}
use Rattle.laws_of_bound.proofs.RestLemmas.{undone_some}
use Rattle.laws_of_bound.proofs.SumsLemmas.{any_at, any_some}
use Rattle.laws_of_bound.proofs.WantsLemmas.{pin_is}

-- a place of a range that fails
one_fails : (test : ℕ → Bool) (a n : ℕ) → list_all test (range_with_len a n) ≡ false → (i : ℕ) × (i < n) × (test (a + i) ≡ false)
one_fails test a zero is = absurd cc
one_fails test a (suc n) is = ⊎_elim
    (λ (e : test a ≡ false). let z : a + 0 ≡ a = omega arith in (0, omega arith, ap test z ∙ e))
    (λ (e : list_all test (range_with_len (a + 1) n) ≡ false). let h = one_fails test (a + 1) n e in let z : a + suc h.0 ≡ (a + 1) + h.0 = omega arith in (suc h.0, omega (arith, h.1), ap test z ∙ h.2))
    (and_cases (test a) (list_all test (range_with_len (a + 1) n)) is)

pub stale_is : (plan : Plan) (st : State) (s b : ℕ) → is_current plan st s b ≡ false → is_stale plan st s b ≡ true
unfolding is_stale
stale_is plan st s b is =
    let h = one_fails (is_current_at plan st s b) 0 (size plan b) is in
    let z : 0 + h.0 ≡ h.0 = omega arith in
    any_at (size plan b) (λ i. not (is_current_at plan st s b i)) h.0 h.1 (not_from_false (is_current_at plan st s b h.0) (ap (is_current_at plan st s b) (sym z) ∙ h.2))

pub not_stale : (plan : Plan) (st : State) (s b : ℕ) → is_current plan st s b ≡ true → is_stale plan st s b ≡ false
unfolding is_stale
not_stale plan st s b is = false_from_ne_true (any_below_of) (λ some.
    let h = any_some (size plan b) (λ i. not (is_current_at plan st s b i)) some in
    let off : is_current_at plan st s b h.0 ≡ false = not-true (is_current_at plan st s b h.0) h.2 in
    let on : is_current_at plan st s b h.0 ≡ true = eq-eqb (slice_index_of h.0) (st.current (element plan b h.0)) (current_version plan st s b h.0 is h.1) in
    let no : true ≡ false = sym on ∙ off in
    cc)
  where
    any_below_of : Bool
    any_below_of = any_below (size plan b) (λ i. not (is_current_at plan st s b i))

    slice_index_of : ℕ → ℕ
    slice_index_of i = version st s b i

weight_pinned : (plan : Plan) (p w : Bool) (f : ℕ) → p ≡ true → block_weight plan p w f ≡ suc f
weight_pinned plan p w f is = ap (λ (t : Bool). block_weight plan t w f) is

weight_free : (plan : Plan) (p w : Bool) (f : ℕ) → p ≡ false → block_weight plan p w f ≡ when w (2 + most_fetch plan)
weight_free plan p w f is = ap (λ (t : Bool). block_weight plan t w f) is

other_pin : (s b x y : ℕ) → (y ≡ b → ⊥) → is_pin (Some (s, b)) x y ≡ false
other_pin s b x y ne = and_right (eqb s x) (eqb b y) (ne_eqb b y (λ same. ne (sym same)))

pub falls_ask : (plan : Plan) (st : State) (r space block : ℕ) → st.region ≡ Some r → MayAsk plan st space block → region_cost plan (after plan st (Ask space block)) r + 1 ≤ region_cost plan st r
unfolding fetch_at is_stale send_cost
falls_ask plan st r space block open_in may =
    let home = may.home r open_in in
    let none : (b : ℕ) → is_pin st.pin (st.homes b) b ≡ false = λ b. ap (λ (p : Option (ℕ × ℕ)). is_pin p (st.homes b) b) may.no_pin in
    let waits : ℕ → Bool = λ b. any_undone plan st.tasks r || is_stale plan st (st.homes b) b in
    let fetch : ℕ → ℕ = λ b. fetch_at plan st 0 b (st.homes b) in
    let stale : is_stale plan st (st.homes block) block ≡ true = ap (λ (s : ℕ). is_stale plan st s block) home ∙ stale_is plan st space block (may.stale r open_in) in
    let most : fetch_at plan st 0 block (st.homes block) ≤ most_fetch plan = fetch_most plan st 0 block (st.homes block) (subst (IsOneOf (spaces plan)) (sym home) may.space_is) in
    let now : block_weight plan (is_pin (Some (space, block)) (st.homes block) block) (waits block) (fetch block) ≡ suc (fetch block) =
    weight_pinned plan (is_pin (Some (space, block)) (st.homes block) block) (waits block) (fetch block) (ap (λ (s : ℕ). is_pin (Some (space, block)) s block) home ∙ pin_is (Some (space, block)) space block refl) in
    let was : block_weight plan (is_pin st.pin (st.homes block) block) (waits block) (fetch block) ≡ 2 + most_fetch plan =
    weight_free plan (is_pin st.pin (st.homes block) block) (waits block) (fetch block) (none block) ∙ ap (λ (t : Bool). when t (2 + most_fetch plan)) (or_right (any_undone plan st.tasks r) (is_stale plan st (st.homes block) block) stale) in
    let bs : blocks_cost plan (record st { pin = Some (space, block) }) r + 1 ≤ blocks_cost plan st r =
    total_less_one (blocks plan) (block_cost plan (record st { pin = Some (space, block) }) r) (block_cost plan st r) block 1 may.block_is
    (λ b _ ne.
    let n : block_weight plan (is_pin (Some (space, block)) (st.homes b) b) (waits b) (fetch b) ≡ when (waits b) (2 + most_fetch plan) = weight_free plan (is_pin (Some (space, block)) (st.homes b) b) (waits b) (fetch b) (other_pin space block (st.homes b) b ne) in
    let o : block_weight plan (is_pin st.pin (st.homes b) b) (waits b) (fetch b) ≡ when (waits b) (2 + most_fetch plan) = weight_free plan (is_pin st.pin (st.homes b) b) (waits b) (fetch b) (none b) in
    omega (arith, n, o))
    (omega (arith, now, was, most)) in
    omega (arith, bs)

pub falls_rest : (plan : Plan) (st : State) (r : ℕ) → IsSound plan st → st.region ≡ Some r → MayRest plan st → region_cost plan (after plan st Rest) r + 1 ≤ region_cost plan st r
unfolding fetch_at is_stale send_cost
falls_rest plan st r sound open_in may =
    subst (λ (new : State). region_cost plan new r + 1 ≤ region_cost plan st r) (sym (rested plan st space block is)) (omega (arith, bs))
  where
    space : ℕ
    space = (pin_of plan st may).0

    block : ℕ
    block = (pin_of plan st may).1

    is : st.pin ≡ Some (space, block)
    is = (pin_of plan st may).2

    home : st.homes block ≡ space
    home = sound.limits.pin_home r space block open_in is

    waits : ℕ → Bool
    waits b = any_undone plan st.tasks r || is_stale plan st (st.homes b) b

    fetch : ℕ → ℕ
    fetch b = fetch_at plan st 0 b (st.homes b)

    done : any_undone plan st.tasks r ≡ false
    done = false_from_ne_true (any_undone plan st.tasks r) (λ some.
        let h = undone_some plan st.tasks r some in
        let all = sound.limits.pin_calm r open_in (λ none. let e : None ≡ Some (space, block) = sym none ∙ is in cc) h.0 h.1 in
        let e : true ≡ false = sym (ap is_done all) ∙ h.2 in
        cc)

    ready : is_stale plan st (st.homes block) block ≡ false
    ready = ap (λ (s : ℕ). is_stale plan st s block) home ∙ not_stale plan st space block ((pin_of plan st may).3.current r open_in)

    bs : blocks_cost plan (record st { pin = None }) r + 1 ≤ blocks_cost plan st r
    bs = total_less_one (blocks plan) (block_cost plan (record st { pin = None }) r) (block_cost plan st r) block 1 (sound.limits.pin_known space block is).1
        (λ b _ ne.
        let n : block_weight plan (is_pin None (st.homes b) b) (waits b) (fetch b) ≡ when (waits b) (2 + most_fetch plan) = refl in
        let o : block_weight plan (is_pin st.pin (st.homes b) b) (waits b) (fetch b) ≡ when (waits b) (2 + most_fetch plan) = weight_free plan (is_pin st.pin (st.homes b) b) (waits b) (fetch b)
        (ap (λ (p : Option (ℕ × ℕ)). is_pin p (st.homes b) b) is ∙ other_pin space block (st.homes b) b ne) in
        omega (arith, n, o))
        (let n : block_weight plan (is_pin None (st.homes block) block) (waits block) (fetch block) ≡ 0 = ap (λ (t : Bool). when t (2 + most_fetch plan)) (or_from (any_undone plan st.tasks r) (is_stale plan st (st.homes block) block) done ready) in
        let o : block_weight plan (is_pin st.pin (st.homes block) block) (waits block) (fetch block) ≡ suc (fetch block) = weight_pinned plan (is_pin st.pin (st.homes block) block) (waits block) (fetch block)
        (ap (λ (s : ℕ). is_pin st.pin s block) home ∙ pin_is st.pin space block is) in
        omega (arith, n, o))
