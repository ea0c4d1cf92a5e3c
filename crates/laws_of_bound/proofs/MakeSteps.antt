-- The entries that make a copy and that free one in a region.
use Rattle.std.proofs.Common.{◌≡◌, ℕ, ◌+◌, ◌≤◌, true, false, eqb, Option, Some, None, ap, sym, ◌∙◌, subst, inl, ⊎_elim, arith}
use Rattle.std.specs.Prelude.{not, slice_index}
use Rattle.std.proofs.lemmas.Bool.{ne_eqb, or_left, or_right}
use Rattle.std.proofs.lemmas.List.Elements.{All-contains}
use Rattle.dd_blocks.specs.declared.plan.Plan.{Plan}
use Rattle.dd_blocks.specs.Numbered.{IsNumberIn, task_row}
use Rattle.dd_blocks.specs.WellFormed.{IsWellFormed}
use Rattle.dd_machine.specs.declared.event.Event.TheVariants.{Free, Make}
use Rattle.dd_machine.specs.declared.task_state.TaskState.TheVariants.{Held, Done}
use Rattle.dd_machine.specs.Effects.{after, fresh}
use Rattle.dd_machine.specs.Legal.{MayFree, MayMake}
use Rattle.dd_machine.specs.Needed.{own_space}
use Rattle.dd_machine.specs.Sound.{IsSound}
use Rattle.dd_machine.specs.States as states
use Rattle.dd_machine.specs.States.{State, at_copy, blank}
use Rattle.dd_machine.specs.Tests.{is_active, is_any, is_done, is_idle, is_in_state, is_lent, is_pin, versions_of}
use Rattle.dd_machine.specs.Words.{IsOf, IsOneOf, blocks, element, place, touches}
use Rattle.dd_machine.proofs.ChangesLemmas.{at_copy_other, at_copy_same, at_copy_tells}
use Rattle.dd_machine.proofs.TestsLemmas.{same_at}
use Rattle.dd_machine.proofs.TotalsLemmas.{when_at_most}
use Rattle.laws_of_limits.proofs.PinsKept.{same_some}
use Rattle.laws_of_bound.specs.Cost.{any_undone, bring_cost, copy_cost, fetch_at, is_short, is_stale, region_cost, send_cost}
use Rattle.laws_of_bound.proofs.CopiesLemmas.{copies_fall, copies_rise}
use Rattle.laws_of_bound.proofs.FetchLemmas.{fetch_le, needed_same, send_le, short_absent}
use Rattle.laws_of_bound.proofs.RestLemmas.{IsKept, Wants, rest_le, rest_less, undone_at}
use Rattle.laws_of_bound.proofs.WantsLemmas.{own_task, short_same, stale_same}
use Rattle.dd_blocks.proofs.NumberedLemmas.{task_names_rows}
use Rattle.dd_lists.proofs.ListsLemmas.{number_in}

-- a touched block is one of the Plan
pub touched_in : (plan : Plan) (r t b : ℕ) → IsWellFormed plan → IsOf plan r t → touches plan t b ≡ true → IsOneOf (blocks plan) b
touched_in plan r t b well of touched =
    let names = task_names_rows plan well t of.0 in
    All-contains (IsNumberIn plan.blocks) (task_row plan t).blocks b names.blocks (number_in (task_row plan t).blocks b touched)

pub falls_make : (plan : Plan) (st : State) (r task block : ℕ) → IsWellFormed plan → IsSound plan st → st.region ≡ Some r → MayMake plan st task block
    → region_cost plan (after plan st (Make task block)) r + 1 ≤ region_cost plan st r
unfolding fetch_at is_stale send_cost
falls_make plan st r task block well sound open_in may =
    let o = sound.limits.active_open task (ap is_active may.held) in
    let same : o.0 ≡ r = same_some o.0 r st.region o.1 open_in in
    let of : IsOf plan r task = subst (λ (k : ℕ). IsOf plan k task) same o.2 in
    let own = own_task plan st task block of.0.0 in
    let kept : IsKept plan st r copies = record {
      fetch = λ t b w. let le = fetch_le plan (record st { copies = copies }) st t b (own_space plan st t b) 0 (let h = bring (own_space plan st t b) b in omega (arith, h)) (λ s _ _. send t b s) in omega (arith, le);
      stale = λ b is. or_left (any_undone plan st.tasks r) (is_stale plan st (st.homes b) b) (undone_at plan st.tasks r task of (ap is_done may.held));
    } in
    let n : bring_cost (copies (own_space plan st task block) block) ≡ 0 = ap (λ (s : ℕ). bring_cost (copies s block)) own ∙ ap bring_cost (at_copy_same st.copies (place plan task) block (fresh plan block blank)) in
    let was : bring_cost (st.copies (own_space plan st task block) block) ≡ 4 = ap (λ (s : ℕ). bring_cost (st.copies s block)) own ∙ ap bring_cost may.absent in
    let less = fetch_le plan (record st { copies = copies }) st task block (own_space plan st task block) 4 (omega (arith, n, was)) (λ s _ _. send task block s) in
    let rest = rest_less plan st r copies task block 4 kept (touched_in plan r task block well of may.touched) (inl (of, may.held, may.touched)) less in
    let away = not (eqb (place plan task) (st.homes block)) in
    let cs = copies_rise plan st (place plan task) block (fresh plan block blank) 3
    (let none : copy_cost away (st.copies (place plan task) block) ≡ 0 = ap (copy_cost away) may.absent in let one = when_at_most away 1 in omega (arith, none, one)) in
    omega (arith, cs, rest)
  where
    copies : ℕ → ℕ → Option states.Copy
    copies = at_copy st.copies (place plan task) block (fresh plan block blank)

    bring : (s b : ℕ) → bring_cost (copies s b) ≤ bring_cost (st.copies s b)
    bring s b = ⊎_elim
        (λ (e : (s ≡ place plan task) × (b ≡ block) × (at_copy st.copies (place plan task) block (fresh plan block blank) s b ≡ fresh plan block blank)).
        let n : bring_cost (copies s b) ≡ 0 = ap bring_cost e.2 in omega (arith, n))
        (λ (e : (s ≡ place plan task → b ≡ block → ⊥) × (at_copy st.copies (place plan task) block (fresh plan block blank) s b ≡ st.copies s b)).
        let n : bring_cost (copies s b) ≡ bring_cost (st.copies s b) = ap bring_cost e.1 in omega (arith, n))
        (at_copy_tells st.copies (place plan task) block (fresh plan block blank) s b)

    short : (t b s : ℕ) → is_short plan (record st { copies = copies }) t b (own_space plan st t b) s ≡ true → is_short plan st t b (own_space plan st t b) s ≡ true
    short t b s is = ⊎_elim
        (λ (e : (own_space plan st t b ≡ place plan task) × (b ≡ block) × (at_copy st.copies (place plan task) block (fresh plan block blank) (own_space plan st t b) b ≡ fresh plan block blank)).
        short_absent plan st t b (own_space plan st t b) s
        (ap (λ (x : ℕ). is_in_state is_any (st.copies x b)) e.0 ∙ ap (λ (y : ℕ). is_in_state is_any (st.copies (place plan task) y)) e.1 ∙ ap (is_in_state is_any) may.absent))
        (λ (e : (own_space plan st t b ≡ place plan task → b ≡ block → ⊥) × (at_copy st.copies (place plan task) block (fresh plan block blank) (own_space plan st t b) b ≡ st.copies (own_space plan st t b) b)).
        short_same plan (record st { copies = copies }) st t b (own_space plan st t b) s (ap (is_in_state is_any) e.1)
        (λ i lt needs. sym (needed_same plan st copies t b s i (ap (λ (c : Option states.Copy). slice_index (versions_of c) i) e.1)) ∙ needs) is)
        (at_copy_tells st.copies (place plan task) block (fresh plan block blank) (own_space plan st t b) b)

    send : (t b s : ℕ) → send_cost plan (record st { copies = copies }) t b (own_space plan st t b) s ≤ send_cost plan st t b (own_space plan st t b) s
    send t b s = send_le plan (record st { copies = copies }) st t b (own_space plan st t b) s
        (same_at (is_in_state (is_lent (λ x. eqb x t))) st.copies (place plan task) block (fresh plan block blank) (sym (ap (is_in_state (is_lent (λ x. eqb x t))) may.absent)) s b)
        (short t b s)

-- where all tasks are done and nothing is pinned, nothing is wanted
pub nothing_wanted : (plan : Plan) (st : State) (r t b : ℕ) → ((k : ℕ) → IsOf plan r k → st.tasks k ≡ Done) → st.pin ≡ None → Wants plan st r t b → ⊥
nothing_wanted plan st r t b done no_pin wants = ⊎_elim
    (λ (w : IsOf plan r t × (st.tasks t ≡ Held) × (touches plan t b ≡ true)). let h : Held ≡ Done = sym w.1 ∙ done t w.0 in cc)
    (λ (w : (t ≡ 0) × (is_pin st.pin (st.homes b) b ≡ true)). let h : true ≡ false = sym w.1 ∙ ap (λ (p : Option (ℕ × ℕ)). is_pin p (st.homes b) b) no_pin in cc)
    wants

pub falls_free : (plan : Plan) (st : State) (r space block : ℕ) → st.region ≡ Some r → MayFree plan st space block → region_cost plan (after plan st (Free space block)) r + 1 ≤ region_cost plan st r
unfolding fetch_at is_stale send_cost
falls_free plan st r space block open_in may =
    let copies = at_copy st.copies space block None in
    let kept : IsKept plan st r copies = record {
      fetch = λ t b w. absurd (nothing_wanted plan st r t b (may.all_done r open_in) (may.no_pin r open_in) w);
      stale = λ b is. or_right (any_undone plan st.tasks r) (is_stale plan st (st.homes b) b) (stale_same plan (record st { copies = copies }) st (st.homes b) b
          (λ i lt now. ap (λ (c : Option states.Copy). eqb (slice_index (versions_of c) i) (st.current (element plan b i)))
          (at_copy_other st.copies space block None (st.homes b) b (λ here same. may.elsewhere r open_in (ap st.homes (sym same) ∙ here))) ∙ now) is);
    } in
    let rest = rest_le plan st r copies kept in
    let far : not (eqb space (st.homes block)) ≡ true = ap not (ne_eqb space (st.homes block) (λ same. may.elsewhere r open_in (sym same))) in
    let cs = copies_fall plan st space block None 1 may.space_is may.block_is (rw far (some (st.copies space block) may.idle)) in
    omega (arith, cs, rest)
  where
    some : (c : Option states.Copy) → is_in_state is_idle c ≡ true → 0 + 1 ≤ copy_cost true c
    some None idle = absurd cc
    some (Some k) idle = omega arith
