-- In an open region some entry is legal.
use Rattle.std.proofs.Common.{◌≡◌, ◌⊎◌, ℕ, zero, suc, ◌+◌, ◌<◌, ◌≤◌, true, false, eqb, length, Option, Some, None, refl, ap, sym, ◌∙◌, subst, inl, inr, ⊎_elim, arith}
use Rattle.std.specs.Prelude.{is_some, not}
use Rattle.std.specs.List.{list_any, range_with_len}
use Rattle.std.proofs.lemmas.Bool.{and_from, cases_Bool, cases_eq, cases_lt, eq-eqb, false_from_ne_true, not_from_false, or_left}
use Rattle.dd_blocks.specs.declared.plan.Plan.{Plan}
use Rattle.dd_blocks.specs.WellFormed.{IsWellFormed}
use Rattle.dd_machine.specs.declared.copy_state.CopyState.{CopyState}
use Rattle.dd_machine.specs.declared.copy_state.CopyState.TheVariants as state
use Rattle.dd_machine.specs.declared.event.Event.{Event}
use Rattle.dd_machine.specs.declared.event.Event.TheVariants.{Ask, Rest, Free, Pick, Gone, Call, Come, Lend, Copy, Finish, Back, Close}
use Rattle.dd_machine.specs.declared.task_state.TaskState.{TaskState}
use Rattle.dd_machine.specs.declared.task_state.TaskState.TheVariants.{Waiting, Held, Running, Done}
use Rattle.dd_machine.specs.Bytes.{beside_bytes, is_pinned, is_used, load, pin_bytes, pin_bytes_in, when}
use Rattle.dd_machine.specs.GoesOn.{GoesOn, IsQuiet}
use Rattle.dd_machine.specs.Legal.{AllDone, May}
use Rattle.dd_machine.specs.Needed.{is_current, is_current_at, is_needed, needed, source, version}
use Rattle.dd_machine.specs.Sound.{IsSound}
use Rattle.dd_machine.specs.SoundVersions.{HasCurrent}
use Rattle.dd_machine.specs.States as states
use Rattle.dd_machine.specs.States.{State}
use Rattle.dd_blocks.specs.Numbered.{task_row}
use Rattle.dd_machine.specs.Tests.{Has, is_active, is_any, is_coming, is_here, is_here_or_lent, is_idle, is_in_state, is_leaving, is_lent, is_pin, is_running}
use Rattle.dd_machine.specs.Words.{IsOf, IsOneOf, blocks, bytes, element, limit, size, spaces, tasks}
use Rattle.dd_machine.proofs.TestsLemmas.{not_two, pair_same, passes_any}
use Rattle.dd_machine.proofs.TotalsLemmas.{when_true}
use Rattle.laws_of_limits.proofs.PinsKept.{out_or_in}
use Rattle.dd_machine.specs.SoundProgress.{SoundProgress}
use Rattle.laws_of_progress.proofs.LendsWhole.{to}
use Rattle.laws_of_progress.proofs.QuietLemmas.{here_gives, leads_on, region_line}
use Rattle.laws_of_progress.proofs.QuietRoom.{fits_beside, fits_block, idle_out, no_lend, picks}
use Rattle.laws_of_progress.proofs.SearchLemmas.{search, search_below, some_kept}
use Rattle.dd_machine.proofs.RangesLemmas.{all_places}

-- some event is legal
abbrev pub Can : Plan → State → Type 0
Can plan st = (event : Event) × May plan st event

-- ---- what is on its way arrives

lent_gives : (t : ℕ) (c : Option states.Copy) → is_in_state (to t) c ≡ true → is_in_state (is_here_or_lent t) c ≡ true
lent_gives t None e = cc
lent_gives t (Some c) e = by c.state e
  where
    by : (s : CopyState) → to t s ≡ true → is_here_or_lent t s ≡ true
    by state.Here e = cc
    by state.Leaving e = cc
    by state.Out e = cc
    by state.Coming e = cc
    by (state.Lent u) e = e

lent_comes : (plan : Plan) (st : State) (s b t : ℕ) → IsSound plan st → SoundProgress plan st → Has st s b (to t) → Can plan st
lent_comes plan st s b zero sound able lent =
    let known = able.copy_known s b (passes_any (to 0) (st.copies s b) lent) in
    let l = sound.limits.lends_pinned s b lent in
    let o = sound.limits.lends_open s b (all (st.copies s b) lent) in (
      Back b s (length (needed plan st 0 b s)),
      record {
        source_is = known.0;
        block_is = known.1;
        asked = (ap is_some o.1, l.0);
        here = able.lends_here s b 0 lent;
        gives = lent_gives 0 (st.copies s b) lent;
        exact = refl;
        some_needed = some_kept (is_needed plan st 0 b s) 0 (size plan b) l.1.0 (omega arith) (let lt = l.1.1 in omega (arith, lt)) l.1.2;
      },
    )
  where
    all : (c : Option states.Copy) → is_in_state (to 0) c ≡ true → is_in_state (is_lent (λ t. true)) c ≡ true
    all None e = cc
    all (Some c) e = by c.state e
      where
        by : (s : CopyState) → to 0 s ≡ true → is_lent (λ t. true) s ≡ true
        by state.Here e = cc
        by state.Leaving e = cc
        by state.Out e = cc
        by state.Coming e = cc
        by (state.Lent u) e = refl
lent_comes plan st s b (suc t) sound able lent =
    let known = able.copy_known s b (passes_any (to (suc t)) (st.copies s b) lent) in
    let l = able.lends_held s b t lent in (
      Copy (suc t) b s (length (needed plan st (suc t) b s)),
      (
        omega arith,
        record {
          source_is = known.0;
          block_is = known.1;
          asked = l.0;
          here = able.lends_here s b (suc t) lent;
          gives = lent_gives (suc t) (st.copies s b) lent;
          exact = refl;
          some_needed = some_kept (is_needed plan st (suc t) b s) 0 (size plan b) l.1.0 (omega arith) (let lt = l.1.1 in omega (arith, lt)) l.1.2;
        },
      ),
    )

copy_arrives : (plan : Plan) (st : State) (s b : ℕ) → IsSound plan st → SoundProgress plan st → IsOneOf (spaces plan) s → IsOneOf (blocks plan) b → Can plan st ⊎ (is_in_state is_any (st.copies s b) ≡ true → is_in_state is_idle (st.copies s b) ≡ true)
copy_arrives plan st s b sound able s_is b_is = by (st.copies s b) refl
  where
    by : (c : Option states.Copy) → st.copies s b ≡ c → Can plan st ⊎ (is_in_state is_any (st.copies s b) ≡ true → is_in_state is_idle (st.copies s b) ≡ true)
    by None is = inr (λ any. let h : true ≡ false = sym any ∙ ap (is_in_state is_any) is in cc)
    by (Some c) is = with_state c.state refl
      where
        with_state : (x : CopyState) → c.state ≡ x → Can plan st ⊎ (is_in_state is_any (st.copies s b) ≡ true → is_in_state is_idle (st.copies s b) ≡ true)
        with_state state.Here e = inr (λ any. ap (is_in_state is_idle) is ∙ ap is_idle e)
        with_state state.Leaving e = inl (Gone s b, record { space_is = s_is; block_is = b_is; leaving = ap (is_in_state is_leaving) is ∙ ap is_leaving e })
        with_state state.Out e = inr (λ any. ap (is_in_state is_idle) is ∙ ap is_idle e)
        with_state state.Coming e = inl (Come s b, record { space_is = s_is; block_is = b_is; coming = ap (is_in_state is_coming) is ∙ ap is_coming e })
        with_state (state.Lent t) e = inl (lent_comes plan st s b t sound able (ap (is_in_state (to t)) is ∙ ap (to t) e ∙ eq-eqb t t refl))

active_run : (s : TaskState) → is_running s ≡ true → is_active s ≡ true
active_run Waiting e = cc
active_run Held e = cc
active_run (Running w) e = refl
active_run Done e = cc

arrives : (plan : Plan) (st : State) → IsSound plan st → SoundProgress plan st → Can plan st ⊎ IsQuiet st
arrives plan st sound able = ⊎_elim
    (λ (can : Can plan st). inl can)
    (λ (still : (t : ℕ) → IsOneOf (tasks plan) t → is_running (st.tasks t) ≡ false). ⊎_elim
    (λ (can : Can plan st). inl can)
    (λ (idle : (s : ℕ) → IsOneOf (spaces plan) s → (b : ℕ) → IsOneOf (blocks plan) b → is_in_state is_any (st.copies s b) ≡ true → is_in_state is_idle (st.copies s b) ≡ true). inr (record {
      tasks = λ t. false_from_ne_true (is_running (st.tasks t)) (λ run. let o = sound.limits.active_open t (active_run (st.tasks t) run) in let off = still t o.2.0 in let h : true ≡ false = sym run ∙ off in cc);
      copies = λ s b any. let known = able.copy_known s b any in idle s known.0 b known.1 any;
    }))
    (search (spaces plan) (λ s. (b : ℕ) → IsOneOf (blocks plan) b → is_in_state is_any (st.copies s b) ≡ true → is_in_state is_idle (st.copies s b) ≡ true)
    (λ s s_is. search (blocks plan) (λ b. is_in_state is_any (st.copies s b) ≡ true → is_in_state is_idle (st.copies s b) ≡ true) (λ b b_is. copy_arrives plan st s b sound able s_is b_is))))
    (search (tasks plan) (λ t. is_running (st.tasks t) ≡ false) (λ t t_is. by t (st.tasks t) refl))
  where
    by : (t : ℕ) (x : TaskState) → st.tasks t ≡ x → Can plan st ⊎ (is_running (st.tasks t) ≡ false)
    by t Waiting is = inr (ap is_running is)
    by t Held is = inr (ap is_running is)
    by t (Running w) is = inl (Finish t, ap is_running is)
    by t Done is = inr (ap is_running is)

-- ---- all tasks are done

-- no pin
clears : (plan : Plan) (st : State) (r : ℕ) → IsSound plan st → SoundProgress plan st → IsQuiet st → st.region ≡ Some r → AllDone plan st r → st.pin ≡ None → Can plan st
clears plan st r sound able quiet open_is done no_pin = ⊎_elim
    (λ (can : Can plan st). can)
    (λ (fine : (s : ℕ) → IsOneOf (spaces plan) s → (b : ℕ) → IsOneOf (blocks plan) b → Fine s b). (
      Close r,
      record {
        open_is = open_is;
        all_done = done;
        no_pin = no_pin;
        idle = quiet.copies;
        at_home = λ s b any. let known = able.copy_known s b any in (fine s known.0 b known.1 any).0;
        current = λ s b any. let known = able.copy_known s b any in (fine s known.0 b known.1 any).1;
      },
    ))
    (search (spaces plan) (λ s. (b : ℕ) → IsOneOf (blocks plan) b → Fine s b) (λ s s_is. search (blocks plan) (Fine s) (λ b b_is. one s b s_is b_is)))
  where
    Fine : ℕ → ℕ → Type 0
    Fine s b = Has st s b is_any → (st.homes b ≡ s) × (is_current plan st s b ≡ true)

    all_done : (q : ℕ) → st.region ≡ Some q → AllDone plan st q
    all_done q q_is = subst (AllDone plan st) (same r q (sym open_is ∙ q_is)) done
      where
        same : (x y : ℕ) → Some x ≡ Some y → x ≡ y
        same x y e = cc

    one : (s b : ℕ) → IsOneOf (spaces plan) s → IsOneOf (blocks plan) b → Can plan st ⊎ Fine s b
    one s b s_is b_is = ⊎_elim
        (λ (any : is_in_state is_any (st.copies s b) ≡ true).
        let home = able.copy_home r s b open_is any in
        let known = able.copy_known (st.homes b) b home in
        ⊎_elim
        (λ (now : is_current plan st (st.homes b) b ≡ true). ⊎_elim
        (λ (at : st.homes b ≡ s). inr (λ _. (at, ap (λ (x : ℕ). is_current plan st x b) (sym at) ∙ now)))
        (λ (away : st.homes b ≡ s → ⊥). inl (
          Free s b,
          record {
            space_is = s_is;
            block_is = b_is;
            idle = quiet.copies s b any;
            due = λ out. out_or_in out open_is;
            at_home = λ out. out_or_in out open_is;
            all_done = all_done;
            no_pin = λ q q_is. no_pin;
            elsewhere = λ q q_is. away;
            home_there = λ q q_is. home;
            home_current = λ q q_is. now;
          },
        ))
        (cases_eq (st.homes b) s))
        (λ (stale : is_current plan st (st.homes b) b ≡ false). inl (
          Ask (st.homes b) b,
          record {
            space_is = known.0;
            block_is = b_is;
            no_pin = no_pin;
            due = λ out. out_or_in out open_is;
            all_done = all_done;
            home = λ q q_is. refl;
            there = λ q q_is. home;
            stale = λ q q_is. stale;
          },
        ))
        (cases_Bool (is_current plan st (st.homes b) b)))
        (λ (none : is_in_state is_any (st.copies s b) ≡ false). inr (λ any. let h : true ≡ false = sym any ∙ none in absurd cc))
        (cases_Bool (is_in_state is_any (st.copies s b)))

-- the pin
pulls : (plan : Plan) (st : State) (r b : ℕ) → IsSound plan st → SoundProgress plan st → IsQuiet st → st.region ≡ Some r → st.pin ≡ Some (st.homes b, b) → Can plan st
pulls plan st r b sound able quiet open_is pin = ⊎_elim
    (λ (over : limit plan home < load plan st home). let p = picks plan st home sound quiet known.0 (able.reserved_within home known.0) over in (Pick home p.0, p.1))
    (λ (low : load plan st home ≤ limit plan home). ⊎_elim
    (λ (here : is_in_state is_here (st.copies home b) ≡ true). ⊎_elim
    (λ (now : is_current plan st home b ≡ true). (
      Rest,
      record {
        due = λ out. out_or_in out open_is;
        pinned = ap is_some pin;
        here = λ x y same. let e = pair_same home x b y (sym pin ∙ same) in subst (λ (z : ℕ). Has st z y is_here) e.0 (subst (λ (z : ℕ). Has st home z is_here) e.1 here);
        current = λ q x y q_is same. let e = pair_same home x b y (sym pin ∙ same) in subst (λ (z : ℕ). is_current plan st z y ≡ true) e.0 (subst (λ (z : ℕ). is_current plan st home z ≡ true) e.1 now);
        none_leaving = λ s c. false_from_ne_true (is_in_state is_leaving (st.copies s c)) (λ leaving.
            not_two is_leaving is_idle leaving_idle (st.copies s c) leaving (quiet.copies s c (passes_any is_leaving (st.copies s c) leaving)));
      },
    ))
    (λ (stale : is_current plan st home b ≡ false). ⊎_elim
    (λ (can : Can plan st). can)
    (λ (all : (i : ℕ) → i < size plan b → is_current_at plan st home b i ≡ true). absurd (
    let now : is_current plan st home b ≡ true = all_places (is_current_at plan st home b) 0 (size plan b) (λ i lt. let e : 0 + i ≡ i = omega arith in ap (is_current_at plan st home b) e ∙ all i lt) in
    let h : true ≡ false = sym now ∙ stale in cc))
    (search_below (size plan b) (λ i. is_current_at plan st home b i ≡ true) (λ i lt. ⊎_elim
    (λ (on : is_current_at plan st home b i ≡ true). inr on)
    (λ (off : is_current_at plan st home b i ≡ false). inl (fetch i lt low here off))
    (cases_Bool (is_current_at plan st home b i)))))
    (cases_Bool (is_current plan st home b)))
    (λ (away : is_in_state is_here (st.copies home b) ≡ false). (
      Call home b,
      record {
        space_is = known.0;
        block_is = known.1;
        out = idle_out (st.copies home b) (quiet.copies home b there) away;
        pinned = pinned;
        fits = fits_block plan st home b quiet low known.1 pinned away;
      },
    ))
    (cases_Bool (is_in_state is_here (st.copies home b))))
    (cases_lt (limit plan home) (load plan st home))
  where
    home : ℕ
    home = st.homes b

    known : IsOneOf (spaces plan) (st.homes b) × IsOneOf (blocks plan) b
    known = sound.limits.pin_known (st.homes b) b pin

    there : Has st (st.homes b) b is_any
    there = able.pin_there r (st.homes b) b open_is pin

    pinned : is_pinned plan st (st.homes b) b ≡ true
    pinned = or_left (is_pin st.pin (st.homes b) b) (list_any (is_used plan st (st.homes b) b) (range_with_len 1 (tasks plan)))
        (ap (λ (p : Option (ℕ × ℕ)). is_pin p (st.homes b) b) pin ∙ and_from (eqb (st.homes b) (st.homes b)) (eqb b b) (eq-eqb (st.homes b) (st.homes b) refl) (eq-eqb b b refl))

    leaving_idle : (s : CopyState) → is_leaving s ≡ true → is_idle s ≡ true → ⊥
    leaving_idle state.Leaving a c = cc
    leaving_idle _ a c = cc

    pin_room : bytes plan b ≤ beside_bytes plan st (st.homes b)
    pin_room =
        let is : pin_bytes plan st (st.homes b) ≡ when (eqb (st.homes b) (st.homes b)) (bytes plan b) =
        ap (λ (o : Option ℕ). pin_bytes_in plan o st.pin (st.homes b)) open_is ∙ ap (λ (p : Option (ℕ × ℕ)). pin_bytes_in plan (Some r) p (st.homes b)) pin in
        let all = when_true (eqb (st.homes b) (st.homes b)) (bytes plan b) (eq-eqb (st.homes b) (st.homes b) refl) in
        omega (arith, is, all)

    fetch : (i : ℕ) → i < size plan b → load plan st (st.homes b) ≤ limit plan (st.homes b) → Has st (st.homes b) b is_here → is_current_at plan st (st.homes b) b i ≡ false → Can plan st
    fetch i lt low here off =
        let from = source plan st b i in
        let holds : HasCurrent plan st from b i = ⊎_elim
        (λ (h : HasCurrent plan st from b i). h)
        (λ (h : AllDone plan st r × HasCurrent plan st (st.homes b) b i). absurd (
        let on : is_current_at plan st (st.homes b) b i ≡ true = eq-eqb (version st (st.homes b) b i) (st.current (element plan b i)) h.1.1 in
        let x : true ≡ false = sym on ∙ off in cc))
        (sound.versions.source_holds r b i open_is there lt) in
        let source_known = able.copy_known from b holds.0 in
        let need : is_needed plan st 0 b from i ≡ true =
        and_from (not (is_current_at plan st (st.homes b) b i)) (eqb from from) (not_from_false (is_current_at plan st (st.homes b) b i) off) (eq-eqb from from refl) in
        let some : 0 < length (needed plan st 0 b from) = some_kept (is_needed plan st 0 b from) 0 (size plan b) i (omega arith) (omega (arith, lt)) need in
        ⊎_elim
        (λ (gives : is_in_state is_here (st.copies from b) ≡ true). (
          Back b from (length (needed plan st 0 b from)),
          record {
            source_is = source_known.0;
            block_is = source_known.1;
            asked = (ap is_some open_is, pin);
            here = here;
            gives = here_gives 0 (st.copies from b) gives;
            exact = refl;
            some_needed = some;
          },
        ))
        (λ (away : is_in_state is_here (st.copies from b) ≡ false). (
          Lend 0 b from,
          record {
            source_is = source_known.0;
            block_is = source_known.1;
            asked = (ap is_some open_is, pin);
            here = here;
            no_lend = λ x y. no_lend st (λ u. eqb u 0) x y quiet;
            out = idle_out (st.copies from b) (quiet.copies from b holds.0) away;
            some_needed = some;
            fits = fits_beside plan st (st.homes b) (bytes plan b) quiet low pin_room;
          },
        ))
        (cases_Bool (is_in_state is_here (st.copies from b)))

-- ---- all together

can_done : (plan : Plan) (st : State) (r : ℕ) → IsSound plan st → SoundProgress plan st → IsQuiet st → st.region ≡ Some r → AllDone plan st r → Can plan st
can_done plan st r sound able quiet open_is done = by st.pin refl
  where
    by : (p : Option (ℕ × ℕ)) → st.pin ≡ p → Can plan st
    by None is = clears plan st r sound able quiet open_is done is
    by (Some (s, b)) is = pulls plan st r b sound able quiet open_is (is ∙ ap (λ (x : ℕ). let y : ℕ × ℕ = (x, b) in Some y) (sym (sound.limits.pin_home r s b open_is is)))

pub can_go_on : (plan : Plan) (st : State) (r : ℕ) → IsWellFormed plan → IsSound plan st → SoundProgress plan st → st.region ≡ Some r → Can plan st
can_go_on plan st r well sound able open_is = ⊎_elim
    (λ (can : Can plan st). can)
    (λ (quiet : IsQuiet st). ⊎_elim
    (λ (busy : AllDone plan st r → ⊥). let some = leads_on plan st r well sound able open_is quiet busy in let led = some.led in (led.0, led.2))
    (λ (done : (t : ℕ) → IsOneOf (tasks plan) t → IsOf plan r t → st.tasks t ≡ Done). can_done plan st r sound able quiet open_is (λ t of. done t of.0 of))
    (search (tasks plan) (λ t. IsOf plan r t → st.tasks t ≡ Done) (λ t t_is. by t t_is (st.tasks t) refl)))
    (arrives plan st sound able)
  where
    not_done : (t : ℕ) (x : TaskState) → IsOneOf (tasks plan) t → st.tasks t ≡ x → (x ≡ Done → ⊥) → (AllDone plan st r → ⊥) ⊎ (IsOf plan r t → st.tasks t ≡ Done)
    not_done t x t_is is ne = ⊎_elim
        (λ (same : (task_row plan t).region ≡ r). inl (λ all. ne (sym is ∙ all t (t_is, same))))
        (λ (other : (task_row plan t).region ≡ r → ⊥). inr (λ of. absurd (other of.1)))
        (cases_eq (task_row plan t).region r)

    by : (t : ℕ) → IsOneOf (tasks plan) t → (x : TaskState) → st.tasks t ≡ x → (AllDone plan st r → ⊥) ⊎ (IsOf plan r t → st.tasks t ≡ Done)
    by t t_is Waiting is = not_done t Waiting t_is is (λ e. cc)
    by t t_is Held is = not_done t Held t_is is (λ e. cc)
    by t t_is (Running w) is = not_done t (Running w) t_is is (λ e. cc)
    by t t_is Done is = inr (λ of. is)

pub goes_on : (plan : Plan) (st : State) → IsWellFormed plan → IsSound plan st → SoundProgress plan st → GoesOn plan st
goes_on plan st well sound able r open_is =
    let can = can_go_on plan st r well sound able open_is in
    let line = region_line plan st r sound open_is in
    (record { line = line.0; event = can.0 }, (line.1, can.1))
