-- Where all is quiet and not every task is done a task can be led on.
use Rattle.std.proofs.Common.{◌≡◌, ◌≢◌, ◌⊎◌, ℕ, zero, suc, ◌*◌, ◌<◌, ◌≤◌, Bool, true, false, ◌||◌, ◌&&◌, eqb, List, [], ◌∷◌, length, Option, Some, None, refl, ap, sym, ◌∙◌, subst, inl, inr, ⊎_elim, arith}
use Rattle.std.specs.Prelude.{Contains, not}
use Rattle.std.specs.List.{list_any, range_with_len}
use Rattle.std.proofs.lemmas.Bool.{and_from, and_parts, cases_Bool, cases_eq, cases_lt, eq-eqb, eqb-true, false_from_ne_true, ne_eqb, not_from_false, or_cases, or_right}
use Rattle.dd_views.proofs.ListsLemmas.{has_head, has_tail}
use Rattle.dd_blocks.specs.declared.plan.Plan.{Plan}
use Rattle.dd_blocks.specs.Numbered.{block_row, task_row}
use Rattle.dd_blocks.specs.WellFormed.{IsWellFormed}
use Rattle.dd_blocks.specs.Elements.{Element}
use Rattle.dd_machine.specs.declared.copy_state.CopyState.{CopyState}
use Rattle.dd_machine.specs.declared.copy_state.CopyState.TheVariants as state
use Rattle.dd_machine.specs.declared.entry.Entry.{Entry}
use Rattle.dd_machine.specs.declared.event.Event.{Event}
use Rattle.dd_machine.specs.declared.event.Event.TheVariants.{Hold, Pick, Make, Call, Lend, Copy, Claim, Close}
use Rattle.dd_machine.specs.declared.task_state.TaskState.{TaskState}
use Rattle.dd_machine.specs.declared.task_state.TaskState.TheVariants.{Waiting, Held, Running, Done}
use Rattle.dd_machine.specs.Bytes.{active_bytes, is_pinned, is_used, load, pin_bytes, pin_bytes_in, reserved, scratch_bytes, when}
use Rattle.dd_machine.specs.GoesOn.{CanLeadOn, IsQuiet, LeadsOn, LeadsTasksOn}
use Rattle.dd_machine.specs.Legal.{AllDone, Fits, May, held_too}
use Rattle.dd_machine.specs.Needed.{is_current_at, is_needed, needed, own_space, source, version}
use Rattle.dd_machine.specs.Owed.{left, next_event, next_line}
use Rattle.dd_machine.specs.Sound.{IsSound}
use Rattle.dd_machine.specs.SoundVersions.{HasCurrent}
use Rattle.dd_machine.specs.States as states
use Rattle.dd_machine.specs.States.{State, at_one}
use Rattle.dd_machine.specs.Tests.{Has, is_active, is_any, is_here, is_here_or_lent, is_in_state, is_pin, is_running, is_task_held}
use Rattle.dd_machine.specs.Words.{IsOf, IsOneOf, argument_bytes, blocks, bytes, element, has_number, limit, place, reads, scratch, size, tasks, touches}
use Rattle.dd_machine.proofs.ChangesLemmas.{at_one_tells}
use Rattle.dd_machine.proofs.TotalsLemmas.{total_le, when_at_most, when_false, when_le}
use Rattle.dd_machine.specs.SoundProgress.{SoundProgress}
use Rattle.laws_of_progress.proofs.CopiesKept.{home_there, place_known, touched_known}
use Rattle.laws_of_progress.proofs.LendsWhole.{own_of_task, task_pins}
use Rattle.laws_of_progress.proofs.QuietRoom.{arguments_beside, fits_beside, fits_block, idle_out, no_lend, none_there, picks, scratch_beside}
use Rattle.laws_of_progress.proofs.SearchLemmas.{any_some, search, search_below, search_up, some_kept, total_listed, total_only}
use Rattle.dd_machine.proofs.TestsLemmas.{all_read}

-- a legal event leads the task on
abbrev pub Led : Plan → State → ℕ → Type 0
Led plan st task = (event : Event) × LeadsOn plan st task event × May plan st event

-- some task of the region can be led on
pub record SomeLed (plan : Plan) (st : State) (r : ℕ) : Type 0 where
  pub task : ℕ
  pub of_region : IsOf plan r task
  pub led : Led plan st task

-- what is here can give to anybody
pub here_gives : (task : ℕ) (c : Option states.Copy) → is_in_state is_here c ≡ true → is_in_state (is_here_or_lent task) c ≡ true
here_gives task None e = cc
here_gives task (Some c) e = by c.state e
  where
    by : (s : CopyState) → is_here s ≡ true → is_here_or_lent task s ≡ true
    by state.Here e = refl
    by state.Leaving e = cc
    by state.Out e = cc
    by state.Coming e = cc
    by (state.Lent t) e = cc

-- ---- a task that is Held

led_block : (plan : Plan) (st : State) (t b : ℕ) → IsWellFormed plan → IsSound plan st → IsQuiet st → st.tasks t ≡ Held → load plan st (place plan t) ≤ limit plan (place plan t) → touches plan t b ≡ true → Led plan st t ⊎ Has st (place plan t) b is_here
led_block plan st t b well sound quiet held low touched =
    let s = place plan t in
    let on : is_active (st.tasks t) ≡ true = ap is_active held in
    let o = sound.limits.active_open t on in
    let s_is = place_known plan t well o.2.0 in
    let b_is = touched_known plan t b well o.2.0 touched in
    let pinned = task_pins plan st t b sound on touched in
    ⊎_elim
    (λ (here : is_in_state is_here (st.copies s b) ≡ true). inr here)
    (λ (away : is_in_state is_here (st.copies s b) ≡ false).
    let room = fits_block plan st s b quiet low b_is pinned away in
    ⊎_elim
    (λ (any : is_in_state is_any (st.copies s b) ≡ true). inl (Call s b, (held, (refl, touched)), record { space_is = s_is; block_is = b_is; out = idle_out (st.copies s b) (quiet.copies s b any) away; pinned = pinned; fits = room }))
    (λ (none : is_in_state is_any (st.copies s b) ≡ false). inl (Make t b, (held, refl), record { held = held; touched = touched; absent = none_there (st.copies s b) none; fits = room }))
    (cases_Bool (is_in_state is_any (st.copies s b))))
    (cases_Bool (is_in_state is_here (st.copies s b)))

led_place : (plan : Plan) (st : State) (k b i : ℕ) → IsWellFormed plan → IsSound plan st → SoundProgress plan st → IsQuiet st → st.tasks (suc k) ≡ Held → load plan st (place plan (suc k)) ≤ limit plan (place plan (suc k)) → touches plan (suc k) b ≡ true
    → Has st (place plan (suc k)) b is_here → i < size plan b → reads plan (suc k) (element plan b i) ≡ true → Led plan st (suc k) ⊎ (version st (place plan (suc k)) b i ≡ st.current (element plan b i))
led_place plan st k b i well sound able quiet held low touched here lt read = ⊎_elim
    (λ (now : version st s b i ≡ st.current e). inr now)
    (λ (stale : version st s b i ≡ st.current e → ⊥).
    let own : own_space plan st (suc k) b ≡ s = own_of_task plan st k b in
    let on : is_active (st.tasks (suc k)) ≡ true = ap is_active held in
    let o = sound.limits.active_open (suc k) on in
    let holds : HasCurrent plan st from b i = ⊎_elim
    (λ (h : HasCurrent plan st from b i). h)
    (λ (h : AllDone plan st o.0 × HasCurrent plan st (st.homes b) b i). absurd (let d : st.tasks (suc k) ≡ Done = h.0 (suc k) o.2 in let x : Held ≡ Done = sym held ∙ d in cc))
    (sound.versions.source_holds o.0 b i o.1 (home_there plan st (suc k) b sound on touched) lt) in
    let known = able.copy_known from b holds.0 in
    let own_here : Has st (own_space plan st (suc k) b) b is_here = subst (λ (x : ℕ). Has st x b is_here) (sym own) here in
    let old : is_current_at plan st (own_space plan st (suc k) b) b i ≡ false = ap (λ (x : ℕ). is_current_at plan st x b i) own ∙ ne_eqb (version st s b i) (st.current e) stale in
    let need : is_needed plan st (suc k) b from i ≡ true =
    and_from (eqb (suc k) 0 || reads plan (suc k) e) (not (is_current_at plan st (own_space plan st (suc k) b) b i) && eqb from from)
    (or_right (eqb (suc k) 0) (reads plan (suc k) e) read)
    (and_from (not (is_current_at plan st (own_space plan st (suc k) b) b i)) (eqb from from) (not_from_false (is_current_at plan st (own_space plan st (suc k) b) b i) old) (eq-eqb from from refl)) in
    let some : 0 < length (needed plan st (suc k) b from) = some_kept (is_needed plan st (suc k) b from) 0 (size plan b) i (omega arith) (omega (arith, lt)) need in
    ⊎_elim
    (λ (there : is_in_state is_here (st.copies from b) ≡ true). inl (
      Copy (suc k) b from (length (needed plan st (suc k) b from)),
      (held, (refl, there)),
      (
        omega arith,
        record {
          source_is = known.0;
          block_is = known.1;
          asked = held;
          here = own_here;
          gives = here_gives (suc k) (st.copies from b) there;
          exact = refl;
          some_needed = some;
        },
      ),
    ))
    (λ (away : is_in_state is_here (st.copies from b) ≡ false). inl (
      Lend (suc k) b from,
      (held, refl),
      record {
        source_is = known.0;
        block_is = known.1;
        asked = held;
        here = own_here;
        no_lend = λ x y. no_lend st (λ u. eqb u (suc k)) x y quiet;
        out = idle_out (st.copies from b) (quiet.copies from b holds.0) away;
        some_needed = some;
        fits = subst (λ (x : ℕ). Fits plan st x (bytes plan b)) (sym own) (fits_beside plan st s (bytes plan b) quiet low (scratch_beside plan st (suc k) b o.2.0 held touched));
      },
    ))
    (cases_Bool (is_in_state is_here (st.copies from b))))
    (cases_eq (version st s b i) (st.current e))
  where
    s : ℕ
    s = place plan (suc k)

    e : Element
    e = element plan b i

    from : ℕ
    from = source plan st b i

no_worker : (st : State) (t w : ℕ) → IsQuiet st → st.tasks t ≡ Running w → ⊥
no_worker st t w quiet is = let h : true ≡ false = sym (ap is_running is) ∙ quiet.tasks t in cc

pub held_leads : (plan : Plan) (st : State) (t : ℕ) → IsWellFormed plan → IsSound plan st → SoundProgress plan st → IsQuiet st → st.tasks t ≡ Held → Led plan st t
held_leads plan st zero well sound able quiet held = let o = sound.limits.active_open zero (ap is_active held) in let h : 1 ≤ 0 = o.2.0.0 in absurd (omega (arith, h))
held_leads plan st (suc k) well sound able quiet held =
    let t = suc k in
    let s = place plan t in
    let on : is_active (st.tasks t) ≡ true = ap is_active held in
    let o = sound.limits.active_open t on in
    let s_is = place_known plan t well o.2.0 in
    ⊎_elim
    (λ (over : limit plan s < load plan st s). let p = picks plan st s sound quiet s_is (able.reserved_within s s_is) over in (Pick s p.0, (held, refl), p.1))
    (λ (low : load plan st s ≤ limit plan s). ⊎_elim
    (λ (led : Led plan st t). led)
    (λ (here : (b : ℕ) → IsOneOf (blocks plan) b → touches plan t b ≡ true → Has st s b is_here). ⊎_elim
    (λ (led : Led plan st t). led)
    (λ (now : (b : ℕ) → IsOneOf (blocks plan) b → touches plan t b ≡ true → (i : ℕ) → i < size plan b → reads plan t (element plan b i) ≡ true → version st s b i ≡ st.current (element plan b i)). (
      Claim t 1,
      (held, refl),
      record {
        held = held;
        all_here = λ b touched. here b (touched_known plan t b well o.2.0 touched) touched;
        all_current = λ b touched. all_read plan st t b (now b (touched_known plan t b well o.2.0 touched) touched);
        no_lend = λ x y. no_lend st (λ u. eqb u t) x y quiet;
        worker_is = (omega arith, omega arith);
        worker_free = λ u u_is is. no_worker st u 1 quiet is;
        fits = fits_beside plan st s (argument_bytes plan t) quiet low (arguments_beside plan st t o.2.0 on);
      },
    ))
    (search (blocks plan) (λ b. touches plan t b ≡ true → (i : ℕ) → i < size plan b → reads plan t (element plan b i) ≡ true → version st s b i ≡ st.current (element plan b i)) (λ b b_is. ⊎_elim
    (λ (touched : touches plan t b ≡ true). ⊎_elim
    (λ (led : Led plan st t). inl led)
    (λ (all : (i : ℕ) → i < size plan b → reads plan t (element plan b i) ≡ true → version st s b i ≡ st.current (element plan b i)). inr (λ _. all))
    (search_below (size plan b) (λ i. reads plan t (element plan b i) ≡ true → version st s b i ≡ st.current (element plan b i)) (λ i lt. ⊎_elim
    (λ (read : reads plan t (element plan b i) ≡ true). ⊎_elim
    (λ (led : Led plan st t). inl led)
    (λ (now : version st s b i ≡ st.current (element plan b i)). inr (λ _. now))
    (led_place plan st k b i well sound able quiet held low touched (here b b_is touched) lt read))
    (λ (not_read : reads plan t (element plan b i) ≡ false). inr (λ read. let h : true ≡ false = sym read ∙ not_read in cc))
    (cases_Bool (reads plan t (element plan b i))))))
    (λ (untouched : touches plan t b ≡ false). inr (λ touched. let h : true ≡ false = sym touched ∙ untouched in absurd cc))
    (cases_Bool (touches plan t b)))))
    (search (blocks plan) (λ b. touches plan t b ≡ true → Has st s b is_here) (λ b b_is. ⊎_elim
    (λ (touched : touches plan t b ≡ true). ⊎_elim
    (λ (led : Led plan st t). inl led)
    (λ (h : Has st s b is_here). inr (λ _. h))
    (led_block plan st t b well sound quiet held low touched))
    (λ (untouched : touches plan t b ≡ false). inr (λ touched. let h : true ≡ false = sym touched ∙ untouched in absurd cc))
    (cases_Bool (touches plan t b)))))
    (cases_lt (limit plan s) (load plan st s))

-- ---- no task is Held

abbrev Calm : State → Type 0
Calm st = (x : ℕ) → is_active (st.tasks x) ≡ false

no_pin : (plan : Plan) (st : State) (r t : ℕ) → IsSound plan st → st.region ≡ Some r → IsOf plan r t → (st.tasks t ≡ Done → ⊥) → st.pin ≡ None
no_pin plan st r t sound open_is of not_done = by st.pin refl
  where
    by : (p : Option (ℕ × ℕ)) → st.pin ≡ p → st.pin ≡ None
    by None is = is
    by (Some p) is = absurd (not_done (sound.limits.pin_calm r open_is (λ none. let h : None ≡ Some p = sym none ∙ is in cc) t of))

active_now : (st : State) (t x : ℕ) → Calm st → is_active (at_one st.tasks t Held x) ≡ true → x ≡ t
active_now st t x calm on = ⊎_elim
    (λ (e : (x ≡ t) × (at_one st.tasks t Held x ≡ Held)). e.0)
    (λ (e : (x ≢ t) × (at_one st.tasks t Held x ≡ st.tasks x)). absurd (let h : true ≡ false = sym on ∙ ap is_active e.1 ∙ calm x in cc))
    (at_one_tells st.tasks t Held x)

held_active : (s : TaskState) → is_task_held s ≡ true → is_active s ≡ true
held_active Waiting e = cc
held_active Held e = refl
held_active (Running w) e = cc
held_active Done e = cc

pinned_touched : (plan : Plan) (st : State) (t s b : ℕ) → Calm st → st.pin ≡ None → is_pinned plan (held_too st t) s b ≡ true → touches plan t b ≡ true
pinned_touched plan st t s b calm none pinned = ⊎_elim
    (λ (e : is_pin st.pin s b ≡ true). absurd (let h : true ≡ false = sym e ∙ ap (λ (p : Option (ℕ × ℕ)). is_pin p s b) none in cc))
    (λ (e : list_any (is_used plan (held_too st t) s b) (range_with_len 1 (tasks plan)) ≡ true).
    let x = any_some (is_used plan (held_too st t) s b) (range_with_len 1 (tasks plan)) e in
    let p = and_parts (is_active (at_one st.tasks t Held x.0)) (eqb (place plan x.0) s && touches plan x.0 b) x.1 in
    let q = and_parts (eqb (place plan x.0) s) (touches plan x.0 b) p.1 in
    ap (λ (y : ℕ). touches plan y b) (sym (active_now st t x.0 calm p.0)) ∙ q.1)
    (or_cases (is_pin st.pin s b) (list_any (is_used plan (held_too st t) s b) (range_with_len 1 (tasks plan))) pinned)

-- the task's charge is all that is reserved then
hold_room : (plan : Plan) (st : State) (r t : ℕ) → IsWellFormed plan → IsSound plan st → st.region ≡ Some r → IsOf plan r t → st.tasks t ≡ Waiting → Calm st → reserved plan (held_too st t) (place plan t) ≤ limit plan (place plan t)
unfolding argument_bytes scratch
hold_room plan st r t well sound open_is of waiting calm =
    let new = held_too st t in
    let s = place plan t in
    let none = no_pin plan st r t sound open_is of (λ done. let h : Waiting ≡ Done = sym waiting ∙ done in cc) in
    let own = total_le (blocks plan) (λ b. when (is_pinned plan new s b) (bytes plan b)) (λ b. when (has_number (task_row plan t).blocks b) (8 * (block_row plan b).size))
    (λ b is. when_le (is_pinned plan new s b) (has_number (task_row plan t).blocks b) (bytes plan b) (pinned_touched plan st t s b calm none)) in
    let listed = total_listed (blocks plan) (λ b. (block_row plan b).size) (task_row plan t).blocks in
    let args : active_bytes plan new s ≤ argument_bytes plan t = total_only (tasks plan) t (argument_bytes plan t) (λ u. when (is_active (new.tasks u) && eqb (place plan u) s) (argument_bytes plan u))
    (λ u is ne. when_false (is_active (new.tasks u) && eqb (place plan u) s) (argument_bytes plan u) (off (is_active (new.tasks u)) (eqb (place plan u) s) (λ on. ne (active_now st t u calm on))))
    (when_at_most (is_active (new.tasks t) && eqb (place plan t) s) (argument_bytes plan t)) in
    let small : scratch_bytes plan new s ≤ scratch plan t = total_only (tasks plan) t (scratch plan t) (λ u. when (is_task_held (new.tasks u) && eqb (place plan u) s) (scratch plan u))
    (λ u is ne. when_false (is_task_held (new.tasks u) && eqb (place plan u) s) (scratch plan u) (off (is_task_held (new.tasks u)) (eqb (place plan u) s) (λ on. ne (active_now st t u calm (held_active (new.tasks u) on)))))
    (when_at_most (is_task_held (new.tasks t) && eqb (place plan t) s) (scratch plan t)) in
    let pin : pin_bytes plan new s ≡ 0 = ap (λ (o : Option ℕ). pin_bytes_in plan o st.pin s) open_is ∙ ap (λ (p : Option (ℕ × ℕ)). pin_bytes_in plan (Some r) p s) none in
    let task = well.tasks t of.0 in
    let charge = task.charge in
    let within = task.within in
    omega (arith, own, listed, args, small, pin, charge, within)
  where
    off : (a c : Bool) → (a ≡ true → ⊥) → (a && c) ≡ false
    off a c h = ap (λ (x : Bool). x && c) (false_from_ne_true a h)

contains_of : (xs : List ℕ) (n : ℕ) → has_number xs n ≡ true → Contains xs n
contains_of [] n has = absurd cc
contains_of (x ∷ xs) n has = ⊎_elim
    (λ (e : eqb x n ≡ true). has_head x n xs (eqb-true x n e))
    (λ (e : has_number xs n ≡ true). has_tail x n xs (contains_of xs n e))
    (or_cases (eqb x n) (has_number xs n) has)

waiting_held : (plan : Plan) (st : State) (r t : ℕ) → IsWellFormed plan → IsSound plan st → st.region ≡ Some r → IsOf plan r t → st.tasks t ≡ Waiting → Calm st → ((j : ℕ) → 1 ≤ j → j < t → IsOf plan r j → st.tasks j ≡ Done) → Led plan st t
waiting_held plan st r t well sound open_is of waiting calm below = (
  Hold t,
  refl,
  record {
    task_is = of.0;
    of_region = open_is ∙ ap Some (sym of.1);
    waiting = waiting;
    deps_done = λ d has.
        let dep = ((well.tasks t of.0).deps d).0 (contains_of (task_row plan t).deps d has) in
        let lt = dep.0.1 in
        let low = dep.0.0 in
        let high = of.0.1 in
        below d low lt ((low, omega (arith, lt, high)), dep.1 ∙ of.1);
    alone = λ u u_is same. calm u;
    room = hold_room plan st r t well sound open_is of waiting calm;
  },
)

-- a Held task is of the open region
held_of : (plan : Plan) (st : State) (r t : ℕ) → IsSound plan st → st.region ≡ Some r → st.tasks t ≡ Held → IsOf plan r t
held_of plan st r t sound open_is held =
    let o = sound.limits.active_open t (ap is_active held) in
    let same : o.0 ≡ r = (let e : Some o.0 ≡ Some r = sym o.1 ∙ open_is in cc) in
    subst (λ (q : ℕ). IsOf plan q t) same o.2

pub leads_on : (plan : Plan) (st : State) (r : ℕ) → IsWellFormed plan → IsSound plan st → SoundProgress plan st → st.region ≡ Some r → IsQuiet st → (AllDone plan st r → ⊥) → SomeLed plan st r
leads_on plan st r well sound able open_is quiet busy = ⊎_elim
    (λ (led : SomeLed plan st r). led)
    (λ (none : (t : ℕ) → IsOneOf (tasks plan) t → is_active (st.tasks t) ≡ false).
    let calm : Calm st = λ x. false_from_ne_true (is_active (st.tasks x)) (λ on. let o = sound.limits.active_open x on in let off = none x o.2.0 in let h : true ≡ false = sym on ∙ off in cc) in
    ⊎_elim
    (λ (led : SomeLed plan st r). led)
    (λ (done : (t : ℕ) → IsOneOf (tasks plan) t → IsOf plan r t → st.tasks t ≡ Done). absurd (busy (λ t of. done t of.0 of)))
    (search_up (tasks plan) (λ t. IsOf plan r t → st.tasks t ≡ Done) (λ t t_is below. ⊎_elim
    (λ (same : (task_row plan t).region ≡ r). next t (t_is, same) calm below (st.tasks t) refl)
    (λ (other : (task_row plan t).region ≡ r → ⊥). inr (λ of. absurd (other of.1)))
    (cases_eq (task_row plan t).region r))))
    (search (tasks plan) (λ t. is_active (st.tasks t) ≡ false) (λ t t_is. held t (st.tasks t) refl))
  where
    held : (t : ℕ) (s : TaskState) → st.tasks t ≡ s → SomeLed plan st r ⊎ (is_active (st.tasks t) ≡ false)
    held t Waiting is = inr (ap is_active is)
    held t Held is = inl (record { task = t; of_region = held_of plan st r t sound open_is is; led = held_leads plan st t well sound able quiet is })
    held t (Running w) is = absurd (no_worker st t w quiet is)
    held t Done is = inr (ap is_active is)

    next : (t : ℕ) → IsOf plan r t → Calm st → ((j : ℕ) → 1 ≤ j → j < t → IsOf plan r j → st.tasks j ≡ Done) → (s : TaskState) → st.tasks t ≡ s → SomeLed plan st r ⊎ (IsOf plan r t → st.tasks t ≡ Done)
    next t of calm below Waiting is = inl (record { task = t; of_region = of; led = waiting_held plan st r t well sound open_is of is calm below })
    next t of calm below Held is = absurd (let h : true ≡ false = sym (ap is_active is) ∙ calm t in cc)
    next t of calm below (Running w) is = absurd (no_worker st t w quiet is)
    next t of calm below Done is = inr (λ _. is)

has_line : (entries : List Entry) (event : Event) → next_event entries ≡ Some event → (line : ℕ) × (next_line entries ≡ Some line)
has_line [] event is = absurd cc
has_line (entry ∷ entries) event is = (entry.line, refl)

-- in an open region there is a next line
pub region_line : (plan : Plan) (st : State) (r : ℕ) → IsSound plan st → st.region ≡ Some r → (line : ℕ) × (next_line (left plan st.progress) ≡ Some line)
region_line plan st r sound open_is = has_line (left plan st.progress) (Close r) (sound.lives.open_next r open_is)

-- with it, an event is an entry
with_line : (plan : Plan) (st : State) (r task : ℕ) → IsSound plan st → st.region ≡ Some r → Led plan st task → CanLeadOn plan st task
with_line plan st r task sound open_is led =
    let line = region_line plan st r sound open_is in
    (record { line = line.0; event = led.0 }, led.1, (line.1, led.2))

pub leads_tasks_on : (plan : Plan) (st : State) → IsWellFormed plan → IsSound plan st → SoundProgress plan st → LeadsTasksOn plan st
leads_tasks_on plan st well sound able = record {
  each_held = λ r task open_is quiet held. with_line plan st r task sound open_is (held_leads plan st task well sound able quiet held);
  some = λ r open_is quiet busy.
      let led = leads_on plan st r well sound able open_is quiet busy in
      (led.task, led.of_region, with_line plan st r led.task sound open_is led.led);
}
