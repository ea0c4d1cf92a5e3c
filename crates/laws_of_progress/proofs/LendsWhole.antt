-- Of a copy that is lent the task is Held, its own copy is Here, and something of it is needed.
use Rattle.std.proofs.Common.{◌≡◌, ◌⊎◌, ℕ, zero, suc, ◌+◌, ◌-◌, ◌<◌, Bool, true, false, cond, ◌||◌, ◌&&◌, eqb, List, length, get_or, Option, Some, None, refl, ap, sym, ◌∙◌, subst, ⊎_elim, arith}
use Rattle.std.specs.Prelude.{not, slice_index}
use Rattle.std.specs.List.{list_any, range_with_len}
use Rattle.std.proofs.lemmas.Bool.{and_from, and_parts, cases_Bool, cases_order, eq-eqb, eqb-true, ne_eqb, or_cases, or_left, or_right}
use Rattle.std.proofs.lemmas.List.Folds.{list_any_at}
use Rattle.std.proofs.lemmas.List.FromFn.{get_or-range_with_len, length-range_with_len}
use Rattle.dd_blocks.specs.declared.plan.Plan.{Plan}
use Rattle.dd_blocks.specs.WellFormed.{IsWellFormed}
use Rattle.dd_blocks.specs.Elements.{Element}
use Rattle.dd_machine.specs.declared.copy_state.CopyState.{CopyState}
use Rattle.dd_machine.specs.declared.copy_state.CopyState.TheVariants as state
use Rattle.dd_machine.specs.declared.event.Event.{Event}
use Rattle.dd_machine.specs.declared.event.Event.TheVariants.{Ask, Rest, Put, Shift, Free, Begin, Hold, Pick, Gone, Make, Call, Come, Lend, Copy, Claim, Finish, Back, Close}
use Rattle.dd_machine.specs.declared.task_state.TaskState.TheVariants.{Waiting, Held, Running, Done}
use Rattle.dd_machine.specs.Bytes.{is_pinned, is_used}
use Rattle.dd_machine.specs.Effects.{after, after_copy, copy_where, finish_copy, fresh, given_back, in_state}
use Rattle.dd_machine.specs.Legal.{AllDone, May, MayCopy, MayFetch}
use Rattle.dd_machine.specs.Needed.{is_current_at, is_needed, needed, own_space, source, source_in, version}
use Rattle.dd_machine.specs.Orderly.{IsOrderly}
use Rattle.dd_machine.specs.Sound.{IsSound}
use Rattle.dd_machine.specs.SoundLimits.{IsOpen}
use Rattle.dd_machine.specs.States as states
use Rattle.dd_machine.specs.States.{State, at_copy, at_one}
use Rattle.dd_machine.specs.Tests.{Has, is_active, is_coming, is_here, is_in_state, is_leaving, is_lent, is_out, is_pin, is_waiting, versions_of}
use Rattle.dd_machine.specs.Words.{element, place, reads, size, tasks, touches, writes}
use Rattle.dd_machine.proofs.ChangesLemmas.{at_copy_other, at_copy_same, at_copy_tells, at_one_other}
use Rattle.dd_machine.proofs.TestsLemmas.{in_state_there, leaving_here, none_in_state, not_two, out_here, passed_copied, passed_other, passes_any, rested_at, running_by, same_at, state_finished, state_where, versions_in_state}
use Rattle.laws_of_lives.proofs.ElementsLemmas.{touches_used}
use Rattle.laws_of_limits.proofs.OrdersKept.{here_copied, victim_there}
use Rattle.laws_of_limits.proofs.PinsKept.{out_or_in}
use Rattle.laws_of_limits.proofs.WithinKept.{lent_given}
use Rattle.laws_of_versions.proofs.ConflictLemmas.{not_later, read_write, use_of_read, write_read}
use Rattle.laws_of_versions.proofs.WhereLemmas.{copied_version, finished_version}
use Rattle.dd_machine.specs.SoundProgress.{SoundProgress, IsLentTo}
use Rattle.dd_machine.proofs.RangesLemmas.{kept_one}

-- lent to this number
abbrev pub to : ℕ → CopyState → Bool
to t = is_lent (λ u. eqb u t)

lent_any : (t : ℕ) (c : Option states.Copy) → is_in_state (to t) c ≡ true → is_in_state (is_lent (λ u. true)) c ≡ true
lent_any t None e = cc
lent_any t (Some c) e = by c.state e
  where
    by : (s : CopyState) → to t s ≡ true → is_lent (λ u. true) s ≡ true
    by state.Here e = cc
    by state.Leaving e = cc
    by state.Out e = cc
    by state.Coming e = cc
    by (state.Lent u) e = refl

pub lent_here : (p : ℕ → Bool) (s : CopyState) → is_lent p s ≡ true → is_here s ≡ true → ⊥
lent_here p state.Here a b = cc
lent_here p state.Leaving a b = cc
lent_here p state.Out a b = cc
lent_here p state.Coming a b = cc
lent_here p (state.Lent t) a b = cc

lend_open : (plan : Plan) (st : State) (s b t : ℕ) → IsSound plan st → Has st s b (to t) → IsOpen st
lend_open plan st s b t sound lent = sound.limits.lends_open s b (lent_any t (st.copies s b) lent)

outside_lend : {A : Type 0} (plan : Plan) (st : State) (s b t : ℕ) → IsSound plan st → st.region ≡ None → Has st s b (to t) → A
outside_lend plan st s b t sound out lent = out_or_in out (lend_open plan st s b t sound lent).1

-- with a lend to a task not all is done
lend_busy : {A : Type 0} (plan : Plan) (st : State) (s b t : ℕ) → IsSound plan st → SoundProgress plan st → Has st s b (to (suc t)) → ((r : ℕ) → st.region ≡ Some r → AllDone plan st r) → A
lend_busy plan st s b t sound able lent done =
    let held = (able.lends_held s b t lent).0 in
    let o = sound.limits.active_open (suc t) (ap is_active held) in
    let d : st.tasks (suc t) ≡ Done = done o.0 o.1 (suc t) o.2 in
    absurd (let h : Held ≡ Done = sym held ∙ d in cc)

-- ---- what is needed stays needed

-- the versions in the own copy at the place are as before
needed_still : (plan : Plan) (st : State) (copies : ℕ → ℕ → Option states.Copy) (task block source_of i : ℕ)
    → slice_index (versions_of (copies (own_space plan st task block) block)) i ≡ version st (own_space plan st task block) block i
    → is_needed plan st task block source_of i ≡ true → is_needed plan (record st { copies = copies }) task block source_of i ≡ true
needed_still plan st copies task block source_of i same old =
    ap (λ (v : ℕ). (eqb task 0 || reads plan task (element plan block i)) && (not (eqb v (st.current (element plan block i))) && eqb (source plan st block i) source_of)) same ∙ old

lent_still : (plan : Plan) (st : State) (copies : ℕ → ℕ → Option states.Copy) (task block source_of : ℕ) → versions_of (copies (own_space plan st task block) block) ≡ versions_of (st.copies (own_space plan st task block) block)
    → IsLentTo plan st task block source_of → IsLentTo plan (record st { copies = copies }) task block source_of
lent_still plan st copies task block source_of same old =
    (old.0, (old.1.0, old.1.1, needed_still plan st copies task block source_of old.1.0 (ap (λ (vs : List ℕ). slice_index vs old.1.0) same) old.1.2))

abbrev pub LendsHeld : Plan → State → Type 0
LendsHeld plan st = (s b t : ℕ) → Has st s b (to (suc t)) → IsLentTo plan st (suc t) b s

held_state : (plan : Plan) (st : State) (space block : ℕ) (new : CopyState) → SoundProgress plan st → ((t : ℕ) → to t new ≡ false) → LendsHeld plan (record st { copies = at_copy st.copies space block (in_state new (st.copies space block)) })
held_state plan st space block new able none s b t lent =
    let copy = in_state new (st.copies space block) in
    lent_still plan st (at_copy st.copies space block copy) (suc t) b s
    (same_at versions_of st.copies space block copy (versions_in_state new (st.copies space block)) (own_space plan st (suc t) b) b)
    (able.lends_held s b t (passed_other (to (suc t)) st.copies space block copy (none_in_state (to (suc t)) new (st.copies space block) (none (suc t))) s b lent))

-- what a Copy or Back leaves at the space from which it took isn't lent
gives_back : (plan : Plan) (st : State) (task block source_of count : ℕ) (p : ℕ → Bool) → MayCopy plan st task block source_of count → is_in_state (is_lent p) ((after_copy plan st task block source_of count).copies source_of block) ≡ true → ⊥
gives_back plan st task block source_of count p may lent = ⊎_elim
    (λ (e : (source_of ≡ own) × (block ≡ block) × (at_copy lender own block copy source_of block ≡ copy)).
    not_two (is_lent p) is_here (lent_here p) (st.copies own block)
    (sym (state_where (is_needed plan st task block source_of) (λ i. st.current (element plan block i)) (is_lent p) (st.copies own block)) ∙ ap (is_in_state (is_lent p)) (sym e.2) ∙ lent) may.here)
    (λ (e : (source_of ≡ own → block ≡ block → ⊥) × (at_copy lender own block copy source_of block ≡ lender source_of block)).
    let h : true ≡ false = sym lent ∙ ap (is_in_state (is_lent p)) e.1 ∙ ap (is_in_state (is_lent p)) (at_copy_same st.copies source_of block (given_back (st.copies source_of block))) ∙ lent_given p (st.copies source_of block) in cc)
    (at_copy_tells lender own block copy source_of block)
  where
    own : ℕ
    own = own_space plan st task block

    lender : ℕ → ℕ → Option states.Copy
    lender = at_copy st.copies source_of block (given_back (st.copies source_of block))

    copy : Option states.Copy
    copy = copy_where (is_needed plan st task block source_of) (λ i. st.current (element plan block i)) (st.copies own block)

-- what was lent before a Copy or Back
pub lent_before : (plan : Plan) (st : State) (task block source_of count s b : ℕ) (p : ℕ → Bool) → is_in_state (is_lent p) ((after_copy plan st task block source_of count).copies s b) ≡ true → Has st s b (is_lent p)
lent_before plan st task block source_of count s b p lent =
    passed_copied plan st task block source_of count (is_lent p) (λ e. absurd (let h : true ≡ false = sym e ∙ lent_given p (st.copies source_of block) in cc)) s b lent

from_is : (plan : Plan) (st : State) (task block source_of i : ℕ) → is_needed plan st task block source_of i ≡ true → source plan st block i ≡ source_of
from_is plan st task block source_of i need =
    let p = and_parts (eqb task 0 || reads plan task (element plan block i)) (not (is_current_at plan st (own_space plan st task block) block i) && eqb (source plan st block i) source_of) need in
    let q = and_parts (not (is_current_at plan st (own_space plan st task block) block i)) (eqb (source plan st block i) source_of) p.1 in
    eqb-true (source plan st block i) source_of q.1

held_copied : (plan : Plan) (st : State) (task block source_of count : ℕ) → SoundProgress plan st → MayCopy plan st task block source_of count → LendsHeld plan (after_copy plan st task block source_of count)
held_copied plan st task block source_of count able may s b t lent =
    let old = able.lends_held s b t (lent_before plan st task block source_of count s b (λ u. eqb u (suc t)) lent) in
    let i = old.1.0 in
    let own = own_space plan st (suc t) b in
    let same : version (after_copy plan st task block source_of count) own b i ≡ version st own b i = ⊎_elim
    (λ (e : version (after_copy plan st task block source_of count) own b i ≡ version st own b i). e)
    (λ (e : (own ≡ own_space plan st task block) × (b ≡ block) × (is_needed plan st task block source_of i ≡ true) × (version (after_copy plan st task block source_of count) own b i ≡ st.current (element plan b i))).
    absurd (
    let at : source plan st block i ≡ source_of = from_is plan st task block source_of i e.2 in
    let at' : source plan st b i ≡ s = from_is plan st (suc t) b s i old.1.2 in
    let here : s ≡ source_of = sym at' ∙ ap (λ (y : ℕ). source plan st y i) e.1 ∙ at in
    gives_back plan st task block source_of count (λ u. eqb u (suc t)) may
    (subst (λ (x : ℕ). is_in_state (to (suc t)) ((after_copy plan st task block source_of count).copies x block) ≡ true) here
    (subst (λ (y : ℕ). is_in_state (to (suc t)) ((after_copy plan st task block source_of count).copies s y) ≡ true) e.1 lent))))
    (copied_version plan st task block source_of count own b i) in
    (old.0, (i, old.1.1, needed_still plan st (after_copy plan st task block source_of count).copies (suc t) b s i same old.1.2))

-- the element that is needed is read
need_reads : (plan : Plan) (st : State) (t block source_of i : ℕ) → is_needed plan st (suc t) block source_of i ≡ true → reads plan (suc t) (element plan block i) ≡ true
need_reads plan st t block source_of i need =
    let p = and_parts (eqb (suc t) 0 || reads plan (suc t) (element plan block i)) (not (is_current_at plan st (own_space plan st (suc t) block) block i) && eqb (source plan st block i) source_of) need in
    ⊎_elim
    (λ (e : eqb (suc t) 0 ≡ true). absurd (let z : suc t ≡ 0 = eqb-true (suc t) 0 e in omega (arith, z)))
    (λ (e : reads plan (suc t) (element plan block i) ≡ true). e)
    (or_cases (eqb (suc t) 0) (reads plan (suc t) (element plan block i)) p.0)

-- a task that finishes writes nothing that a Held one reads
unwritten : (plan : Plan) (st : State) (task worker t : ℕ) (e : Element) → IsWellFormed plan → IsOrderly plan → IsSound plan st → st.tasks task ≡ Running worker → st.tasks t ≡ Held → reads plan t e ≡ true → writes plan task e ≡ true → ⊥
unwritten plan st task worker t e well order sound running held read wrote = ⊎_elim
    (λ (same : task ≡ t). let h : Running worker ≡ Held = sym running ∙ ap st.tasks same ∙ held in cc)
    (λ (ne : (task < t) ⊎ (t < task)). ⊎_elim
    (λ (lt : task < t). not_later plan st task t well order sound (ap is_active running) (ap is_waiting held) (sound.limits.active_open t (ap is_active held)).2.0 lt (write_read plan task t e wrote read))
    (λ (lt : t < task). not_later plan st t task well order sound (ap is_active held) (ap is_waiting running) (sound.limits.active_open task (ap is_active running)).2.0 lt (read_write plan t task e read wrote))
    ne)
    (cases_order task t)

held_finished : (plan : Plan) (st : State) (task worker : ℕ) → IsWellFormed plan → IsOrderly plan → IsSound plan st → SoundProgress plan st → st.tasks task ≡ Running worker → LendsHeld plan (after plan st (Finish task))
held_finished plan st task worker well order sound able running s b t lent =
    let old = able.lends_held s b t (sym (state_finished plan st task s b (to (suc t))) ∙ lent) in
    let i = old.1.0 in
    let e = element plan b i in
    let own = own_space plan st (suc t) b in
    let off : writes plan task e ≡ false = ⊎_elim
    (λ (on : writes plan task e ≡ true). absurd (unwritten plan st task worker (suc t) e well order sound running old.0 (need_reads plan st t b s i old.1.2) on))
    (λ (off : writes plan task e ≡ false). off)
    (cases_Bool (writes plan task e)) in
    let same : slice_index (versions_of (finish_copy plan st task own b)) i ≡ version st own b i = ⊎_elim
    (λ (h : slice_index (versions_of (finish_copy plan st task own b)) i ≡ version st own b i). h)
    (λ (h : (writes plan task e ≡ true) × (slice_index (versions_of (finish_copy plan st task own b)) i ≡ task)). absurd (let x : true ≡ false = sym h.0 ∙ off in cc))
    (finished_version plan st task own b i) in
    let now : cond (writes plan task e) task (st.current e) ≡ st.current e = ap (λ (x : Bool). cond x task (st.current e)) off in
    let other : suc t ≡ task → ⊥ = λ eq. let h : Held ≡ Running worker = sym old.0 ∙ ap st.tasks eq ∙ running in cc in (
      at_one_other st.tasks task Done (suc t) other ∙ old.0,
      (
        i,
        old.1.1,
        ap (λ (v : ℕ). (eqb (suc t) 0 || reads plan (suc t) e) && (not (eqb v (cond (writes plan task e) task (st.current e))) && eqb (source_in plan st.region (st.homes b) (cond (writes plan task e) task (st.current e))) s)) same
            ∙ ap (λ (c : ℕ). (eqb (suc t) 0 || reads plan (suc t) e) && (not (eqb (version st own b i) c) && eqb (source_in plan st.region (st.homes b) c) s)) now
            ∙ old.1.2,
      ),
    )

pub keeps_lends_held : (plan : Plan) (st : State) (event : Event) → IsWellFormed plan → IsOrderly plan → IsSound plan st → SoundProgress plan st → May plan st event → LendsHeld plan (after plan st event)
keeps_lends_held plan st (Ask space block) well order sound able may = able.lends_held
keeps_lends_held plan st Rest well order sound able may = subst (LendsHeld plan) (sym (rested_at plan st may)) able.lends_held
keeps_lends_held plan st (Put block) well order sound able may = λ s b t lent.
    outside_lend plan st s b (suc t) sound may.outside (passed_other (to (suc t)) st.copies (st.homes block) block (fresh plan block 0) refl s b lent)
keeps_lends_held plan st (Shift block space) well order sound able may = λ s b t lent.
    outside_lend plan st s b (suc t) sound may.outside (passed_other (to (suc t)) st.copies (st.homes block) block None refl s b
    (passed_other (to (suc t)) (at_copy st.copies (st.homes block) block None) space block (in_state state.Here (st.copies (st.homes block) block)) (none_in_state (to (suc t)) state.Here (st.copies (st.homes block) block) refl) s b lent))
keeps_lends_held plan st (Free space block) well order sound able may = λ s b t lent. lend_busy plan st s b t sound able (passed_other (to (suc t)) st.copies space block None refl s b lent) may.all_done
keeps_lends_held plan st (Begin r) well order sound able may = λ s b t lent. outside_lend plan st s b (suc t) sound may.outside lent
keeps_lends_held plan st (Close r) well order sound able may = λ s b t lent. lend_busy plan st s b t sound able lent
    (λ q open_is. subst (AllDone plan st) (let h : Some r ≡ Some q = sym may.open_is ∙ open_is in same_region r q h) may.all_done)
  where
    same_region : (r s : ℕ) → Some r ≡ Some s → r ≡ s
    same_region r s e = cc
keeps_lends_held plan st (Hold task) well order sound able may = λ s b t lent.
    let old = able.lends_held s b t lent in
    (at_one_other st.tasks task Held (suc t) (λ eq. let h : Held ≡ Waiting = sym old.0 ∙ ap st.tasks eq ∙ may.waiting in cc) ∙ old.0, old.1)
keeps_lends_held plan st (Pick space block) well order sound able may = held_state plan st space block state.Leaving able (λ t. refl)
keeps_lends_held plan st (Gone space block) well order sound able may = held_state plan st space block state.Out able (λ t. refl)
keeps_lends_held plan st (Make task block) well order sound able may = λ s b t lent.
    let old_lent = passed_other (to (suc t)) st.copies (place plan task) block (fresh plan block states.blank) refl s b lent in
    let here = able.lends_here s b (suc t) old_lent in
    let own = own_space plan st (suc t) b in
    lent_still plan st (at_copy st.copies (place plan task) block (fresh plan block states.blank)) (suc t) b s
    (ap versions_of (at_copy_other st.copies (place plan task) block (fresh plan block states.blank) own b
    (λ same other. let h : true ≡ false = sym here ∙ ap (λ (x : ℕ). is_in_state is_here (st.copies x b)) same ∙ ap (λ (y : ℕ). is_in_state is_here (st.copies (place plan task) y)) other ∙ ap (is_in_state is_here) may.absent in cc)))
    (able.lends_held s b t old_lent)
keeps_lends_held plan st (Call space block) well order sound able may = held_state plan st space block state.Coming able (λ t. refl)
keeps_lends_held plan st (Come space block) well order sound able may = held_state plan st space block state.Here able (λ t. refl)
keeps_lends_held plan st (Lend task block source) well order sound able may = λ s b t lent.
    lent_still plan st (at_copy st.copies source block copy) (suc t) b s
    (same_at versions_of st.copies source block copy (versions_in_state (state.Lent task) (st.copies source block)) (own_space plan st (suc t) b) b)
    (⊎_elim
    (λ (e : (s ≡ source) × (b ≡ block) × (at_copy st.copies source block copy s b ≡ copy)).
    let is : task ≡ suc t = lent_is (suc t) (st.copies source block) (ap (is_in_state (to (suc t))) (sym e.2) ∙ lent) in
    let asked : MayFetch st (suc t) block = subst (λ (x : ℕ). MayFetch st x block) is may.asked in
    let some : 0 < length (needed plan st (suc t) block source) = subst (λ (x : ℕ). 0 < length (needed plan st x block source)) is may.some_needed in
    let k = kept_one (is_needed plan st (suc t) block source) 0 (size plan block) some in
    let new : IsLentTo plan st (suc t) block source = (asked, (k.0, omega (arith, k.2), k.3)) in
    subst (λ (x : ℕ). IsLentTo plan st (suc t) b x) (sym e.0) (subst (λ (y : ℕ). IsLentTo plan st (suc t) y source) (sym e.1) new))
    (λ (e : (s ≡ source → b ≡ block → ⊥) × (at_copy st.copies source block copy s b ≡ st.copies s b)). able.lends_held s b t (ap (is_in_state (to (suc t))) (sym e.1) ∙ lent))
    (at_copy_tells st.copies source block copy s b))
  where
    copy : Option states.Copy
    copy = in_state (state.Lent task) (st.copies source block)

    lent_is : (n : ℕ) (c : Option states.Copy) → is_in_state (to n) (in_state (state.Lent task) c) ≡ true → task ≡ n
    lent_is n None e = absurd cc
    lent_is n (Some c) e = eqb-true task n e
keeps_lends_held plan st (Copy task block source count) well order sound able may = held_copied plan st task block source count able may.1
keeps_lends_held plan st (Claim task worker) well order sound able may = λ s b t lent.
    let old = able.lends_held s b t lent in
    (at_one_other st.tasks task (Running worker) (suc t) (λ eq. let h : true ≡ false = sym lent ∙ ap (λ (x : ℕ). is_in_state (to x) (st.copies s b)) eq ∙ may.no_lend s b in cc) ∙ old.0, old.1)
keeps_lends_held plan st (Finish task) well order sound able may = held_finished plan st task (running_by (st.tasks task) may).0 well order sound able (running_by (st.tasks task) may).1
keeps_lends_held plan st (Back block source count) well order sound able may = held_copied plan st 0 block source count able may

-- ---- the own copy is Here

abbrev pub LendsHere : Plan → State → Type 0
LendsHere plan st = (s b t : ℕ) → Has st s b (to t) → Has st (own_space plan st t b) b is_here

-- a task at work pins the blocks that it touches
pub task_pins : (plan : Plan) (st : State) (t block : ℕ) → IsSound plan st → is_active (st.tasks t) ≡ true → touches plan t block ≡ true → is_pinned plan st (place plan t) block ≡ true
task_pins plan st t block sound on touched =
    let o = sound.limits.active_open t on in
    or_right (is_pin st.pin (place plan t) block) (list_any (is_used plan st (place plan t) block) (range_with_len 1 (tasks plan)))
    (list_any_at (is_used plan st (place plan t) block) (range_with_len 1 (tasks plan)) (t - 1) t (omega (arith, length-range_with_len 1 (tasks plan), o.2.0.0, o.2.0.1))
    (let at : get_or (range_with_len 1 (tasks plan)) (t - 1) t ≡ t = get_or-range_with_len 1 (tasks plan) (t - 1) t (omega (arith, o.2.0.0, o.2.0.1)) ∙ (let e : 1 + (t - 1) ≡ t = omega (arith, o.2.0.0) in e) in
    ap (is_used plan st (place plan t) block) at
    ∙ and_from (is_active (st.tasks t)) (eqb (place plan t) (place plan t) && touches plan t block) on (and_from (eqb (place plan t) (place plan t)) (touches plan t block) (eq-eqb (place plan t) (place plan t) refl) touched)))

pub own_of_task : (plan : Plan) (st : State) (t b : ℕ) → own_space plan st (suc t) b ≡ place plan (suc t)
own_of_task plan st t b = ap (λ (x : Bool). cond x (st.homes b) (place plan (suc t))) (ne_eqb (suc t) 0 (λ e. omega (arith, e)))

-- the own copy of a lend is pinned
own_pinned : (plan : Plan) (st : State) (s b t : ℕ) → IsWellFormed plan → IsSound plan st → SoundProgress plan st → Has st s b (to t) → is_pinned plan st (own_space plan st t b) b ≡ true
own_pinned plan st s b zero well sound able lent =
    let pin = (sound.limits.lends_pinned s b lent).0 in
    or_left (is_pin st.pin (st.homes b) b) (list_any (is_used plan st (st.homes b) b) (range_with_len 1 (tasks plan)))
    (ap (λ (p : Option (ℕ × ℕ)). is_pin p (st.homes b) b) pin ∙ and_from (eqb (st.homes b) (st.homes b)) (eqb b b) (eq-eqb (st.homes b) (st.homes b) refl) (eq-eqb b b refl))
own_pinned plan st s b (suc t) well sound able lent =
    let l = able.lends_held s b t lent in
    let on : is_active (st.tasks (suc t)) ≡ true = ap is_active l.0 in
    let o = sound.limits.active_open (suc t) on in
    let touched = touches_used plan well (suc t) b l.1.0 o.2.0 l.1.1 (use_of_read plan (suc t) (element plan b l.1.0) (need_reads plan st t b s l.1.0 l.1.2)) in
    subst (λ (x : ℕ). is_pinned plan st x b ≡ true) (sym (own_of_task plan st t b)) (task_pins plan st (suc t) b sound on touched)

-- the own copy isn't the one that changes
here_other : (plan : Plan) (st : State) (space block : ℕ) (copy : Option states.Copy) (x b : ℕ) → (Has st space block is_here → ⊥) → Has st x b is_here → is_in_state is_here (at_copy st.copies space block copy x b) ≡ true
here_other plan st space block copy x b away here =
    ap (is_in_state is_here) (at_copy_other st.copies space block copy x b (λ same other. away (subst (λ (x : ℕ). Has st x block is_here) same (subst (λ (y : ℕ). Has st x y is_here) other here)))) ∙ here

here_state : (plan : Plan) (st : State) (space block : ℕ) (new : CopyState) → SoundProgress plan st → ((t : ℕ) → to t new ≡ false) → (Has st space block is_here → ⊥)
    → LendsHere plan (record st { copies = at_copy st.copies space block (in_state new (st.copies space block)) })
here_state plan st space block new able none away s b t lent =
    let copy = in_state new (st.copies space block) in
    here_other plan st space block copy (own_space plan st t b) b away
    (able.lends_here s b t (passed_other (to t) st.copies space block copy (none_in_state (to t) new (st.copies space block) (none t)) s b lent))

now_here : (copies : ℕ → ℕ → Option states.Copy) (space block : ℕ) (copy : Option states.Copy) (x b : ℕ) → is_in_state is_here copy ≡ true → is_in_state is_here (copies x b) ≡ true → is_in_state is_here (at_copy copies space block copy x b) ≡ true
now_here copies space block copy x b new old = ⊎_elim
    (λ (e : (x ≡ space) × (b ≡ block) × (at_copy copies space block copy x b ≡ copy)). ap (is_in_state is_here) e.2 ∙ new)
    (λ (e : (x ≡ space → b ≡ block → ⊥) × (at_copy copies space block copy x b ≡ copies x b)). ap (is_in_state is_here) e.1 ∙ old)
    (at_copy_tells copies space block copy x b)

pub keeps_lends_here : (plan : Plan) (st : State) (event : Event) → IsWellFormed plan → IsSound plan st → SoundProgress plan st → May plan st event → LendsHere plan (after plan st event)
keeps_lends_here plan st (Ask space block) well sound able may = able.lends_here
keeps_lends_here plan st Rest well sound able may = subst (LendsHere plan) (sym (rested_at plan st may)) able.lends_here
keeps_lends_here plan st (Put block) well sound able may = λ s b t lent.
    outside_lend plan st s b t sound may.outside (passed_other (to t) st.copies (st.homes block) block (fresh plan block 0) refl s b lent)
keeps_lends_here plan st (Shift block space) well sound able may = λ s b t lent.
    outside_lend plan st s b t sound may.outside (passed_other (to t) st.copies (st.homes block) block None refl s b
    (passed_other (to t) (at_copy st.copies (st.homes block) block None) space block (in_state state.Here (st.copies (st.homes block) block)) (none_in_state (to t) state.Here (st.copies (st.homes block) block) refl) s b lent))
keeps_lends_here plan st (Free space block) well sound able may = λ s b t lent. by t s b (passed_other (to t) st.copies space block None refl s b lent)
  where
    by : (t s b : ℕ) → Has st s b (to t) → is_in_state is_here (at_copy st.copies space block None (own_space plan st t b) b) ≡ true
    by zero s b lent = let o = lend_open plan st s b 0 sound lent in out_or_in (may.no_pin o.0 o.1) (sound.limits.lends_pinned s b lent).0
    by (suc t) s b lent = lend_busy plan st s b t sound able lent may.all_done
keeps_lends_here plan st (Begin r) well sound able may = able.lends_here
keeps_lends_here plan st (Close r) well sound able may = able.lends_here
keeps_lends_here plan st (Hold task) well sound able may = able.lends_here
keeps_lends_here plan st (Pick space block) well sound able may = λ s b t lent.
    let copy = in_state state.Leaving (st.copies space block) in
    let old = passed_other (to t) st.copies space block copy (none_in_state (to t) state.Leaving (st.copies space block) refl) s b lent in
    let pinned = own_pinned plan st s b t well sound able old in
    let own = own_space plan st t b in
    ap (is_in_state is_here) (at_copy_other st.copies space block copy own b (λ same other.
    let h : true ≡ false = sym pinned ∙ ap (λ (x : ℕ). is_pinned plan st x b) same ∙ ap (is_pinned plan st space) other ∙ (victim_there plan st space block may.is_victim).1 in cc))
    ∙ able.lends_here s b t old
keeps_lends_here plan st (Gone space block) well sound able may = here_state plan st space block state.Out able (λ t. refl) (λ here. not_two is_leaving is_here leaving_here (st.copies space block) may.leaving here)
keeps_lends_here plan st (Make task block) well sound able may = λ s b t lent.
    now_here st.copies (place plan task) block (fresh plan block states.blank) (own_space plan st t b) b refl
    (able.lends_here s b t (passed_other (to t) st.copies (place plan task) block (fresh plan block states.blank) refl s b lent))
keeps_lends_here plan st (Call space block) well sound able may = here_state plan st space block state.Coming able (λ t. refl) (λ here. not_two is_out is_here out_here (st.copies space block) may.out here)
keeps_lends_here plan st (Come space block) well sound able may = λ s b t lent.
    let copy = in_state state.Here (st.copies space block) in
    now_here st.copies space block copy (own_space plan st t b) b (in_state_there is_here state.Here (st.copies space block) refl (passes_any is_coming (st.copies space block) may.coming))
    (able.lends_here s b t (passed_other (to t) st.copies space block copy (none_in_state (to t) state.Here (st.copies space block) refl) s b lent))
keeps_lends_here plan st (Lend task block source) well sound able may = λ s b t lent.
    here_other plan st source block copy (own_space plan st t b) b (λ here. not_two is_out is_here out_here (st.copies source block) may.out here)
    (⊎_elim
    (λ (e : (s ≡ source) × (b ≡ block) × (at_copy st.copies source block copy s b ≡ copy)).
    let is : task ≡ t = lent_is t (st.copies source block) (ap (is_in_state (to t)) (sym e.2) ∙ lent) in
    subst (λ (x : ℕ). Has st (own_space plan st x b) b is_here) is (subst (λ (y : ℕ). Has st (own_space plan st task y) y is_here) (sym e.1) may.here))
    (λ (e : (s ≡ source → b ≡ block → ⊥) × (at_copy st.copies source block copy s b ≡ st.copies s b)). able.lends_here s b t (ap (is_in_state (to t)) (sym e.1) ∙ lent))
    (at_copy_tells st.copies source block copy s b))
  where
    copy : Option states.Copy
    copy = in_state (state.Lent task) (st.copies source block)

    lent_is : (n : ℕ) (c : Option states.Copy) → is_in_state (to n) (in_state (state.Lent task) c) ≡ true → task ≡ n
    lent_is n None e = absurd cc
    lent_is n (Some c) e = eqb-true task n e
keeps_lends_here plan st (Copy task block source count) well sound able may = λ s b t lent.
    here_copied plan st task block source count (own_space plan st t b) b ∙ able.lends_here s b t (lent_before plan st task block source count s b (λ u. eqb u t) lent)
keeps_lends_here plan st (Claim task worker) well sound able may = able.lends_here
keeps_lends_here plan st (Finish task) well sound able may = λ s b t lent.
    state_finished plan st task (own_space plan st t b) b is_here ∙ able.lends_here s b t (sym (state_finished plan st task s b (to t)) ∙ lent)
keeps_lends_here plan st (Back block source count) well sound able may = λ s b t lent.
    here_copied plan st 0 block source count (own_space plan st t b) b ∙ able.lends_here s b t (lent_before plan st 0 block source count s b (λ u. eqb u t) lent)
