-- In an open region the source of each element of a live block has the current version.
use Rattle.std.proofs.Common.{◌≡◌, ◌⊎◌, ℕ, ◌<◌, Bool, true, false, cond, ◌&&◌, eqb, leb, List, length, Option, Some, None, refl, ap, sym, ◌∙◌, subst, inl, inr, ⊎_elim, arith}
use Rattle.std.specs.Prelude.{slice_index}
use Rattle.std.proofs.lemmas.Bool.{and_from, and_parts, cases_Bool, cases_eq, eq-eqb, eqb-true, le-leb, leb-true}
use Rattle.dd_blocks.specs.WellFormed.{IsWellFormed}
use Rattle.dd_blocks.specs.Elements.{Element}
use Rattle.dd_machine.specs.Effects.{after_copy, finish_copy}
use Rattle.dd_machine.specs.Legal.{AllDone}
use Rattle.dd_machine.specs.Needed.{is_needed, own_space, source, source_in, version}
use Rattle.dd_machine.specs.Orderly.{IsOrderly}
use Rattle.dd_machine.specs.SoundVersions.{HasCurrent}
use Rattle.dd_blocks.specs.declared.plan.Plan.{Plan}
use Rattle.dd_blocks.specs.Numbered.{task_row}
use Rattle.dd_machine.specs.declared.copy_state.CopyState.{CopyState}
use Rattle.dd_machine.specs.declared.copy_state.CopyState.TheVariants as state
use Rattle.dd_machine.specs.declared.event.Event.{Event}
use Rattle.dd_machine.specs.declared.event.Event.TheVariants.{Ask, Rest, Put, Shift, Free, Begin, Hold, Pick, Gone, Make, Call, Come, Lend, Copy, Claim, Finish, Back, Close}
use Rattle.dd_machine.specs.declared.task_state.TaskState.{TaskState}
use Rattle.dd_machine.specs.declared.task_state.TaskState.TheVariants.{Held, Running, Done}
use Rattle.dd_machine.specs.Effects.{after, fresh, in_state}
use Rattle.dd_machine.specs.Legal.{May}
use Rattle.dd_machine.specs.Sound.{IsSound}
use Rattle.dd_machine.specs.States as states
use Rattle.dd_machine.specs.States.{Progress, State, at_copy, at_one}
use Rattle.dd_machine.specs.Made.{is_live, was_begun}
use Rattle.dd_machine.specs.Owed.{made}
use Rattle.dd_machine.specs.Tests.{Has, is_active, is_any, is_here, is_in_state, is_running, is_waiting, versions_of}
use Rattle.dd_machine.specs.Words.{IsOf, element, place, size, tasks, writes}
use Rattle.dd_machine.proofs.ChangesLemmas.{at_copy_other, at_copy_tells, at_one_other}
use Rattle.dd_machine.proofs.TestsLemmas.{any_copied, any_finished, any_in_state, rested_at, running_by, same_at, versions_in_state}
use Rattle.dd_machine.specs.Words.{is_of}
use Rattle.dd_machine.proofs.TestsLemmas.{current_version, passed_other, passes_any}
use Rattle.laws_of_lives.proofs.ElementsLemmas.{touches_used}
use Rattle.laws_of_lives.proofs.OutsideKept.{not_both}
use Rattle.laws_of_versions.proofs.ConflictLemmas.{use_of_write}
use Rattle.laws_of_versions.proofs.WhereLemmas.{copied_version, finished_hit, finished_version}

abbrev SourceHolds : Plan → State → Type 0
SourceHolds plan st = (r b i : ℕ) → st.region ≡ Some r → Has st (st.homes b) b is_any → i < size plan b
    → HasCurrent plan st (source plan st b i) b i ⊎ (AllDone plan st r × HasCurrent plan st (st.homes b) b i)

-- where copies stay, and versions stay or become current
source_still : (plan : Plan) (st : State) (copies : ℕ → ℕ → Option states.Copy) (ts : ℕ → TaskState) → SourceHolds plan st
    → ((b : ℕ) → is_in_state is_any (copies (st.homes b) b) ≡ true → Has st (st.homes b) b is_any)
    → ((s b i : ℕ) → HasCurrent plan st s b i → HasCurrent plan (record st { copies = copies; tasks = ts }) s b i)
    → ((t : ℕ) → st.tasks t ≡ Done → ts t ≡ Done)
    → SourceHolds plan (record st { copies = copies; tasks = ts })
source_still plan st copies ts old back keep done r b i open_in there lt = ⊎_elim
    (λ (h : HasCurrent plan st (source plan st b i) b i). inl (keep (source plan st b i) b i h))
    (λ (h : AllDone plan st r × HasCurrent plan st (st.homes b) b i). inr ((λ t of. done t (h.0 t of)), keep (st.homes b) b i h.1))
    (old r b i open_in (back b there) lt)

-- one copy changes, but for its versions
source_state : (plan : Plan) (st : State) (space block : ℕ) (new : CopyState) → SourceHolds plan st → SourceHolds plan (record st { copies = at_copy st.copies space block (in_state new (st.copies space block)) })
source_state plan st space block new old = source_still plan st (at_copy st.copies space block copy) st.tasks old
    (λ b there. sym (same_at (is_in_state is_any) st.copies space block copy (any_in_state new (st.copies space block)) (st.homes b) b) ∙ there)
    (λ s b i h. (
      same_at (is_in_state is_any) st.copies space block copy (any_in_state new (st.copies space block)) s b ∙ h.0,
      ap (λ (vs : List ℕ). slice_index vs i) (same_at versions_of st.copies space block copy (versions_in_state new (st.copies space block)) s b) ∙ h.1,
    ))
    (λ t done. done)
  where
    copy : Option states.Copy
    copy = in_state new (st.copies space block)

source_copied : (plan : Plan) (st : State) (task block from count : ℕ) → SourceHolds plan st → SourceHolds plan (after_copy plan st task block from count)
source_copied plan st task block from count old = source_still plan st (after_copy plan st task block from count).copies st.tasks old
    (λ b there. sym (any_copied plan st task block from count (st.homes b) b) ∙ there)
    (λ s b i h. (
      any_copied plan st task block from count s b ∙ h.0,
      ⊎_elim
          (λ (same : version (after_copy plan st task block from count) s b i ≡ version st s b i). same ∙ h.1)
          (λ (new : (s ≡ own_space plan st task block) × (b ≡ block) × (is_needed plan st task block from i ≡ true) × (version (after_copy plan st task block from count) s b i ≡ st.current (element plan b i))). new.3)
          (copied_version plan st task block from count s b i),
    ))
    (λ t done. done)

source_tasks : (plan : Plan) (st : State) (task : ℕ) (new : TaskState) → (st.tasks task ≡ Done → ⊥) → SourceHolds plan st → SourceHolds plan (record st { tasks = at_one st.tasks task new })
source_tasks plan st task new not_done old = source_still plan st st.copies (at_one st.tasks task new) old (λ b there. there) (λ s b i h. h)
    (λ t done. at_one_other st.tasks task new t (λ same. not_done (subst (λ (x : ℕ). st.tasks x ≡ Done) same done)) ∙ done)

-- where every task is done, and the home has the current versions
source_freed : (plan : Plan) (st : State) (space block : ℕ) → SourceHolds plan st → (st.homes block ≡ space → ⊥) → ((r : ℕ) → st.region ≡ Some r → AllDone plan st r)
    → ((r i : ℕ) → st.region ≡ Some r → i < size plan block → HasCurrent plan st (st.homes block) block i) → SourceHolds plan (record st { copies = at_copy st.copies space block None })
source_freed plan st space block old away done home r b i open_in there lt = ⊎_elim
    (λ (e : b ≡ block).
    let h : HasCurrent plan st (st.homes b) b i = subst (λ (x : ℕ). HasCurrent plan st (st.homes x) x i) (sym e) (home r i open_in (subst (λ (x : ℕ). i < size plan x) e lt)) in
    inr (done r open_in, keep (st.homes b) b i (λ same other. away (ap st.homes (sym other) ∙ same)) h))
    (λ (ne : b ≡ block → ⊥). ⊎_elim
    (λ (h : HasCurrent plan st (source plan st b i) b i). inl (keep (source plan st b i) b i (λ same other. ne other) h))
    (λ (h : AllDone plan st r × HasCurrent plan st (st.homes b) b i). inr (h.0, keep (st.homes b) b i (λ same other. ne other) h.1))
    (old r b i open_in (passed_other is_any st.copies space block None refl (st.homes b) b there) lt))
    (cases_eq b block)
  where
    keep : (s b i : ℕ) → (s ≡ space → b ≡ block → ⊥) → HasCurrent plan st s b i → HasCurrent plan (record st { copies = at_copy st.copies space block None }) s b i
    keep s b i ne h = (ap (is_in_state is_any) (at_copy_other st.copies space block None s b ne) ∙ h.0, ap (λ (c : Option states.Copy). slice_index (versions_of c) i) (at_copy_other st.copies space block None s b ne) ∙ h.1)

source_made : (plan : Plan) (st : State) (task block : ℕ) → IsSound plan st → May plan st (Make task block) → SourceHolds plan (after plan st (Make task block))
source_made plan st task block sound may = source_still plan st (at_copy st.copies (place plan task) block copy) st.tasks sound.versions.source_holds
    (λ b there. ⊎_elim
    (λ (e : (st.homes b ≡ place plan task) × (b ≡ block) × (at_copy st.copies (place plan task) block copy (st.homes b) b ≡ copy)). absurd (
    let o = sound.limits.active_open task (ap is_active may.held) in
    let live : is_live (made plan st.progress) block ≡ true = sound.lives.touched_live o.0 task block o.1 o.2 may.touched in
    let h : true ≡ false = sym live ∙ sound.lives.home_live block ∙ ap (λ (x : ℕ). is_in_state is_any (st.copies (st.homes x) block)) (sym e.1) ∙ ap (λ (x : ℕ). is_in_state is_any (st.copies x block)) e.0 ∙ ap (is_in_state is_any) may.absent in
    cc))
    (λ (e : (st.homes b ≡ place plan task → b ≡ block → ⊥) × (at_copy st.copies (place plan task) block copy (st.homes b) b ≡ st.copies (st.homes b) b)). ap (is_in_state is_any) (sym e.1) ∙ there)
    (at_copy_tells st.copies (place plan task) block copy (st.homes b) b))
    (λ s b i h. ⊎_elim
    (λ (e : (s ≡ place plan task) × (b ≡ block) × (at_copy st.copies (place plan task) block copy s b ≡ copy)). absurd (
    let h' : true ≡ false = sym h.0 ∙ ap (λ (x : ℕ). is_in_state is_any (st.copies x b)) e.0 ∙ ap (λ (y : ℕ). is_in_state is_any (st.copies (place plan task) y)) e.1 ∙ ap (is_in_state is_any) may.absent in cc))
    (λ (e : (s ≡ place plan task → b ≡ block → ⊥) × (at_copy st.copies (place plan task) block copy s b ≡ st.copies s b)).
    (ap (is_in_state is_any) e.1 ∙ h.0, ap (λ (c : Option states.Copy). slice_index (versions_of c) i) e.1 ∙ h.1))
    (at_copy_tells st.copies (place plan task) block copy s b))
    (λ t done. done)
  where
    copy : Option states.Copy
    copy = fresh plan block states.blank

is_of_from : (plan : Plan) (r t : ℕ) → IsOf plan r t → is_of plan r t ≡ true
is_of_from plan r t of = and_from (leb 1 t && leb t (tasks plan)) (eqb (task_row plan t).region r) (and_from (leb 1 t) (leb t (tasks plan)) (le-leb 1 t of.0.0) (le-leb t (tasks plan) of.0.1)) (eq-eqb (task_row plan t).region r of.1)

of_from : (plan : Plan) (r t : ℕ) → is_of plan r t ≡ true → IsOf plan r t
of_from plan r t h =
    let p = and_parts (leb 1 t && leb t (tasks plan)) (eqb (task_row plan t).region r) h in
    let q = and_parts (leb 1 t) (leb t (tasks plan)) p.0 in
    ((leb-true 1 t q.0, leb-true t (tasks plan) q.1), eqb-true (task_row plan t).region r p.1)

source_finished : (plan : Plan) (st : State) (task worker : ℕ) → IsWellFormed plan → IsSound plan st → st.tasks task ≡ Running worker → SourceHolds plan (after plan st (Finish task))
source_finished plan st task worker well sound running r b i open_in there lt = inl (by (writes plan task e) refl)
  where
    e : Element
    e = element plan b i

    new : State
    new = after plan st (Finish task)

    old : HasCurrent plan st (source plan st b i) b i
    old = ⊎_elim
        (λ (h : HasCurrent plan st (source plan st b i) b i). h)
        (λ (h : AllDone plan st r × HasCurrent plan st (st.homes b) b i). absurd (
        let o = sound.limits.active_open task (ap is_active running) in
        let same : Some o.0 ≡ Some r = sym o.1 ∙ open_in in
        let done : st.tasks task ≡ Done = h.0 task (subst (λ (x : ℕ). IsOf plan x task) (let k : o.0 ≡ r = cc in k) o.2) in
        let k : Running worker ≡ Done = sym running ∙ done in cc))
        (sound.versions.source_holds r b i open_in (sym (any_finished plan st task (st.homes b) b) ∙ there) lt)

    by : (w : Bool) → writes plan task e ≡ w → HasCurrent plan new (source plan new b i) b i
    by true is =
        let o = sound.limits.active_open task (ap is_active running) in
        let same : Some o.0 ≡ Some r = sym o.1 ∙ open_in in
        let of : IsOf plan r task = subst (λ (x : ℕ). IsOf plan x task) (let k : o.0 ≡ r = cc in k) o.2 in
        let now : new.current e ≡ task = ap (λ (t : Bool). cond t task (st.current e)) is in
        let from : source plan new b i ≡ place plan task =
        ap (source_in plan st.region (st.homes b)) now ∙ ap (λ (o : Option ℕ). source_in plan o (st.homes b) task) open_in ∙ ap (λ (t : Bool). cond t (place plan task) (st.homes b)) (is_of_from plan r task of) in
        let touched = touches_used plan well task b i of.0 lt (use_of_write plan task e is) in
        let here : Has st (place plan task) b is_any = passes_any is_here (st.copies (place plan task) b) (sound.limits.running_here task b (ap is_running running) touched) in
        let long : i < length (versions_of (st.copies (place plan task) b)) = let z = sound.versions.sized (place plan task) b here in omega (arith, z, lt) in
        subst (λ (s : ℕ). HasCurrent plan new s b i) (sym from) (any_finished plan st task (place plan task) b ∙ here, finished_hit plan st task b i is long ∙ sym now)
    by false is =
        let now : new.current e ≡ st.current e = ap (λ (t : Bool). cond t task (st.current e)) is in
        let from : source plan new b i ≡ source plan st b i = ap (source_in plan st.region (st.homes b)) now in
        let there' = any_finished plan st task (source plan st b i) b ∙ old.0 in
        let v : version new (source plan st b i) b i ≡ version st (source plan st b i) b i = ⊎_elim
        (λ (h : slice_index (versions_of (finish_copy plan st task (source plan st b i) b)) i ≡ version st (source plan st b i) b i). h)
        (λ (h : (writes plan task e ≡ true) × (slice_index (versions_of (finish_copy plan st task (source plan st b i) b)) i ≡ task)). absurd (let k : true ≡ false = sym h.0 ∙ is in cc))
        (finished_version plan st task (source plan st b i) b i) in
        subst (λ (s : ℕ). HasCurrent plan new s b i) (sym from) (there', v ∙ old.1 ∙ sym now)

source_begun : (plan : Plan) (st : State) (region : ℕ) → IsOrderly plan → IsSound plan st → May plan st (Begin region) → SourceHolds plan (after plan st (Begin region))
source_begun plan st region order sound may r b i open_in there lt =
    let k = st.current (element plan b i) in
    let same : Some region ≡ Some r = open_in in
    let none : is_of plan region k ≡ false = ⊎_elim
    (λ (h : is_of plan region k ≡ true).
    let of = of_from plan region k h in
    let low = of.0.0 in
    let done = sound.lives.current_done (element plan b i) (λ zero_k. omega (arith, zero_k, low)) in
    let begun = sound.lives.begun k (ap is_waiting done.0) in
    absurd (let c : true ≡ false = sym begun ∙ ap (was_begun (made plan st.progress)) of.1 ∙ order.unbegun st.progress region may.due in cc))
    (λ (h : is_of plan region k ≡ false). h)
    (cases_Bool (is_of plan region k)) in
    let from : source plan (after plan st (Begin region)) b i ≡ st.homes b = ap (λ (t : Bool). cond t (place plan k) (st.homes b)) none in
    let home : HasCurrent plan st (st.homes b) b i = (there, current_version plan st (st.homes b) b i (sound.lives.home_current may.outside (st.homes b) b there) lt) in
    inl (subst (λ (s : ℕ). HasCurrent plan (after plan st (Begin region)) s b i) (sym from) home)

pub keeps_source_holds : (plan : Plan) (st : State) (event : Event) → IsWellFormed plan → IsOrderly plan → IsSound plan st → May plan st event → SourceHolds plan (after plan st event)
keeps_source_holds plan st (Ask space block) well order sound may = sound.versions.source_holds
keeps_source_holds plan st Rest well order sound may = subst (SourceHolds plan) (sym (rested_at plan st may)) sound.versions.source_holds
keeps_source_holds plan st (Put block) well order sound may = λ r b i open_in. not_both st may.outside (r, open_in)
keeps_source_holds plan st (Shift block space) well order sound may = λ r b i open_in. not_both st may.outside (r, open_in)
keeps_source_holds plan st (Free space block) well order sound may = λ r b i open_in.
    source_freed plan st space block sound.versions.source_holds (may.elsewhere r open_in) may.all_done
    (λ q j q_open lt. (may.home_there q q_open, current_version plan st (st.homes block) block j (may.home_current q q_open) lt)) r b i open_in
keeps_source_holds plan st (Begin region) well order sound may = source_begun plan st region order sound may
keeps_source_holds plan st (Close region) well order sound may = λ r b i open_in. absurd cc
keeps_source_holds plan st (Hold task) well order sound may = source_tasks plan st task Held (λ done. let w = may.waiting in cc) sound.versions.source_holds
keeps_source_holds plan st (Pick space block) well order sound may = source_state plan st space block state.Leaving sound.versions.source_holds
keeps_source_holds plan st (Gone space block) well order sound may = source_state plan st space block state.Out sound.versions.source_holds
keeps_source_holds plan st (Make task block) well order sound may = source_made plan st task block sound may
keeps_source_holds plan st (Call space block) well order sound may = source_state plan st space block state.Coming sound.versions.source_holds
keeps_source_holds plan st (Come space block) well order sound may = source_state plan st space block state.Here sound.versions.source_holds
keeps_source_holds plan st (Lend task block from) well order sound may = source_state plan st from block (state.Lent task) sound.versions.source_holds
keeps_source_holds plan st (Copy task block from count) well order sound may = source_copied plan st task block from count sound.versions.source_holds
keeps_source_holds plan st (Claim task worker) well order sound may = source_tasks plan st task (Running worker) (λ done. let w = may.held in cc) sound.versions.source_holds
keeps_source_holds plan st (Finish task) well order sound may = source_finished plan st task (running_by (st.tasks task) may).0 well sound (running_by (st.tasks task) may).1
keeps_source_holds plan st (Back block from count) well order sound may = source_copied plan st 0 block from count sound.versions.source_holds
