-- What a task reads stays where it reads it, or a later task wrote it anew.
use Rattle.std.proofs.Common.{◌≡◌, ◌≢◌, ◌⊎◌, ℕ, ◌-◌, ◌<◌, ◌≤◌, Bool, true, false, cond, List, Option, Some, refl, ap, sym, ◌∙◌, subst, inl, inr, ⊎_elim, arith}
use Rattle.std.specs.Prelude.{slice_index}
use Rattle.std.proofs.lemmas.Bool.{cases_Bool, cases_lt}
use Rattle.dd_blocks.specs.WellFormed.{IsWellFormed}
use Rattle.dd_meaning.specs.Versions.{needed_version}
use Rattle.dd_machine.specs.Effects.{after_copy, finish_copy}
use Rattle.dd_machine.specs.Made.{was_begun}
use Rattle.dd_machine.specs.Needed.{is_needed, own_space, version}
use Rattle.dd_machine.specs.Orderly.{IsOrderly}
use Rattle.dd_machine.specs.Owed.{made}
use Rattle.dd_machine.specs.SoundVersions.{StillCounts}
use Rattle.dd_blocks.specs.declared.plan.Plan.{Plan}
use Rattle.dd_machine.specs.declared.copy_state.CopyState.{CopyState}
use Rattle.dd_machine.specs.declared.copy_state.CopyState.TheVariants as state
use Rattle.dd_machine.specs.declared.event.Event.{Event}
use Rattle.dd_machine.specs.declared.event.Event.TheVariants.{Ask, Rest, Put, Shift, Free, Begin, Hold, Pick, Gone, Make, Call, Come, Lend, Copy, Claim, Finish, Back, Close}
use Rattle.dd_machine.specs.declared.task_state.TaskState.{TaskState}
use Rattle.dd_machine.specs.declared.task_state.TaskState.TheVariants.{Waiting, Held, Running, Done}
use Rattle.dd_machine.specs.Effects.{after, fresh, in_state}
use Rattle.dd_machine.specs.Legal.{May}
use Rattle.dd_machine.specs.Sound.{IsSound}
use Rattle.dd_machine.specs.States as states
use Rattle.dd_machine.specs.States.{Progress, State, at_copy, at_one}
use Rattle.dd_machine.specs.Tests.{Has, is_active, is_any, is_here, is_in_state, is_running, is_waiting, versions_of}
use Rattle.dd_machine.specs.Words.{IsOf, element, place, reads, size, touches, writes}
use Rattle.dd_machine.proofs.ChangesLemmas.{at_copy_tells, at_one_other, at_one_tells}
use Rattle.dd_machine.proofs.TestsLemmas.{any_copied, any_finished, any_in_state, read_version, rested_at, running_by, same_at, versions_in_state}
use Rattle.dd_machine.proofs.TestsLemmas.{passes_any}
use Rattle.laws_of_lives.proofs.ElementsLemmas.{touches_used}
use Rattle.laws_of_lives.proofs.OutsideKept.{not_both}
use Rattle.laws_of_versions.proofs.ClosedLemmas.{current_is_need, last_writer_le, need_le_current}
use Rattle.laws_of_versions.proofs.ConflictLemmas.{not_later, use_of_read, write_read}
use Rattle.laws_of_versions.proofs.WhereLemmas.{copied_version, finished_version}

abbrev Kept : Plan → State → ℕ → ℕ → ℕ → Type 0
Kept plan st t b i = Has st (place plan t) b is_any × ((version st (place plan t) b i ≡ needed_version plan (element plan b i) t) ⊎ (needed_version plan (element plan b i) t < st.current (element plan b i)))

abbrev ReadsKept : Plan → State → Type 0
ReadsKept plan st = (r t b i : ℕ) → st.region ≡ Some r → IsOf plan r t → StillCounts plan st r t → i < size plan b → reads plan t (element plan b i) ≡ true → Kept plan st t b i

not_waiting : (s : TaskState) → (is_running s ≡ true) ⊎ (s ≡ Done) → is_waiting s ≡ false
not_waiting Waiting h = ⊎_elim (λ (e : false ≡ true). absurd cc) (λ (e : Waiting ≡ Done). absurd cc) h
not_waiting Held h = refl
not_waiting (Running w) h = refl
not_waiting Done h = refl

counts_on : (plan : Plan) (st : State) (r t : ℕ) → StillCounts plan st r t → is_waiting (st.tasks t) ≡ false
counts_on plan st r t counts = not_waiting (st.tasks t) (⊎_elim (λ (e : is_running (st.tasks t) ≡ true). inl e) (λ (e : (st.tasks t ≡ Done) × ((u : ℕ) × IsOf plan r u × (st.tasks u ≢ Done))). inr e.0) counts)

-- copies stay with their versions
kept_at : (plan : Plan) (st : State) (copies : ℕ → ℕ → Option states.Copy) → ReadsKept plan st
    → ((s b : ℕ) → Has st s b is_any → (is_in_state is_any (copies s b) ≡ true) × (versions_of (copies s b) ≡ versions_of (st.copies s b))) → ReadsKept plan (record st { copies = copies })
kept_at plan st copies old same r t b i open_is of counts lt read =
    let k = old r t b i open_is of counts lt read in
    let n = same (place plan t) b k.0 in (
      n.0,
      ⊎_elim
          (λ (v : version st (place plan t) b i ≡ needed_version plan (element plan b i) t). inl (ap (λ (vs : List ℕ). slice_index vs i) n.1 ∙ v))
          (λ (v : needed_version plan (element plan b i) t < st.current (element plan b i)). inr v)
          k.1,
    )

kept_state : (plan : Plan) (st : State) (space block : ℕ) (new : CopyState) → ReadsKept plan st → ReadsKept plan (record st { copies = at_copy st.copies space block (in_state new (st.copies space block)) })
kept_state plan st space block new old = kept_at plan st (at_copy st.copies space block (in_state new (st.copies space block))) old
    (λ s b there. (
      same_at (is_in_state is_any) st.copies space block (in_state new (st.copies space block)) (any_in_state new (st.copies space block)) s b ∙ there,
      same_at versions_of st.copies space block (in_state new (st.copies space block)) (versions_in_state new (st.copies space block)) s b,
    ))

kept_copied : (plan : Plan) (st : State) (task block from count : ℕ) → IsWellFormed plan → IsOrderly plan → IsSound plan st → ReadsKept plan (after_copy plan st task block from count)
kept_copied plan st task block from count well order sound r t b i open_is of counts lt read =
    let k = sound.versions.reads_kept r t b i open_is of counts lt read in
    let e = element plan b i in (
      any_copied plan st task block from count (place plan t) b ∙ k.0,
      ⊎_elim
          (λ (same : version (after_copy plan st task block from count) (place plan t) b i ≡ version st (place plan t) b i). ⊎_elim
          (λ (v : version st (place plan t) b i ≡ needed_version plan e t). inl (same ∙ v))
          (λ (v : needed_version plan e t < st.current e). inr v)
          k.1)
          (λ (new : (place plan t ≡ own_space plan st task block) × (b ≡ block) × (is_needed plan st task block from i ≡ true) × (version (after_copy plan st task block from count) (place plan t) b i ≡ st.current e)).
          let le = need_le_current plan st r t e well order sound open_is of (counts_on plan st r t counts) read in
          ⊎_elim
          (λ (lower : needed_version plan e t < st.current e). inr lower)
          (λ (ge : st.current e ≤ needed_version plan e t). inl (new.3 ∙ (let same : st.current e ≡ needed_version plan e t = omega (arith, le, ge) in same)))
          (cases_lt (needed_version plan e t) (st.current e)))
          (copied_version plan st task block from count (place plan t) b i),
    )

-- a task becomes Held
counts_held : (plan : Plan) (st : State) (task r t : ℕ) → st.tasks task ≡ Waiting → StillCounts plan (record st { tasks = at_one st.tasks task Held }) r t → StillCounts plan st r t
counts_held plan st task r t waiting counts = ⊎_elim
    (λ (e : (t ≡ task) × (at_one st.tasks task Held t ≡ Held)). absurd (⊎_elim
    (λ (run : is_running (at_one st.tasks task Held t) ≡ true). let h : true ≡ false = sym run ∙ ap is_running e.1 in cc)
    (λ (done : (at_one st.tasks task Held t ≡ Done) × ((u : ℕ) × IsOf plan r u × (at_one st.tasks task Held u ≢ Done))). let h : Held ≡ Done = sym e.1 ∙ done.0 in cc)
    counts))
    (λ (e : (t ≢ task) × (at_one st.tasks task Held t ≡ st.tasks t)). ⊎_elim
    (λ (run : is_running (at_one st.tasks task Held t) ≡ true). inl (ap is_running (sym e.1) ∙ run))
    (λ (done : (at_one st.tasks task Held t ≡ Done) × ((u : ℕ) × IsOf plan r u × (at_one st.tasks task Held u ≢ Done))).
    inr (sym e.1 ∙ done.0, (done.1.0, done.1.1, λ was. done.1.2 (at_one_other st.tasks task Held done.1.0 (λ same. let h : Waiting ≡ Done = sym waiting ∙ ap st.tasks (sym same) ∙ was in cc) ∙ was))))
    counts)
    (at_one_tells st.tasks task Held t)

pub keeps_reads_kept : (plan : Plan) (st : State) (event : Event) → IsWellFormed plan → IsOrderly plan → IsSound plan st → May plan st event → ReadsKept plan (after plan st event)
keeps_reads_kept plan st (Ask space block) well order sound may = sound.versions.reads_kept
keeps_reads_kept plan st Rest well order sound may = subst (ReadsKept plan) (sym (rested_at plan st may)) sound.versions.reads_kept
keeps_reads_kept plan st (Put block) well order sound may = λ r t b i open_is. not_both st may.outside (r, open_is)
keeps_reads_kept plan st (Shift block space) well order sound may = λ r t b i open_is. not_both st may.outside (r, open_is)
keeps_reads_kept plan st (Free space block) well order sound may = λ r t b i open_is of counts. absurd (⊎_elim
    (λ (run : is_running (st.tasks t) ≡ true). let h : true ≡ false = sym run ∙ ap is_running (may.all_done r open_is t of) in cc)
    (λ (done : (st.tasks t ≡ Done) × ((u : ℕ) × IsOf plan r u × (st.tasks u ≢ Done))). done.1.2 (may.all_done r open_is done.1.0 done.1.1))
    counts)
keeps_reads_kept plan st (Begin region) well order sound may = λ r t b i open_is of counts. absurd (
    let e : Some region ≡ Some r = open_is in
    let same : region ≡ r = cc in
    let begun = sound.lives.begun t (counts_on plan (after plan st (Begin region)) r t counts) in
    let h : true ≡ false = sym begun ∙ ap (was_begun (made plan st.progress)) (of.1 ∙ sym same) ∙ order.unbegun st.progress region may.due in cc)
keeps_reads_kept plan st (Close region) well order sound may = λ r t b i open_is. absurd cc
keeps_reads_kept plan st (Hold task) well order sound may = λ r t b i open_is of counts. sound.versions.reads_kept r t b i open_is of (counts_held plan st task r t may.waiting counts)
keeps_reads_kept plan st (Pick space block) well order sound may = kept_state plan st space block state.Leaving sound.versions.reads_kept
keeps_reads_kept plan st (Gone space block) well order sound may = kept_state plan st space block state.Out sound.versions.reads_kept
keeps_reads_kept plan st (Make task block) well order sound may = kept_at plan st (at_copy st.copies (place plan task) block (fresh plan block states.blank)) sound.versions.reads_kept
    (λ s b there. ⊎_elim
    (λ (e : (s ≡ place plan task) × (b ≡ block) × (at_copy st.copies (place plan task) block (fresh plan block states.blank) s b ≡ fresh plan block states.blank)). absurd (
    let h : true ≡ false = sym there ∙ ap (λ (x : ℕ). is_in_state is_any (st.copies x b)) e.0 ∙ ap (λ (y : ℕ). is_in_state is_any (st.copies (place plan task) y)) e.1 ∙ ap (is_in_state is_any) may.absent in cc))
    (λ (e : (s ≡ place plan task → b ≡ block → ⊥) × (at_copy st.copies (place plan task) block (fresh plan block states.blank) s b ≡ st.copies s b)). (ap (is_in_state is_any) e.1 ∙ there, ap versions_of e.1))
    (at_copy_tells st.copies (place plan task) block (fresh plan block states.blank) s b))
keeps_reads_kept plan st (Call space block) well order sound may = kept_state plan st space block state.Coming sound.versions.reads_kept
keeps_reads_kept plan st (Come space block) well order sound may = kept_state plan st space block state.Here sound.versions.reads_kept
keeps_reads_kept plan st (Lend task block from) well order sound may = kept_state plan st from block (state.Lent task) sound.versions.reads_kept
keeps_reads_kept plan st (Copy task block from count) well order sound may = kept_copied plan st task block from count well order sound
keeps_reads_kept plan st (Back block from count) well order sound may = kept_copied plan st 0 block from count well order sound
keeps_reads_kept plan st (Claim task worker) well order sound may = λ r t b i open_is of counts lt read. ⊎_elim
    (λ (e : (t ≡ task) × (at_one st.tasks task (Running worker) t ≡ Running worker)).
    let touched : touches plan task b ≡ true = ap (λ (x : ℕ). touches plan x b) (sym e.0) ∙ touches_used plan well t b i of.0 lt (use_of_read plan t (element plan b i) read) in
    let read' : reads plan task (element plan b i) ≡ true = ap (λ (x : ℕ). reads plan x (element plan b i)) (sym e.0) ∙ read in
    let here = passes_any is_here (st.copies (place plan task) b) (may.all_here b touched) in
    let now = read_version plan st task b i (may.all_current b touched) lt read' ∙ current_is_need plan st task (element plan b i) well order sound (ap is_active may.held) read' in
    subst (λ (x : ℕ). Kept plan (after plan st (Claim task worker)) x b i) (sym e.0) (here, inl now))
    (λ (e : (t ≢ task) × (at_one st.tasks task (Running worker) t ≡ st.tasks t)).
    sound.versions.reads_kept r t b i open_is of
    (⊎_elim
    (λ (run : is_running (at_one st.tasks task (Running worker) t) ≡ true). inl (ap is_running (sym e.1) ∙ run))
    (λ (done : (at_one st.tasks task (Running worker) t ≡ Done) × ((u : ℕ) × IsOf plan r u × (at_one st.tasks task (Running worker) u ≢ Done))).
    inr (sym e.1 ∙ done.0, (done.1.0, done.1.1, λ was. done.1.2 (at_one_other st.tasks task (Running worker) done.1.0 (λ same. let h : Held ≡ Done = sym may.held ∙ ap st.tasks (sym same) ∙ was in cc) ∙ was))))
    counts)
    lt read)
    (at_one_tells st.tasks task (Running worker) t)
keeps_reads_kept plan st (Finish task) well order sound may = finish
  where
    new : State
    new = after plan st (Finish task)

    -- it counted before
    before : (r t : ℕ) → StillCounts plan new r t → StillCounts plan st r t
    before r t counts = ⊎_elim
        (λ (e : (t ≡ task) × (at_one st.tasks task Done t ≡ Done)). inl (ap (λ (x : ℕ). is_running (st.tasks x)) e.0 ∙ ap is_running (running_by (st.tasks task) may).1))
        (λ (e : (t ≢ task) × (at_one st.tasks task Done t ≡ st.tasks t)). ⊎_elim
        (λ (run : is_running (at_one st.tasks task Done t) ≡ true). inl (ap is_running (sym e.1) ∙ run))
        (λ (done : (at_one st.tasks task Done t ≡ Done) × ((u : ℕ) × IsOf plan r u × (at_one st.tasks task Done u ≢ Done))).
        inr (sym e.1 ∙ done.0, (done.1.0, done.1.1, λ was. done.1.2 (still done.1.0 was))))
        counts)
        (at_one_tells st.tasks task Done t)
      where
        still : (u : ℕ) → st.tasks u ≡ Done → at_one st.tasks task Done u ≡ Done
        still u was = ⊎_elim
            (λ (e : (u ≡ task) × (at_one st.tasks task Done u ≡ Done)). e.1)
            (λ (e : (u ≢ task) × (at_one st.tasks task Done u ≡ st.tasks u)). e.1 ∙ was)
            (at_one_tells st.tasks task Done u)

    finish : ReadsKept plan new
    finish r t b i open_is of counts lt read =
        let e = element plan b i in
        let old_counts = before r t counts in
        let k = sound.versions.reads_kept r t b i open_is of old_counts lt read in
        let n = last_writer_le plan e (t - 1) in
        let low = of.0.0 in
        let few = n.0 in
        let below : needed_version plan e t < t = omega (arith, few, low) in (
          any_finished plan st task (place plan t) b ∙ k.0,
          ⊎_elim
              (λ (wrote : writes plan task e ≡ true).
              let now : new.current e ≡ task = ap (λ (x : Bool). cond x task (st.current e)) wrote in
              let up : t ≤ task = ⊎_elim
              (λ (lower : task < t). absurd (not_later plan st task t well order sound (ap is_active (running_by (st.tasks task) may).1) (counts_on plan st r t old_counts) of.0 lower (write_read plan task t e wrote read)))
              (λ (le : t ≤ task). le)
              (cases_lt task t) in
              inr (omega (arith, below, up, now)))
              (λ (kept : writes plan task e ≡ false).
              let now : new.current e ≡ st.current e = ap (λ (x : Bool). cond x task (st.current e)) kept in
              let v : version new (place plan t) b i ≡ version st (place plan t) b i = ⊎_elim
              (λ (h : slice_index (versions_of (finish_copy plan st task (place plan t) b)) i ≡ version st (place plan t) b i). h)
              (λ (h : (writes plan task e ≡ true) × (slice_index (versions_of (finish_copy plan st task (place plan t) b)) i ≡ task)). absurd (let c : true ≡ false = sym h.0 ∙ kept in cc))
              (finished_version plan st task (place plan t) b i) in
              ⊎_elim
              (λ (is : version st (place plan t) b i ≡ needed_version plan e t). inl (v ∙ is))
              (λ (is : needed_version plan e t < st.current e). inr (omega (arith, is, now)))
              k.1)
              (cases_Bool (writes plan task e)),
        )
