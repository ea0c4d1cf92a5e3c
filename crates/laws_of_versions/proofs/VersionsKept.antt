-- The versions of copies: as many as the block has elements, of tasks that are done, and the current one at its source.
use Rattle.std.proofs.Common.{◌≡◌, ◌≢◌, ℕ, ◌<◌, ◌≤◌, Bool, true, false, cond, List, length, Option, None, refl, ap, sym, ◌∙◌, subst, ⊎_elim, arith}
use Rattle.std.specs.Prelude.{slice_index}
use Rattle.std.proofs.lemmas.Bool.{cases_eq}
use Rattle.dd_blocks.specs.WellFormed.{IsWellFormed}
use Rattle.dd_blocks.specs.Elements.{Element}
use Rattle.dd_machine.specs.Effects.{after_copy, finish_copy}
use Rattle.dd_machine.specs.Needed.{is_needed, own_space, source, version}
use Rattle.dd_machine.specs.Orderly.{IsOrderly}
use Rattle.dd_machine.specs.SoundVersions.{IsKnown}
use Rattle.dd_blocks.specs.declared.plan.Plan.{Plan}
use Rattle.dd_machine.specs.declared.copy_state.CopyState.{CopyState}
use Rattle.dd_machine.specs.declared.copy_state.CopyState.TheVariants as state
use Rattle.dd_machine.specs.declared.event.Event.{Event}
use Rattle.dd_machine.specs.declared.event.Event.TheVariants.{Ask, Rest, Put, Shift, Free, Begin, Hold, Pick, Gone, Make, Call, Come, Lend, Copy, Claim, Finish, Back, Close}
use Rattle.dd_machine.specs.declared.task_state.TaskState.{TaskState}
use Rattle.dd_machine.specs.declared.task_state.TaskState.TheVariants.{Held, Running, Done}
use Rattle.dd_machine.specs.Effects.{after, fresh, in_state}
use Rattle.dd_machine.specs.Legal.{May}
use Rattle.dd_machine.specs.Sound.{IsSound}
use Rattle.dd_machine.specs.States as states
use Rattle.dd_machine.specs.States.{Progress, State, at_copy, at_one}
use Rattle.dd_machine.specs.Tests.{Has, is_active, is_any, is_idle, is_in_state, versions_of}
use Rattle.dd_machine.specs.Words.{element, place, size, writes}
use Rattle.dd_machine.proofs.ChangesLemmas.{at_copy_tells, at_one_other, at_one_same, at_one_tells}
use Rattle.dd_machine.proofs.TestsLemmas.{any_copied, any_finished, any_in_state, rested_at, running_by, versions_in_state}
use Rattle.dd_machine.proofs.TestsLemmas.{passes_any}
use Rattle.laws_of_versions.proofs.ConflictLemmas.{both_write, done_before, writer_within}
use Rattle.laws_of_versions.proofs.WhereLemmas.{at_replicate, copied_length, copied_version, finished_length, finished_version, length_replicate}

abbrev Sized : Plan → State → Type 0
Sized plan st = (s b : ℕ) → Has st s b is_any → length (versions_of (st.copies s b)) ≡ size plan b

sized_at : (plan : Plan) (st : State) (space block : ℕ) (copy : Option states.Copy) → Sized plan st → (is_in_state is_any copy ≡ true → length (versions_of copy) ≡ size plan block) → Sized plan (record st { copies = at_copy st.copies space block copy })
sized_at plan st space block copy old new s b there = ⊎_elim
    (λ (e : (s ≡ space) × (b ≡ block) × (at_copy st.copies space block copy s b ≡ copy)).
    ap (λ (c : Option states.Copy). length (versions_of c)) e.2 ∙ new (ap (is_in_state is_any) (sym e.2) ∙ there) ∙ ap (size plan) (sym e.1))
    (λ (e : (s ≡ space → b ≡ block → ⊥) × (at_copy st.copies space block copy s b ≡ st.copies s b)).
    ap (λ (c : Option states.Copy). length (versions_of c)) e.1 ∙ old s b (ap (is_in_state is_any) (sym e.1) ∙ there))
    (at_copy_tells st.copies space block copy s b)

sized_state : (plan : Plan) (st : State) (space block : ℕ) (new : CopyState) → Sized plan st → Sized plan (record st { copies = at_copy st.copies space block (in_state new (st.copies space block)) })
sized_state plan st space block new old = sized_at plan st space block (in_state new (st.copies space block)) old
    (λ there. ap length (versions_in_state new (st.copies space block)) ∙ old space block (sym (any_in_state new (st.copies space block)) ∙ there))

pub keeps_sized : (plan : Plan) (st : State) (event : Event) → IsSound plan st → May plan st event → Sized plan (after plan st event)
keeps_sized plan st (Ask space block) sound may = sound.versions.sized
keeps_sized plan st Rest sound may = subst (Sized plan) (sym (rested_at plan st may)) sound.versions.sized
keeps_sized plan st (Put block) sound may = sized_at plan st (st.homes block) block (fresh plan block 0) sound.versions.sized (λ there. length_replicate (size plan block) 0)
keeps_sized plan st (Shift block space) sound may = sized_at plan (record st { copies = at_copy st.copies (st.homes block) block None }) space block (in_state state.Here (st.copies (st.homes block) block))
    (sized_at plan st (st.homes block) block None sound.versions.sized (λ there. absurd cc))
    (λ there. ap length (versions_in_state state.Here (st.copies (st.homes block) block)) ∙ sound.versions.sized (st.homes block) block (passes_any is_idle (st.copies (st.homes block) block) may.idle))
keeps_sized plan st (Free space block) sound may = sized_at plan st space block None sound.versions.sized (λ there. absurd cc)
keeps_sized plan st (Begin r) sound may = sound.versions.sized
keeps_sized plan st (Close r) sound may = sound.versions.sized
keeps_sized plan st (Hold task) sound may = sound.versions.sized
keeps_sized plan st (Pick space block) sound may = sized_state plan st space block state.Leaving sound.versions.sized
keeps_sized plan st (Gone space block) sound may = sized_state plan st space block state.Out sound.versions.sized
keeps_sized plan st (Make task block) sound may = sized_at plan st (place plan task) block (fresh plan block states.blank) sound.versions.sized (λ there. length_replicate (size plan block) states.blank)
keeps_sized plan st (Call space block) sound may = sized_state plan st space block state.Coming sound.versions.sized
keeps_sized plan st (Come space block) sound may = sized_state plan st space block state.Here sound.versions.sized
keeps_sized plan st (Lend task block source) sound may = sized_state plan st source block (state.Lent task) sound.versions.sized
keeps_sized plan st (Copy task block source count) sound may = λ s b there. copied_length plan st task block source count s b ∙ sound.versions.sized s b (sym (any_copied plan st task block source count s b) ∙ there)
keeps_sized plan st (Claim task worker) sound may = sound.versions.sized
keeps_sized plan st (Finish task) sound may = λ s b there. finished_length plan st task s b ∙ sound.versions.sized s b (sym (any_finished plan st task s b) ∙ there)
keeps_sized plan st (Back block source count) sound may = λ s b there. copied_length plan st 0 block source count s b ∙ sound.versions.sized s b (sym (any_copied plan st 0 block source count s b) ∙ there)

-- ---- known versions

abbrev VersionKnown : Plan → State → Type 0
VersionKnown plan st = (s b i : ℕ) → Has st s b is_any → i < size plan b → version st s b i ≢ states.blank → IsKnown plan st (element plan b i) (version st s b i)

known_zero : (plan : Plan) (st : State) (e : Element) (v : ℕ) → v ≡ 0 → IsKnown plan st e v
known_zero plan st e v is = (omega (arith, is), λ some. absurd (some is))

known_current : (plan : Plan) (st : State) (e : Element) (v : ℕ) → IsSound plan st → v ≡ st.current e → IsKnown plan st e v
known_current plan st e v sound is = subst (IsKnown plan st e) (sym is) (omega arith, λ some. sound.lives.current_done e some)

known_at : (plan : Plan) (st : State) (space block : ℕ) (copy : Option states.Copy) → VersionKnown plan st
    → ((i : ℕ) → is_in_state is_any copy ≡ true → i < size plan block → slice_index (versions_of copy) i ≢ states.blank → IsKnown plan st (element plan block i) (slice_index (versions_of copy) i))
    → VersionKnown plan (record st { copies = at_copy st.copies space block copy })
known_at plan st space block copy old new s b i there lt ne = ⊎_elim
    (λ (e : (s ≡ space) × (b ≡ block) × (at_copy st.copies space block copy s b ≡ copy)).
    let v : slice_index (versions_of (at_copy st.copies space block copy s b)) i ≡ slice_index (versions_of copy) i = ap (λ (c : Option states.Copy). slice_index (versions_of c) i) e.2 in
    subst (IsKnown plan st (element plan b i)) (sym v) (subst (λ (y : ℕ). IsKnown plan st (element plan y i) (slice_index (versions_of copy) i)) (sym e.1)
    (new i (ap (is_in_state is_any) (sym e.2) ∙ there) (subst (λ (y : ℕ). i < size plan y) e.1 lt) (λ is. ne (v ∙ is)))))
    (λ (e : (s ≡ space → b ≡ block → ⊥) × (at_copy st.copies space block copy s b ≡ st.copies s b)).
    let v : slice_index (versions_of (at_copy st.copies space block copy s b)) i ≡ version st s b i = ap (λ (c : Option states.Copy). slice_index (versions_of c) i) e.1 in
    subst (IsKnown plan st (element plan b i)) (sym v) (old s b i (ap (is_in_state is_any) (sym e.1) ∙ there) lt (λ is. ne (v ∙ is))))
    (at_copy_tells st.copies space block copy s b)

known_state : (plan : Plan) (st : State) (space block : ℕ) (new : CopyState) → VersionKnown plan st → VersionKnown plan (record st { copies = at_copy st.copies space block (in_state new (st.copies space block)) })
known_state plan st space block new old = known_at plan st space block (in_state new (st.copies space block)) old
    (λ i there lt ne.
    let v : slice_index (versions_of (in_state new (st.copies space block))) i ≡ version st space block i = ap (λ (vs : List ℕ). slice_index vs i) (versions_in_state new (st.copies space block)) in
    subst (IsKnown plan st (element plan block i)) (sym v) (old space block i (sym (any_in_state new (st.copies space block)) ∙ there) lt (λ is. ne (v ∙ is))))

-- a task that isn't done changes its state
known_tasks : (plan : Plan) (st : State) (task : ℕ) (new : TaskState) → (st.tasks task ≡ Done → ⊥) → VersionKnown plan st → VersionKnown plan (record st { tasks = at_one st.tasks task new })
known_tasks plan st task new not_done old s b i there lt ne =
    let k = old s b i there lt ne in
    (k.0, λ some. let d = k.1 some in (at_one_other st.tasks task new (version st s b i) (λ same. not_done (subst (λ (x : ℕ). st.tasks x ≡ Done) same d.0)) ∙ d.0, d.1))

known_copied : (plan : Plan) (st : State) (task block from count : ℕ) → IsSound plan st → VersionKnown plan (after_copy plan st task block from count)
known_copied plan st task block from count sound s b i there lt ne = ⊎_elim
    (λ (old : version (after_copy plan st task block from count) s b i ≡ version st s b i).
    subst (IsKnown plan st (element plan b i)) (sym old) (sound.versions.version_known s b i (sym (any_copied plan st task block from count s b) ∙ there) lt (λ is. ne (old ∙ is))))
    (λ (new : (s ≡ own_space plan st task block) × (b ≡ block) × (is_needed plan st task block from i ≡ true) × (version (after_copy plan st task block from count) s b i ≡ st.current (element plan b i))).
    known_current plan st (element plan b i) (version (after_copy plan st task block from count) s b i) sound new.3)
    (copied_version plan st task block from count s b i)

known_finished : (plan : Plan) (st : State) (task worker : ℕ) → IsWellFormed plan → IsOrderly plan → IsSound plan st → st.tasks task ≡ Running worker → VersionKnown plan (after plan st (Finish task))
known_finished plan st task worker well order sound running s b i there lt ne = ⊎_elim
    (λ (old : slice_index (versions_of (finish_copy plan st task s b)) i ≡ version st s b i).
    let k = sound.versions.version_known s b i (sym (any_finished plan st task s b) ∙ there) lt (λ is. ne (old ∙ is)) in
    subst (λ (v : ℕ). IsKnown plan (after plan st (Finish task)) (element plan b i) v) (sym old)
    (by (version st s b i) k (writes plan task (element plan b i)) refl, λ some. let d = k.1 some in (still (version st s b i) d.0, d.1)))
    (λ (new : (writes plan task (element plan b i) ≡ true) × (slice_index (versions_of (finish_copy plan st task s b)) i ≡ task)).
    subst (λ (v : ℕ). IsKnown plan (after plan st (Finish task)) (element plan b i) v) (sym new.1)
    (rw new.0 (omega arith), λ some. (at_one_same st.tasks task Done, new.0)))
    (finished_version plan st task s b i)
  where
    still : (v : ℕ) → st.tasks v ≡ Done → at_one st.tasks task Done v ≡ Done
    still v done = ⊎_elim
        (λ (e : (v ≡ task) × (at_one st.tasks task Done v ≡ Done)). e.1)
        (λ (e : (v ≢ task) × (at_one st.tasks task Done v ≡ st.tasks v)). e.1 ∙ done)
        (at_one_tells st.tasks task Done v)

    by : (v : ℕ) → IsKnown plan st (element plan b i) v → (w : Bool) → writes plan task (element plan b i) ≡ w → v ≤ cond (writes plan task (element plan b i)) task (st.current (element plan b i))
    by v k true is = rw is (⊎_elim
        (λ (none : v ≡ 0). omega (arith, none))
        (λ (some : v ≡ 0 → ⊥).
        let d = k.1 some in
        let before = done_before plan st task v well order sound (ap is_active running) d.0 (writer_within plan v (element plan b i) d.1) (both_write plan task v (element plan b i) is d.1) in
        omega (arith, before))
        (cases_eq v 0))
    by v k false is = rw is k.0

pub keeps_version_known : (plan : Plan) (st : State) (event : Event) → IsWellFormed plan → IsOrderly plan → IsSound plan st → May plan st event → VersionKnown plan (after plan st event)
keeps_version_known plan st (Ask space block) well order sound may = sound.versions.version_known
keeps_version_known plan st Rest well order sound may = subst (VersionKnown plan) (sym (rested_at plan st may)) sound.versions.version_known
keeps_version_known plan st (Put block) well order sound may = known_at plan st (st.homes block) block (fresh plan block 0) sound.versions.version_known
    (λ i there lt ne. known_zero plan st (element plan block i) (slice_index (versions_of (fresh plan block 0)) i) (at_replicate (size plan block) 0 i lt))
keeps_version_known plan st (Shift block space) well order sound may = known_at plan (record st { copies = at_copy st.copies (st.homes block) block None }) space block (in_state state.Here (st.copies (st.homes block) block))
    (known_at plan st (st.homes block) block None sound.versions.version_known (λ i there lt ne. absurd cc))
    (λ i there lt ne.
    let v : slice_index (versions_of (in_state state.Here (st.copies (st.homes block) block))) i ≡ version st (st.homes block) block i = ap (λ (vs : List ℕ). slice_index vs i) (versions_in_state state.Here (st.copies (st.homes block) block)) in
    subst (IsKnown plan st (element plan block i)) (sym v) (sound.versions.version_known (st.homes block) block i (passes_any is_idle (st.copies (st.homes block) block) may.idle) lt (λ is. ne (v ∙ is))))
keeps_version_known plan st (Free space block) well order sound may = known_at plan st space block None sound.versions.version_known (λ i there lt ne. absurd cc)
keeps_version_known plan st (Begin r) well order sound may = sound.versions.version_known
keeps_version_known plan st (Close r) well order sound may = sound.versions.version_known
keeps_version_known plan st (Hold task) well order sound may = known_tasks plan st task Held (λ done. let w = may.waiting in cc) sound.versions.version_known
keeps_version_known plan st (Pick space block) well order sound may = known_state plan st space block state.Leaving sound.versions.version_known
keeps_version_known plan st (Gone space block) well order sound may = known_state plan st space block state.Out sound.versions.version_known
keeps_version_known plan st (Make task block) well order sound may = known_at plan st (place plan task) block (fresh plan block states.blank) sound.versions.version_known
    (λ i there lt ne. absurd (ne (at_replicate (size plan block) states.blank i lt)))
keeps_version_known plan st (Call space block) well order sound may = known_state plan st space block state.Coming sound.versions.version_known
keeps_version_known plan st (Come space block) well order sound may = known_state plan st space block state.Here sound.versions.version_known
keeps_version_known plan st (Lend task block source) well order sound may = known_state plan st source block (state.Lent task) sound.versions.version_known
keeps_version_known plan st (Copy task block source count) well order sound may = known_copied plan st task block source count sound
keeps_version_known plan st (Claim task worker) well order sound may = known_tasks plan st task (Running worker) (λ done. let w = may.held in cc) sound.versions.version_known
keeps_version_known plan st (Finish task) well order sound may = known_finished plan st task (running_by (st.tasks task) may).0 well order sound (running_by (st.tasks task) may).1
keeps_version_known plan st (Back block source count) well order sound may = known_copied plan st 0 block source count sound
