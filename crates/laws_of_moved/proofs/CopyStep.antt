-- A Copy and a Back make exactly as many of the moves that the region needs as they count.
use Rattle.std.proofs.Common.{◌≡◌, ◌≢◌, ℕ, zero, suc, ◌+◌, ◌-◌, ◌<◌, ◌≤◌, Bool, true, false, cond, ◌&&◌, ◌||◌, eqb, leb, ltb, [], length, Some, None, refl, ap, sym, ◌∙◌, subst, ⊎_elim, arith}
use Rattle.std.specs.Prelude.{not}
use Rattle.std.specs.List.{range_with_len}
use Rattle.std.proofs.lemmas.Bool.{and_from, and_left, and_parts, and_right, cases_Bool, cases_eq, cases_lt, eq-eqb, le-leb, le-ltb, lt-leb, lt-ltb, ne_eqb, not-true, not_from_true, not_from_false, or_from, or_left, or_right}
use Rattle.std.proofs.lemmas.List.Folds.{list_any_at}
use Rattle.std.proofs.lemmas.List.Sums.{length-filter}
use Rattle.dd_blocks.specs.declared.plan.Plan.{Plan}
use Rattle.dd_blocks.specs.declared.proc_row.ProcRow.{ProcRow}
use Rattle.std.proofs.lemmas.List.Elements.{All-get_or}
use Rattle.dd_blocks.specs.Numbered.{task_row}
use Rattle.dd_blocks.specs.WellFormed.{IsWellFormed}
use Rattle.dd_meaning.specs.Moves.{home_of, is_kept_in, is_read_in, moves_to, place_of, source_of}
use Rattle.dd_meaning.specs.Versions.{last_version, needed_version, tasks_in}
use Rattle.dd_blocks.specs.Elements.{Element, task_reads}
use Rattle.dd_machine.specs.declared.task_state.TaskState.TheVariants.{Held, Done}
use Rattle.dd_machine.specs.Bytes.{when}
use Rattle.dd_machine.specs.Delivered.{all_done, delivered, delivered_of, has_version, is_delivered}
use Rattle.dd_machine.specs.Effects.{after_copy}
use Rattle.dd_machine.specs.Legal.{AllDone, MayCopy, MayFetch}
use Rattle.dd_machine.specs.Made.{is_live}
use Rattle.dd_machine.specs.Owed.{made}
use Rattle.dd_machine.specs.Needed.{is_current_at, is_needed, own_space, source, version}
use Rattle.dd_machine.specs.Orderly.{IsOrderly}
use Rattle.dd_machine.specs.Sound.{IsSound}
use Rattle.dd_machine.specs.SoundVersions.{HasCurrent}
use Rattle.dd_machine.specs.States.{State}
use Rattle.dd_machine.specs.Tests.{Has, is_active, is_any, is_done, is_here, is_in_state, versions_of}
use Rattle.dd_machine.specs.Words.{IsOf, IsOneOf, blocks, element, place, reads, size, spaces, tasks}
use Rattle.dd_machine.proofs.TestsLemmas.{any_copied, passes_any}
use Rattle.dd_machine.proofs.TotalsLemmas.{total_more_one}
use Rattle.laws_of_lives.proofs.ElementsLemmas.{touches_used}
use Rattle.laws_of_versions.proofs.ConflictLemmas.{use_of_read}
use Rattle.laws_of_versions.proofs.ClosedLemmas.{current_is_last, current_is_need}
use Rattle.laws_of_versions.proofs.WhereLemmas.{copied_hit, copied_version}
use Rattle.laws_of_moved.proofs.BelowLemmas.{below, below_add, below_same, sum_below}
use Rattle.laws_of_moved.proofs.DeliveredLemmas.{delivered_blocks, delivered_one, delivered_same, home_at, version_at}
use Rattle.laws_of_moved.proofs.RegionVersionsLemmas.{home_is, not_all_done, of_has, once_current, source_is}
use Rattle.dd_blocks.proofs.NumberedLemmas.{numbered-get, task_names_rows}

-- a test of the moves that were made depends on the version in the space alone, and only at the current one
pub del_same : (plan : Plan) (st new : State) (r : ℕ) (e : Element) (v s : ℕ) → new.current e ≡ st.current e → all_done plan new r ≡ all_done plan st r → has_version plan new e v s ≡ has_version plan st e v s → is_delivered plan new r e v s ≡ is_delivered plan st r e v s
del_same plan st new r e v s now done same =
    ap (λ (c : ℕ). leb v c && (ltb v c || (has_version plan new e v s || (all_done plan new r && not (eqb (home_of plan r e) s))))) now
    ∙ ap (λ (t : Bool). leb v (st.current e) && (ltb v (st.current e) || (t || (all_done plan new r && not (eqb (home_of plan r e) s))))) same
    ∙ ap (λ (t : Bool). leb v (st.current e) && (ltb v (st.current e) || (has_version plan st e v s || (t && not (eqb (home_of plan r e) s))))) done

pub del_other : (plan : Plan) (st new : State) (r : ℕ) (e : Element) (v s : ℕ) → new.current e ≡ st.current e → v ≢ st.current e → is_delivered plan new r e v s ≡ is_delivered plan st r e v s
del_other plan st new r e v s now ne = ⊎_elim
    (λ (lt : v < st.current e).
    let b = lt-ltb v (st.current e) lt in
    ap (λ (c : ℕ). leb v c && (ltb v c || (has_version plan new e v s || (all_done plan new r && not (eqb (home_of plan r e) s))))) now
    ∙ ap (λ (t : Bool). leb v (st.current e) && (t || (has_version plan new e v s || (all_done plan new r && not (eqb (home_of plan r e) s))))) b
    ∙ sym (ap (λ (t : Bool). leb v (st.current e) && (t || (has_version plan st e v s || (all_done plan st r && not (eqb (home_of plan r e) s))))) b))
    (λ (ge : st.current e ≤ v).
    let b : leb v (st.current e) ≡ false = lt-leb v (st.current e) (omega (arith, ge, ne)) in
    ap (λ (c : ℕ). leb v c && (ltb v c || (has_version plan new e v s || (all_done plan new r && not (eqb (home_of plan r e) s))))) now
    ∙ ap (λ (t : Bool). t && (ltb v (st.current e) || (has_version plan new e v s || (all_done plan new r && not (eqb (home_of plan r e) s))))) b
    ∙ sym (ap (λ (t : Bool). t && (ltb v (st.current e) || (has_version plan st e v s || (all_done plan st r && not (eqb (home_of plan r e) s))))) b))
    (cases_lt v (st.current e))

suc_read : (t : ℕ) (x : Bool) → (eqb (suc t) 0 || x) ≡ true → x ≡ true
suc_read t x h = ap (λ (b : Bool). b || x) (sym (ne_eqb (suc t) 0 (λ e. omega (arith, e)))) ∙ h

-- the space of a task is one of the Plan's
pub place_in : (plan : Plan) → IsWellFormed plan → (t : ℕ) → IsOneOf (tasks plan) t → IsOneOf (spaces plan) (place plan t)
place_in plan well t is =
    let names = task_names_rows plan well t is in
    let proc = names.proc in
    let none : ProcRow = record { name = []; space = 0 } in
    subst (λ (p : ProcRow). IsOneOf (spaces plan) p.space) (sym (numbered-get none plan.procs (task_row plan t).proc proc.0)) (All-get_or (λ (p : ProcRow). IsOneOf (spaces plan) p.space) plan.procs ((task_row plan t).proc - 1) none (omega (arith, proc.0, proc.1)) well.names.procs)

pub three : (a b c : Bool) → a ≡ true → b ≡ true → c ≡ true → (a && b && c) ≡ true
three a b c x y z = rw (x, y, z) refl

pub read_is : (plan : Plan) (t : ℕ) (e : Element) → reads plan t e ≡ true → task_reads (task_row plan t) e ≡ true
unfolding reads
read_is plan t e h = h

module _ (plan : Plan) (st : State) (task block from count r : ℕ) (well : IsWellFormed plan) (order : IsOrderly plan) (sound : IsSound plan st) (may : MayCopy plan st task block from count) (open_is : st.region ≡ Some r) where
  -- the state after it
  abbrev new : State
  new = after_copy plan st task block from count

  -- where nothing is needed, all stays
  version_stays : (b i v s : ℕ) → i < size plan b → (b ≡ block → is_needed plan st task block from i ≡ true → ⊥) → has_version plan new (element plan b i) v s ≡ has_version plan st (element plan b i) v s
  version_stays b i v s lt none =
      version_at plan well new b i v s lt
      ∙ ap (λ (t : Bool). t && eqb (version new s b i) v) (any_copied plan st task block from count s b)
      ∙ ap (λ (x : ℕ). is_in_state is_any (st.copies s b) && eqb x v) (⊎_elim
      (λ (same : version new s b i ≡ version st s b i). same)
      (λ (hit : (s ≡ own_space plan st task block) × (b ≡ block) × (is_needed plan st task block from i ≡ true) × (version new s b i ≡ st.current (element plan b i))). absurd (none hit.1 hit.2))
      (copied_version plan st task block from count s b i))
      ∙ sym (version_at plan well st b i v s lt)

  place_stays : (b i : ℕ) → i < size plan b → (b ≡ block → is_needed plan st task block from i ≡ true → ⊥) → delivered_of plan new r (element plan b i) ≡ delivered_of plan st r (element plan b i)
  place_stays b i lt none = delivered_same plan st new r (element plan b i) (λ v s has is moves. del_same plan st new r (element plan b i) v s refl refl (version_stays b i v s lt none))

  here : Has st (own_space plan st task block) block is_any
  here = passes_any is_here (st.copies (own_space plan st task block) block) may.here

  -- a task at work is no task that is done; the write-back stands where all are
  not_done_or_home : (i : ℕ) → i < size plan block → (all_done plan st r && not (eqb (home_of plan r (element plan block i)) (own_space plan st task block))) ≡ false
  not_done_or_home i lt = by task refl
    where
      by : (t : ℕ) → task ≡ t → (all_done plan st r && not (eqb (home_of plan r (element plan block i)) (own_space plan st task block))) ≡ false
      by zero is =
          let own : own_space plan st task block ≡ st.homes block = ap (λ (t : ℕ). own_space plan st t block) is in
          let home : home_of plan r (element plan block i) ≡ own_space plan st task block = home_at plan well r block i lt ∙ sym (home_is plan st r block well sound.lives open_is may.block_is) ∙ sym own in
          and_right (all_done plan st r) (not (eqb (home_of plan r (element plan block i)) (own_space plan st task block))) (not_from_true (eqb (home_of plan r (element plan block i)) (own_space plan st task block)) (eq-eqb (home_of plan r (element plan block i)) (own_space plan st task block) home))
      by (suc t) is =
          let held : st.tasks (suc t) ≡ Held = subst (λ (x : ℕ). MayFetch st x block) is may.asked in
          let o = sound.limits.active_open (suc t) (ap is_active held) in
          let same : Some o.0 ≡ Some r = sym o.1 ∙ open_is in
          let of : IsOf plan r (suc t) = subst (λ (x : ℕ). IsOf plan x (suc t)) (let k : o.0 ≡ r = cc in k) o.2 in
          and_left (all_done plan st r) (not (eqb (home_of plan r (element plan block i)) (own_space plan st task block))) (not_all_done plan st r (suc t) of (ap is_done held))

  -- what is needed doesn't come from the own space
  from_elsewhere : (i : ℕ) → i < size plan block → is_needed plan st task block from i ≡ true → source plan st block i ≡ own_space plan st task block → ⊥
  from_elsewhere i lt on same =
      let parts = and_parts (eqb task 0 || reads plan task (element plan block i)) (not (is_current_at plan st (own_space plan st task block) block i) && eqb (source plan st block i) from) on in
      let stale = not-true (is_current_at plan st (own_space plan st task block) block i) (and_parts (not (is_current_at plan st (own_space plan st task block) block i)) (eqb (source plan st block i) from) parts.1).0 in
      let fresh : version st (own_space plan st task block) block i ≡ st.current (element plan block i) → ⊥ = λ is. let h : true ≡ false = sym (eq-eqb (version st (own_space plan st task block) block i) (st.current (element plan block i)) is) ∙ stale in cc in
      ⊎_elim
      (λ (h : HasCurrent plan st (source plan st block i) block i). fresh (subst (λ (s : ℕ). version st s block i ≡ st.current (element plan block i)) same h.1))
      (λ (h : AllDone plan st r × HasCurrent plan st (st.homes block) block i). by task refl h)
      (sound.versions.source_holds r block i open_is home_there lt)
    where
      home_there : Has st (st.homes block) block is_any
      home_there = sym (sound.lives.home_live block) ∙ live task refl
        where
          live : (t : ℕ) → task ≡ t → is_live (made plan st.progress) block ≡ true
          live zero is =
              let own : own_space plan st task block ≡ st.homes block = ap (λ (x : ℕ). own_space plan st x block) is in
              sound.lives.home_live block ∙ ap (λ (s : ℕ). is_in_state is_any (st.copies s block)) (sym own) ∙ here
          live (suc t) is =
              let held : st.tasks (suc t) ≡ Held = subst (λ (x : ℕ). MayFetch st x block) is may.asked in
              let o = sound.limits.active_open (suc t) (ap is_active held) in
              let parts = and_parts (eqb task 0 || reads plan task (element plan block i)) (not (is_current_at plan st (own_space plan st task block) block i) && eqb (source plan st block i) from) on in
              let read : reads plan (suc t) (element plan block i) ≡ true = suc_read t (reads plan (suc t) (element plan block i)) (ap (λ (x : ℕ). eqb x 0 || reads plan x (element plan block i)) (sym is) ∙ parts.0) in
              sound.lives.touched_live o.0 (suc t) block o.1 o.2 (touches_used plan well (suc t) block i o.2.0 lt (use_of_read plan (suc t) (element plan block i) read))

      by : (t : ℕ) → task ≡ t → AllDone plan st r × HasCurrent plan st (st.homes block) block i → ⊥
      by zero is h =
          let own : own_space plan st task block ≡ st.homes block = ap (λ (x : ℕ). own_space plan st x block) is in
          let parts = and_parts (eqb task 0 || reads plan task (element plan block i)) (not (is_current_at plan st (own_space plan st task block) block i) && eqb (source plan st block i) from) on in
          let stale = not-true (is_current_at plan st (own_space plan st task block) block i) (and_parts (not (is_current_at plan st (own_space plan st task block) block i)) (eqb (source plan st block i) from) parts.1).0 in
          let k : true ≡ false = sym (eq-eqb (version st (own_space plan st task block) block i) (st.current (element plan block i)) (ap (λ (s : ℕ). version st s block i) own ∙ h.1.1)) ∙ stale in cc
      by (suc t) is h =
          let held : st.tasks (suc t) ≡ Held = subst (λ (x : ℕ). MayFetch st x block) is may.asked in
          let o = sound.limits.active_open (suc t) (ap is_active held) in
          let eq : Some o.0 ≡ Some r = sym o.1 ∙ open_is in
          let done : st.tasks (suc t) ≡ Done = h.0 (suc t) (subst (λ (x : ℕ). IsOf plan x (suc t)) (let k : o.0 ≡ r = cc in k) o.2) in
          let k : Held ≡ Done = sym held ∙ done in cc

  -- the needed element has to be moved to the own space
  moves_here : (i : ℕ) → i < size plan block → is_needed plan st task block from i ≡ true → moves_to plan r (element plan block i) (st.current (element plan block i)) (own_space plan st task block) ≡ true
  moves_here i lt on =
      let e = element plan block i in
      let own = own_space plan st task block in
      and_from (not (eqb (source_of plan r e (st.current e)) own)) (is_read_in plan r e (st.current e) own || is_kept_in plan r e (st.current e) own)
      (not_from_false (eqb (source_of plan r e (st.current e)) own) (ne_eqb (source_of plan r e (st.current e)) own (λ same. from_elsewhere i lt on (sym (source_is plan st r block i well sound open_is lt) ∙ same))))
      (wanted task refl)
    where
      wanted : (t : ℕ) → task ≡ t → (is_read_in plan r (element plan block i) (st.current (element plan block i)) (own_space plan st task block) || is_kept_in plan r (element plan block i) (st.current (element plan block i)) (own_space plan st task block)) ≡ true
      wanted zero is =
          let e = element plan block i in
          let own : own_space plan st task block ≡ st.homes block = ap (λ (x : ℕ). own_space plan st x block) is in
          let asked : MayFetch st 0 block = subst (λ (x : ℕ). MayFetch st x block) is may.asked in
          let all : AllDone plan st r = sound.limits.pin_calm r open_is (λ none. let p = asked.1 in let h : None ≡ Some (st.homes block, block) = sym none ∙ p in cc) in
          let home : home_of plan r e ≡ own_space plan st task block = home_at plan well r block i lt ∙ sym (home_is plan st r block well sound.lives open_is may.block_is) ∙ sym own in
          or_right (is_read_in plan r e (st.current e) (own_space plan st task block)) (is_kept_in plan r e (st.current e) (own_space plan st task block))
          (and_from (eqb (home_of plan r e) (own_space plan st task block)) (eqb (last_version plan r e) (st.current e)) (eq-eqb (home_of plan r e) (own_space plan st task block) home)
          (eq-eqb (last_version plan r e) (st.current e) (sym (current_is_last plan st r e well order sound open_is all))))
      wanted (suc t) is =
          let e = element plan block i in
          let held : st.tasks (suc t) ≡ Held = subst (λ (x : ℕ). MayFetch st x block) is may.asked in
          let o = sound.limits.active_open (suc t) (ap is_active held) in
          let eq : Some o.0 ≡ Some r = sym o.1 ∙ open_is in
          let of : IsOf plan r (suc t) = subst (λ (x : ℕ). IsOf plan x (suc t)) (let k : o.0 ≡ r = cc in k) o.2 in
          let parts = and_parts (eqb task 0 || reads plan task e) (not (is_current_at plan st (own_space plan st task block) block i) && eqb (source plan st block i) from) on in
          let read : reads plan (suc t) e ≡ true = suc_read t (reads plan (suc t) e) (ap (λ (x : ℕ). eqb x 0 || reads plan x e) (sym is) ∙ parts.0) in
          let own : place plan (suc t) ≡ own_space plan st task block = sym (ap (λ (x : ℕ). own_space plan st x block) is ∙ ap (λ (b : Bool). cond b (st.homes block) (place plan (suc t))) (ne_eqb (suc t) 0 (λ e. omega (arith, e)))) in
          let need = current_is_need plan st (suc t) e well order sound (ap is_active held) read in
          let has = of_has plan r (suc t) of in
          or_left (is_read_in plan r e (st.current e) (own_space plan st task block)) (is_kept_in plan r e (st.current e) (own_space plan st task block))
          (list_any_at (λ u. eqb (place_of plan u) (own_space plan st task block) && task_reads (task_row plan u) e && eqb (needed_version plan e u) (st.current e)) (tasks_in plan r) has.0 (suc t) has.1
          (ap (λ (u : ℕ). eqb (place_of plan u) (own_space plan st task block) && task_reads (task_row plan u) e && eqb (needed_version plan e u) (st.current e)) has.2
          ∙ three (eqb (place_of plan (suc t)) (own_space plan st task block)) (task_reads (task_row plan (suc t)) e) (eqb (needed_version plan e (suc t)) (st.current e))
          (eq-eqb (place_of plan (suc t)) (own_space plan st task block) own) (read_is plan (suc t) e read) (eq-eqb (needed_version plan e (suc t)) (st.current e) (sym need))))

  -- one more move at a needed place
  place_more : (i : ℕ) → i < size plan block → is_needed plan st task block from i ≡ true → delivered_of plan new r (element plan block i) ≡ delivered_of plan st r (element plan block i) + 1
  place_more i lt on =
      let e = element plan block i in
      let k = st.current e in
      let own = own_space plan st task block in
      let parts = and_parts (eqb task 0 || reads plan task e) (not (is_current_at plan st own block i) && eqb (source plan st block i) from) on in
      let stale = not-true (is_current_at plan st own block i) (and_parts (not (is_current_at plan st own block i)) (eqb (source plan st block i) from) parts.1).0 in
      let long : i < length (versions_of (st.copies own block)) = let z = sound.versions.sized own block here in omega (arith, z, lt) in
      let hit : version new own block i ≡ k = copied_hit plan st task block from count i on long in
      let before : has_version plan st e k own ≡ false = version_at plan well st block i k own lt ∙ and_right (is_in_state is_any (st.copies own block)) (eqb (version st own block i) k) stale in
      let now : has_version plan new e k own ≡ true = version_at plan well new block i k own lt
      ∙ and_from (is_in_state is_any (new.copies own block)) (eqb (version new own block i) k) (any_copied plan st task block from count own block ∙ here) (eq-eqb (version new own block i) k hit) in
      let not_less : ltb k k ≡ false = le-ltb k k (omega arith) in
      let at : leb k k ≡ true = le-leb k k (omega arith) in
      delivered_one plan st new r e k own (once_current plan st r e well order sound.lives sound.versions open_is) own_is (moves_here i lt on)
      (and_right (leb k k) (ltb k k || (has_version plan st e k own || (all_done plan st r && not (eqb (home_of plan r e) own))))
      (or_from (ltb k k) (has_version plan st e k own || (all_done plan st r && not (eqb (home_of plan r e) own))) not_less
      (or_from (has_version plan st e k own) (all_done plan st r && not (eqb (home_of plan r e) own)) before (not_done_or_home i lt))))
      (and_from (leb k k) (ltb k k || (has_version plan new e k own || (all_done plan new r && not (eqb (home_of plan r e) own)))) at
      (or_right (ltb k k) (has_version plan new e k own || (all_done plan new r && not (eqb (home_of plan r e) own)))
      (or_left (has_version plan new e k own) (all_done plan new r && not (eqb (home_of plan r e) own)) now)))
      (λ v s ne. ⊎_elim
      (λ (same : v ≡ k). del_same plan st new r e v s refl refl (other v s (λ at_own. ne same at_own)))
      (λ (away : v ≡ k → ⊥). del_other plan st new r e v s refl away)
      (cases_eq v k))
    where
      own_is : IsOneOf (spaces plan) (own_space plan st task block)
      own_is = by task refl
        where
          by : (t : ℕ) → task ≡ t → IsOneOf (spaces plan) (own_space plan st task block)
          by zero is =
              let own : own_space plan st task block ≡ st.homes block = ap (λ (x : ℕ). own_space plan st x block) is in
              let asked : MayFetch st 0 block = subst (λ (x : ℕ). MayFetch st x block) is may.asked in
              subst (IsOneOf (spaces plan)) (sym own) (sound.limits.pin_known (st.homes block) block asked.1).0
          by (suc t) is =
              let own : own_space plan st task block ≡ place plan (suc t) = ap (λ (x : ℕ). own_space plan st x block) is ∙ ap (λ (b : Bool). cond b (st.homes block) (place plan (suc t))) (ne_eqb (suc t) 0 (λ e. omega (arith, e))) in
              let held : st.tasks (suc t) ≡ Held = subst (λ (x : ℕ). MayFetch st x block) is may.asked in
              let o = sound.limits.active_open (suc t) (ap is_active held) in
              subst (IsOneOf (spaces plan)) (sym own) (place_in plan well (suc t) o.2.0)

      other : (v s : ℕ) → (s ≡ own_space plan st task block → ⊥) → has_version plan new (element plan block i) v s ≡ has_version plan st (element plan block i) v s
      other v s ne =
          version_at plan well new block i v s lt
          ∙ ap (λ (t : Bool). t && eqb (version new s block i) v) (any_copied plan st task block from count s block)
          ∙ ap (λ (x : ℕ). is_in_state is_any (st.copies s block) && eqb x v) (⊎_elim
          (λ (same : version new s block i ≡ version st s block i). same)
          (λ (hit : (s ≡ own_space plan st task block) × (block ≡ block) × (is_needed plan st task block from i ≡ true) × (version new s block i ≡ st.current (element plan block i))). absurd (ne hit.0))
          (copied_version plan st task block from count s block i))
          ∙ sym (version_at plan well st block i v s lt)

  block_more : below (size plan block) (λ i. delivered_of plan new r (element plan block i)) ≡ below (size plan block) (λ i. delivered_of plan st r (element plan block i)) + count
  block_more =
      below_same (size plan block) (λ i. delivered_of plan new r (element plan block i)) (λ i. delivered_of plan st r (element plan block i) + when (is_needed plan st task block from i) 1)
      (λ i lt. ⊎_elim
      (λ (on : is_needed plan st task block from i ≡ true). place_more i lt on ∙ ap (λ (t : Bool). delivered_of plan st r (element plan block i) + when t 1) (sym on))
      (λ (off : is_needed plan st task block from i ≡ false).
      place_stays block i lt (λ same on. let h : true ≡ false = sym on ∙ off in cc) ∙ (let z : delivered_of plan st r (element plan block i) ≡ delivered_of plan st r (element plan block i) + 0 = omega arith in z)
      ∙ ap (λ (t : Bool). delivered_of plan st r (element plan block i) + when t 1) (sym off))
      (cases_Bool (is_needed plan st task block from i)))
      ∙ below_add (size plan block) (λ i. delivered_of plan st r (element plan block i)) (λ i. when (is_needed plan st task block from i) 1)
      ∙ ap (λ (x : ℕ). below (size plan block) (λ i. delivered_of plan st r (element plan block i)) + x) (sym counted)
    where
      counted : count ≡ below (size plan block) (λ i. when (is_needed plan st task block from i) 1)
      counted = may.exact ∙ length-filter (is_needed plan st task block from) (range_with_len 0 (size plan block))
          ∙ sum_below (λ i. cond (is_needed plan st task block from i) 1 0) 0 (size plan block)
          ∙ below_same (size plan block) (λ i. cond (is_needed plan st task block from (0 + i)) 1 0) (λ i. when (is_needed plan st task block from i) 1)
          (λ i lt. ap (λ (x : ℕ). cond (is_needed plan st task block from x) 1 0) (let e : 0 + i ≡ i = omega arith in e))

  pub copied_delivered : delivered plan new r ≡ delivered plan st r + count
  copied_delivered =
      delivered_blocks plan well new r
      ∙ total_more_one (blocks plan) (λ b. below (size plan b) (λ i. delivered_of plan new r (element plan b i))) (λ b. below (size plan b) (λ i. delivered_of plan st r (element plan b i))) block count may.block_is
      (λ b is ne. below_same (size plan b) (λ i. delivered_of plan new r (element plan b i)) (λ i. delivered_of plan st r (element plan b i)) (λ i lt. place_stays b i lt (λ same on. ne same)))
      block_more
      ∙ ap (λ (x : ℕ). x + count) (sym (delivered_blocks plan well st r))
