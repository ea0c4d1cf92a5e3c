-- A Finish makes no move that the region needs, and undoes none.
use Rattle.std.proofs.Common.{◌≡◌, ◌≢◌, ◌⊎◌, ℕ, zero, suc, ◌-◌, ◌<◌, ◌≤◌, Bool, true, false, cond, ◌&&◌, ◌||◌, eqb, leb, ltb, Some, refl, ap, sym, ◌∙◌, subst, inl, inr, ⊎_elim, arith}
use Rattle.std.specs.Prelude.{Contains, not, slice_index}
use Rattle.std.proofs.lemmas.Bool.{and_from, and_parts, cases_Bool, cases_eq, cases_lt, eq-eqb, eqb-true, le-leb, lt-ltb, ne_eqb, not-true, or_left, or_right}
use Rattle.dd_blocks.specs.declared.plan.Plan.{Plan}
use Rattle.dd_blocks.specs.Numbered.{task_row}
use Rattle.dd_blocks.specs.WellFormed.{IsWellFormed}
use Rattle.dd_meaning.specs.Moves.{home_of, is_kept_in, is_read_in, moves_to, place_of, source_of, versions_in}
use Rattle.dd_meaning.specs.Versions.{last_version, needed_version, tasks_in}
use Rattle.dd_blocks.specs.Elements.{Element, task_reads}
use Rattle.dd_machine.specs.declared.task_state.TaskState.TheVariants.{Done}
use Rattle.dd_machine.specs.Delivered.{all_done, delivered, has_version, is_delivered}
use Rattle.dd_machine.specs.Needed.{version}
use Rattle.dd_machine.specs.Orderly.{IsOrderly}
use Rattle.dd_machine.specs.Sound.{IsSound}
use Rattle.dd_machine.specs.States.{State}
use Rattle.dd_machine.specs.Tests.{is_active, is_any, is_done, is_in_state, versions_of}
use Rattle.dd_machine.specs.Words.{IsOf, element, place, reads, size}
use Rattle.laws_of_moved.proofs.DeliveredLemmas.{version_at}
use Rattle.laws_of_moved.proofs.RegionVersionsLemmas.{not_all_done}
use Rattle.std.proofs.lemmas.Bool.{leb-true}
use Rattle.laws_of_lives.proofs.RegionsLemmas.{through_task}
use Rattle.dd_machine.specs.declared.event.Event.TheVariants as event
use Rattle.dd_machine.specs.Effects.{after}
use Rattle.dd_machine.specs.States.{at_one}
use Rattle.dd_machine.proofs.ChangesLemmas.{at_one_other, at_one_tells}
use Rattle.dd_meaning.specs.Versions.{opening_version, tasks_through}
use Rattle.dd_blocks.specs.Elements.{task_writes}
use Rattle.dd_machine.specs.Words.{writes}
use Rattle.dd_machine.specs.Tests.{is_waiting}
use Rattle.dd_views.proofs.ListsLemmas.{in_filter}
use Rattle.laws_of_versions.proofs.ClosedLemmas.{last_writer_le}
use Rattle.laws_of_versions.proofs.ConflictLemmas.{writer_within}
use Rattle.laws_of_moved.proofs.CopyStep.{del_other}
use Rattle.laws_of_moved.proofs.RegionVersionsLemmas.{any_of, has_of, is_of_from}
use Rattle.dd_machine.specs.Effects.{copy_where}
use Rattle.std.proofs.lemmas.Bool.{ltb-true, or_cases}
use Rattle.std.proofs.lemmas.List.Folds.{Any-from_list_any}
use Rattle.dd_machine.specs.declared.task_state.TaskState.TheVariants.{Running}
use Rattle.dd_machine.specs.Effects.{finish_copy}
use Rattle.dd_machine.specs.SoundVersions.{StillCounts}
use Rattle.dd_machine.specs.Tests.{is_running}
use Rattle.dd_machine.proofs.TestsLemmas.{any_finished, done_is}
use Rattle.dd_meaning.specs.Versions.{last_writer}
use Rattle.laws_of_versions.proofs.ClosedLemmas.{shared_done}
use Rattle.laws_of_versions.proofs.ConflictLemmas.{both_write, done_before, read_write, write_read}
use Rattle.laws_of_versions.proofs.WhereLemmas.{finished_version}
use Rattle.laws_of_lives.proofs.RegionsLemmas.{task_through}
use Rattle.laws_of_moved.proofs.OtherSteps.{none_made, wrote_is}
use Rattle.laws_of_moved.proofs.RegionVersionsLemmas.{before_region}

bool_same : (a b : Bool) → (a ≡ true → b ≡ true) → (b ≡ true → a ≡ true) → a ≡ b
bool_same true b h k = sym (h refl)
bool_same false true h k = k refl
bool_same false false h k = refl

-- the last writer up to n isn't below one of them
last_up : (plan : Plan) (e : Element) (n t : ℕ) → t ≤ n → writes plan t e ≡ true → t ≤ last_writer plan e n
unfolding writes
last_up plan e zero t le wrote = omega (arith, le)
last_up plan e (suc n) t le wrote = by (task_writes (task_row plan (suc n)) e) refl (last_up plan e n t)
  where
    by : (w : Bool) → task_writes (task_row plan (suc n)) e ≡ w → (t ≤ n → task_writes (task_row plan t) e ≡ true → t ≤ last_writer plan e n) → t ≤ cond (task_writes (task_row plan (suc n)) e) (suc n) (last_writer plan e n)
    by true is more = rw is le
    by false is more =
        let ne : t ≡ suc n → ⊥ = λ same. let h : true ≡ false = sym wrote ∙ ap (λ (x : ℕ). task_writes (task_row plan x) e) same ∙ is in cc in
        rw is (more (omega (arith, le, ne)) wrote)

-- a reader in the space that finds the version
pub record Reader (plan : Plan) (r : ℕ) (e : Element) (v s : ℕ) : Type 0 where
  pub task : ℕ
  pub of : IsOf plan r task
  pub there : place plan task ≡ s
  pub reads_it : reads plan task e ≡ true
  pub need : needed_version plan e task ≡ v

reads_is : (plan : Plan) (t : ℕ) (e : Element) → task_reads (task_row plan t) e ≡ true → reads plan t e ≡ true
unfolding reads
reads_is plan t e h = h

pub reader : (plan : Plan) (r : ℕ) (e : Element) (v s : ℕ) → is_read_in plan r e v s ≡ true → Reader plan r e v s
reader plan r e v s h =
    let any = Any-from_list_any (λ t. eqb (place_of plan t) s && task_reads (task_row plan t) e && eqb (needed_version plan e t) v) (tasks_in plan r) h in
    let t = any.1 in
    let p = and_parts (eqb (place_of plan t) s && task_reads (task_row plan t) e) (eqb (needed_version plan e t) v) (regroup (eqb (place_of plan t) s) (task_reads (task_row plan t) e) (eqb (needed_version plan e t) v) any.4) in
    let q = and_parts (eqb (place_of plan t) s) (task_reads (task_row plan t) e) p.0 in
    record {
      task = t;
      of = has_of plan r t (any.0, any.2, any.3);
      there = eqb-true (place_of plan t) s q.0;
      reads_it = reads_is plan t e q.1;
      need = eqb-true (needed_version plan e t) v p.1;
    }
  where
    regroup : (a b c : Bool) → (a && b && c) ≡ true → ((a && b) && c) ≡ true
    regroup true true true h = refl
    regroup true true false h = h
    regroup true false c h = h
    regroup false b c h = h

-- the versions of a region are those before it and those of its tasks
pub known_in : (plan : Plan) (st : State) (r v : ℕ) (e : Element) → IsWellFormed plan → IsOrderly plan → IsSound plan st → st.region ≡ Some r → Contains (versions_in plan r e) v
    → (v ≤ st.current e) ⊎ (IsOf plan r v × (writes plan v e ≡ true))
known_in plan st r v e well order sound open_is (zero, lt, is) =
    let l = last_writer_le plan e (tasks_through plan (r - 1)) in
    ⊎_elim
    (λ (none : opening_version plan r e ≡ 0). inl (omega (arith, none, is)))
    (λ (some : opening_version plan r e ≡ 0 → ⊥).
    let wrote = l.1 some in
    let t_is = writer_within plan (opening_version plan r e) e wrote in
    let low = l.0 in
    let up = through_task plan well (r - 1) (opening_version plan r e) t_is low in
    let not_of : (task_row plan (opening_version plan r e)).region ≡ r → ⊥ = λ same. before_region plan well r (opening_version plan r e) e refl (t_is, same) in
    let done = sound.lives.closed_done (opening_version plan r e) t_is (order.closed_below st.progress r (opening_version plan r e) (sound.lives.open_next r open_is) t_is (omega (arith, up, not_of))) in
    let le = sound.versions.current_last e (opening_version plan r e) done wrote in
    inl (omega (arith, le, is)))
    (cases_eq (opening_version plan r e) 0)
known_in plan st r v e well order sound open_is (suc k, lt, is) =
    let f = in_filter (λ t. task_writes (task_row plan t) e) (tasks_in plan r) v (k, omega (arith, lt), is) in
    inr (has_of plan r v f.0, wrote_is plan v e f.1)

module _ (plan : Plan) (st : State) (task worker r : ℕ) (well : IsWellFormed plan) (order : IsOrderly plan) (sound : IsSound plan st) (running : st.tasks task ≡ Running worker) (open_is : st.region ≡ Some r) where
  abbrev new : State
  new = after plan st (event.Finish task)

  task_of : IsOf plan r task
  task_of =
      let o = sound.limits.active_open task (ap is_active running) in
      let same : Some o.0 ≡ Some r = sym o.1 ∙ open_is in
      subst (λ (x : ℕ). IsOf plan x task) (let k : o.0 ≡ r = cc in k) o.2

  not_done : st.tasks task ≡ Done → ⊥
  not_done done = let h : Running worker ≡ Done = sym running ∙ done in cc

  -- what counts and finds the current version has it
  counted_has : (b i u s : ℕ) → i < size plan b → IsOf plan r u → StillCounts plan st r u → reads plan u (element plan b i) ≡ true → needed_version plan (element plan b i) u ≡ st.current (element plan b i) → place plan u ≡ s
      → has_version plan st (element plan b i) (st.current (element plan b i)) s ≡ true
  counted_has b i u s lt of counts read need at =
      let e = element plan b i in
      let k = sound.versions.reads_kept r u b i open_is of counts lt read in
      let v : version st (place plan u) b i ≡ st.current e = ⊎_elim
      (λ (h : version st (place plan u) b i ≡ needed_version plan e u). h ∙ need)
      (λ (h : needed_version plan e u < st.current e). absurd (omega (arith, h, need)))
      k.1 in
      version_at plan well st b i (st.current e) s lt
      ∙ and_from (is_in_state is_any (st.copies s b)) (eqb (version st s b i) (st.current e)) (ap (λ (x : ℕ). is_in_state is_any (st.copies x b)) (sym at) ∙ k.0)
      (eq-eqb (version st s b i) (st.current e) (ap (λ (x : ℕ). version st x b i) (sym at) ∙ v))

  -- a task that is done after it counted before
  done_counts : (u : ℕ) → IsOf plan r u → at_one st.tasks task Done u ≡ Done → StillCounts plan st r u
  done_counts u of done = ⊎_elim
      (λ (e : (u ≡ task) × (at_one st.tasks task Done u ≡ Done)). inl (ap (λ (x : ℕ). is_running (st.tasks x)) e.0 ∙ ap is_running running))
      (λ (e : (u ≢ task) × (at_one st.tasks task Done u ≡ st.tasks u)). inr (sym e.1 ∙ done, (task, task_of, not_done)))
      (at_one_tells st.tasks task Done u)

  -- where all are done after it, each is
  each_done : (u : ℕ) → IsOf plan r u → all_done plan new r ≡ true → at_one st.tasks task Done u ≡ Done
  each_done u of all = ⊎_elim
      (λ (h : is_done (at_one st.tasks task Done u) ≡ true). done_is (at_one st.tasks task Done u) h)
      (λ (h : is_done (at_one st.tasks task Done u) ≡ false). absurd (let k : true ≡ false = sym all ∙ not_all_done plan new r u of h in cc))
      (cases_Bool (is_done (at_one st.tasks task Done u)))

  not_before : all_done plan st r ≡ false
  not_before = not_all_done plan st r task task_of (ap is_done running)

  same_version : (b i v s : ℕ) → i < size plan b → (writes plan task (element plan b i) ≡ false) ⊎ (eqb s (place plan task) ≡ false) → has_version plan new (element plan b i) v s ≡ has_version plan st (element plan b i) v s
  same_version b i v s lt why =
      version_at plan well new b i v s lt
      ∙ ap (λ (t : Bool). t && eqb (version new s b i) v) (any_finished plan st task s b)
      ∙ ap (λ (x : ℕ). is_in_state is_any (st.copies s b) && eqb x v) (⊎_elim
      (λ (off : writes plan task (element plan b i) ≡ false). ⊎_elim
      (λ (same : slice_index (versions_of (finish_copy plan st task s b)) i ≡ version st s b i). same)
      (λ (hit : (writes plan task (element plan b i) ≡ true) × (slice_index (versions_of (finish_copy plan st task s b)) i ≡ task)). absurd (let h : true ≡ false = sym hit.0 ∙ off in cc))
      (finished_version plan st task s b i))
      (λ (away : eqb s (place plan task) ≡ false). ap (λ (t : Bool). slice_index (versions_of (cond t (copy_where (λ j. writes plan task (element plan b j)) (λ j. task) (st.copies s b)) (st.copies s b))) i) away)
      why)
      ∙ sym (version_at plan well st b i v s lt)

  test_written : (b i v s : ℕ) → i < size plan b → Contains (versions_in plan r (element plan b i)) v → moves_to plan r (element plan b i) v s ≡ true → writes plan task (element plan b i) ≡ true
      → is_delivered plan new r (element plan b i) v s ≡ is_delivered plan st r (element plan b i) v s
  test_written b i v s lt has moves wrote = bool_same (is_delivered plan new r e v s) (is_delivered plan st r e v s) forth back
    where
      e : Element
      e = element plan b i

      now : new.current e ≡ task
      now = ap (λ (t : Bool). cond t task (st.current e)) wrote

      before : st.current e < task
      before = ⊎_elim
          (λ (none : st.current e ≡ 0). let low = task_of.0.0 in omega (arith, none, low))
          (λ (some : st.current e ≡ 0 → ⊥).
          let d = sound.lives.current_done e some in
          done_before plan st task (st.current e) well order sound (ap is_active running) d.0 (writer_within plan (st.current e) e d.1) (both_write plan task (st.current e) e wrote d.1))
          (cases_eq (st.current e) 0)

      back : is_delivered plan st r e v s ≡ true → is_delivered plan new r e v s ≡ true
      back h =
          let p = and_parts (leb v (st.current e)) (ltb v (st.current e) || (has_version plan st e v s || (all_done plan st r && not (eqb (home_of plan r e) s)))) h in
          let low = leb-true v (st.current e) p.0 in
          let lt' : v < new.current e = omega (arith, low, before, now) in
          and_from (leb v (new.current e)) (ltb v (new.current e) || (has_version plan new e v s || (all_done plan new r && not (eqb (home_of plan r e) s)))) (le-leb v (new.current e) (omega (arith, lt')))
          (or_left (ltb v (new.current e)) (has_version plan new e v s || (all_done plan new r && not (eqb (home_of plan r e) s))) (lt-ltb v (new.current e) lt'))

      parts : (not (eqb (source_of plan r e v) s) ≡ true) × ((is_read_in plan r e v s || is_kept_in plan r e v s) ≡ true)
      parts = and_parts (not (eqb (source_of plan r e v) s)) (is_read_in plan r e v s || is_kept_in plan r e v s) moves

      -- the current version was there
      had : v ≡ st.current e → has_version plan st e v s ≡ true
      had at = ⊎_elim
          (λ (h : is_read_in plan r e v s ≡ true).
          let u = reader plan r e v s h in
          let need = u.need in
          let not_later : u.task ≤ task = ⊎_elim
          (λ (gt : task < u.task). let up = last_up plan e (u.task - 1) task (omega (arith, gt)) wrote in absurd (omega (arith, up, need, at, before)))
          (λ (le : u.task ≤ task). le)
          (cases_lt task u.task) in
          let counts : StillCounts plan st r u.task = ⊎_elim
          (λ (same : u.task ≡ task). inl (ap (λ (x : ℕ). is_running (st.tasks x)) same ∙ ap is_running running))
          (λ (ne : u.task ≡ task → ⊥). inr (shared_done plan st r task u.task well order sound open_is task_of (ap is_waiting running) u.of.0 (omega (arith, not_later, ne)) (read_write plan u.task task e u.reads_it wrote), (task, task_of, not_done)))
          (cases_eq u.task task) in
          ap (λ (x : ℕ). has_version plan st e x s) at ∙ counted_has b i u.task s lt u.of counts u.reads_it (need ∙ at) u.there)
          (λ (h : is_kept_in plan r e v s ≡ true).
          let q = and_parts (eqb (home_of plan r e) s) (eqb (last_version plan r e) v) h in
          let last = eqb-true (last_version plan r e) v q.1 in
          let up = last_up plan e (tasks_through plan r) task (task_through plan well r task task_of.0 (let same = task_of.1 in omega (arith, same))) wrote in
          absurd (omega (arith, last, up, at, before)))
          (or_cases (is_read_in plan r e v s) (is_kept_in plan r e v s) parts.1)

      forth : is_delivered plan new r e v s ≡ true → is_delivered plan st r e v s ≡ true
      forth h =
          let p = and_parts (leb v (new.current e)) (ltb v (new.current e) || (has_version plan new e v s || (all_done plan new r && not (eqb (home_of plan r e) s)))) h in
          let up = leb-true v (new.current e) p.0 in
          ⊎_elim
          (λ (less : v < task).
          let low : v ≤ st.current e = ⊎_elim
          (λ (k : v ≤ st.current e). k)
          (λ (k : IsOf plan r v × (writes plan v e ≡ true)).
          sound.versions.current_last e v (shared_done plan st r task v well order sound open_is task_of (ap is_waiting running) k.0.0 less (both_write plan v task e k.1 wrote)) k.1)
          (known_in plan st r v e well order sound open_is has) in
          and_from (leb v (st.current e)) (ltb v (st.current e) || (has_version plan st e v s || (all_done plan st r && not (eqb (home_of plan r e) s)))) (le-leb v (st.current e) low) (⊎_elim
          (λ (l : v < st.current e). or_left (ltb v (st.current e)) (has_version plan st e v s || (all_done plan st r && not (eqb (home_of plan r e) s))) (lt-ltb v (st.current e) l))
          (λ (g : st.current e ≤ v). or_right (ltb v (st.current e)) (has_version plan st e v s || (all_done plan st r && not (eqb (home_of plan r e) s)))
          (or_left (has_version plan st e v s) (all_done plan st r && not (eqb (home_of plan r e) s)) (had (let same : v ≡ st.current e = omega (arith, low, g) in same))))
          (cases_lt v (st.current e))))
          (λ (ge : task ≤ v).
          let same : v ≡ task = omega (arith, up, ge, now) in
          absurd (own same (or_cases (ltb v (new.current e)) (has_version plan new e v s || (all_done plan new r && not (eqb (home_of plan r e) s))) p.1)))
          (cases_lt v task)
        where
          own : v ≡ task → (ltb v (new.current e) ≡ true) ⊎ ((has_version plan new e v s || (all_done plan new r && not (eqb (home_of plan r e) s))) ≡ true) → ⊥
          own same (inl less) = let l = ltb-true v (new.current e) less in omega (arith, l, same, now)
          own same (inr more) = ⊎_elim
              (λ (there : has_version plan new e v s ≡ true).
              let from : source_of plan r e v ≡ place plan task = ap (source_of plan r e) same ∙ ap (λ (t : Bool). cond t (place_of plan task) (home_of plan r e)) (any_of plan r task ∙ is_of_from plan r task task_of) in
              let off : eqb s (place plan task) ≡ false = ne_eqb s (place plan task) (λ at. let k : true ≡ false = sym (eq-eqb (source_of plan r e v) s (from ∙ sym at)) ∙ not-true (eqb (source_of plan r e v) s) parts.0 in cc) in
              let old = and_parts (is_in_state is_any (st.copies s b)) (eqb (version st s b i) v) (sym (version_at plan well st b i v s lt) ∙ sym (same_version b i v s lt (inr off)) ∙ there) in
              let is : version st s b i ≡ v = eqb-true (version st s b i) v old.1 in
              let few = well.line.tasks in
              let known = sound.versions.version_known s b i old.0 lt (λ blank_is. let high = task_of.0.1 in omega (arith, blank_is, is, same, high, few)) in
              let low = known.0 in
              omega (arith, low, is, same, before))
              (λ (all : (all_done plan new r && not (eqb (home_of plan r e) s)) ≡ true).
              let q = and_parts (all_done plan new r) (not (eqb (home_of plan r e) s)) all in
              ⊎_elim
              (λ (h : is_read_in plan r e v s ≡ true).
              let u = reader plan r e v s h in
              let n = (last_writer_le plan e (u.task - 1)).0 in
              let need = u.need in
              let low = u.of.0.0 in
              let later : task < u.task = omega (arith, n, need, same, low) in
              let done : st.tasks u.task ≡ Done = sym (at_one_other st.tasks task Done u.task (λ x. omega (arith, x, later))) ∙ each_done u.task u.of q.0 in
              not_done (shared_done plan st r u.task task well order sound open_is u.of (ap is_waiting done) task_of.0 later (write_read plan task u.task e wrote u.reads_it)))
              (λ (h : is_kept_in plan r e v s ≡ true).
              let k = and_parts (eqb (home_of plan r e) s) (eqb (last_version plan r e) v) h in
              let c : true ≡ false = sym k.0 ∙ not-true (eqb (home_of plan r e) s) q.1 in cc)
              (or_cases (is_read_in plan r e v s) (is_kept_in plan r e v s) parts.1))
              (or_cases (has_version plan new e v s) (all_done plan new r && not (eqb (home_of plan r e) s)) more)

  test_kept : (b i v s : ℕ) → i < size plan b → moves_to plan r (element plan b i) v s ≡ true → writes plan task (element plan b i) ≡ false
      → is_delivered plan new r (element plan b i) v s ≡ is_delivered plan st r (element plan b i) v s
  test_kept b i v s lt moves off = ⊎_elim
      (λ (at : v ≡ st.current e). bool_same (is_delivered plan new r e v s) (is_delivered plan st r e v s) (forth at) (back at))
      (λ (ne : v ≡ st.current e → ⊥). del_other plan st new r e v s now ne)
      (cases_eq v (st.current e))
    where
      e : Element
      e = element plan b i

      now : new.current e ≡ st.current e
      now = ap (λ (t : Bool). cond t task (st.current e)) off

      here : (x : State) → x.current e ≡ st.current e → v ≡ st.current e → has_version plan x e v s ≡ true → is_delivered plan x r e v s ≡ true
      here x same at h = and_from (leb v (x.current e)) (ltb v (x.current e) || (has_version plan x e v s || (all_done plan x r && not (eqb (home_of plan r e) s)))) (le-leb v (x.current e) (omega (arith, same, at)))
          (or_right (ltb v (x.current e)) (has_version plan x e v s || (all_done plan x r && not (eqb (home_of plan r e) s))) (or_left (has_version plan x e v s) (all_done plan x r && not (eqb (home_of plan r e) s)) h))

      -- it is there, or all are done
      told : (x : State) → x.current e ≡ st.current e → v ≡ st.current e → is_delivered plan x r e v s ≡ true → (has_version plan x e v s ≡ true) ⊎ ((all_done plan x r && not (eqb (home_of plan r e) s)) ≡ true)
      told x same at h = ⊎_elim
          (λ (less : ltb v (x.current e) ≡ true). absurd (let l = ltb-true v (x.current e) less in omega (arith, l, same, at)))
          (λ (more : (has_version plan x e v s || (all_done plan x r && not (eqb (home_of plan r e) s))) ≡ true). or_cases (has_version plan x e v s) (all_done plan x r && not (eqb (home_of plan r e) s)) more)
          (or_cases (ltb v (x.current e)) (has_version plan x e v s || (all_done plan x r && not (eqb (home_of plan r e) s)))
          (and_parts (leb v (x.current e)) (ltb v (x.current e) || (has_version plan x e v s || (all_done plan x r && not (eqb (home_of plan r e) s)))) h).1)

      back : v ≡ st.current e → is_delivered plan st r e v s ≡ true → is_delivered plan new r e v s ≡ true
      back at h = ⊎_elim
          (λ (there : has_version plan st e v s ≡ true). here new now at (same_version b i v s lt (inl off) ∙ there))
          (λ (all : (all_done plan st r && not (eqb (home_of plan r e) s)) ≡ true). absurd (let k : true ≡ false = sym (and_parts (all_done plan st r) (not (eqb (home_of plan r e) s)) all).0 ∙ not_before in cc))
          (told st refl at h)

      forth : v ≡ st.current e → is_delivered plan new r e v s ≡ true → is_delivered plan st r e v s ≡ true
      forth at h = ⊎_elim
          (λ (there : has_version plan new e v s ≡ true). here st refl at (sym (same_version b i v s lt (inl off)) ∙ there))
          (λ (all : (all_done plan new r && not (eqb (home_of plan r e) s)) ≡ true).
          let q = and_parts (all_done plan new r) (not (eqb (home_of plan r e) s)) all in
          let wanted = (and_parts (not (eqb (source_of plan r e v) s)) (is_read_in plan r e v s || is_kept_in plan r e v s) moves).1 in
          ⊎_elim
          (λ (k : is_read_in plan r e v s ≡ true).
          let u = reader plan r e v s k in
          here st refl at (ap (λ (x : ℕ). has_version plan st e x s) at ∙ counted_has b i u.task s lt u.of (done_counts u.task u.of (each_done u.task u.of q.0)) u.reads_it (u.need ∙ at) u.there))
          (λ (k : is_kept_in plan r e v s ≡ true).
          let home = and_parts (eqb (home_of plan r e) s) (eqb (last_version plan r e) v) k in
          absurd (let c : true ≡ false = sym home.0 ∙ not-true (eqb (home_of plan r e) s) q.1 in cc))
          (or_cases (is_read_in plan r e v s) (is_kept_in plan r e v s) wanted))
          (told new now at h)

  pub finished_delivered : delivered plan new r ≡ delivered plan st r
  finished_delivered = none_made plan well st new r (λ b i v s lt has is moves. ⊎_elim
      (λ (wrote : writes plan task (element plan b i) ≡ true). test_written b i v s lt has moves wrote)
      (λ (off : writes plan task (element plan b i) ≡ false). test_kept b i v s lt moves off)
      (cases_Bool (writes plan task (element plan b i))))
