-- The events that make no move: what the region needs was made as before.
use Rattle.std.proofs.Common.{◌≡◌, ◌≢◌, ℕ, zero, suc, ◌-◌, ◌<◌, ◌≤◌, Bool, true, false, cond, ◌&&◌, ◌||◌, eqb, leb, ltb, List, [], ◌∷◌, get_or, Option, Some, None, refl, ap, sym, ◌∙◌, subst, ⊎_elim, arith}
use Rattle.std.specs.Prelude.{Contains, not, slice_index}
use Rattle.std.specs.List.{count_by, range_with_len}
use Rattle.std.proofs.lemmas.Bool.{and_from, and_left, and_parts, cases_Bool, cases_eq, cases_lt, eq-eqb, eqb-true, le-leb, lt-ltb, ne_eqb, not-true, not_from_false, or_left, or_right}
use Rattle.dd_blocks.specs.declared.plan.Plan.{Plan}
use Rattle.dd_blocks.specs.Numbered.{task_row}
use Rattle.dd_blocks.specs.WellFormed.{IsWellFormed}
use Rattle.dd_meaning.specs.Moves.{home_of, is_kept_in, is_read_in, moves_to, place_of, source_of, triples_of, versions_in}
use Rattle.dd_meaning.specs.Versions.{tasks_in}
use Rattle.dd_blocks.specs.Elements.{Element}
use Rattle.dd_machine.specs.declared.task_state.TaskState.TheVariants.{Done}
use Rattle.dd_machine.specs.Delivered.{all_done, delivered, delivered_of, has_version, is_delivered}
use Rattle.dd_machine.specs.Legal.{AllDone}
use Rattle.dd_machine.specs.Needed.{version}
use Rattle.dd_machine.specs.Orderly.{IsOrderly}
use Rattle.dd_machine.specs.Sound.{IsSound}
use Rattle.dd_machine.specs.States.{State}
use Rattle.dd_machine.specs.Tests.{Has, is_any, is_done, is_in_state, versions_of}
use Rattle.dd_machine.specs.Words.{IsOf, IsOneOf, blocks, element, size, spaces, tasks}
use Rattle.laws_of_lives.proofs.ElementsLemmas.{touches_used}
use Rattle.laws_of_moved.proofs.BelowLemmas.{below, below_same}
use Rattle.laws_of_moved.proofs.DeliveredLemmas.{delivered_blocks, delivered_same, home_at, version_at}
use Rattle.laws_of_moved.proofs.RegionVersionsLemmas.{home_is, not_all_done}
use Rattle.std.proofs.lemmas.List.Sums.{list_all-from_AllPass, sum_by-cons}
use Rattle.std.proofs.lemmas.List.Elements.{Contains-get_or}
use Rattle.std.proofs.lemmas.Bool.{leb-true}
use Rattle.laws_of_lives.proofs.ElementsLemmas.{placed}
use Rattle.laws_of_lives.proofs.RegionsLemmas.{through_task}
use Rattle.laws_of_versions.proofs.WhereLemmas.{at_replicate}
use Rattle.dd_blocks.specs.declared.task_row.TaskRow.{TaskRow}
use Rattle.dd_machine.specs.declared.copy_state.CopyState.{CopyState}
use Rattle.dd_machine.specs.declared.task_state.TaskState.{TaskState}
use Rattle.dd_machine.specs.Effects.{fresh, in_state}
use Rattle.dd_machine.specs.Legal.{MayClose}
use Rattle.dd_machine.specs.States as states
use Rattle.dd_machine.specs.States.{at_copy, at_one}
use Rattle.dd_machine.proofs.ChangesLemmas.{at_copy_tells, at_one_same}
use Rattle.dd_machine.proofs.TestsLemmas.{any_in_state, current_version, same_at, versions_in_state}
use Rattle.dd_machine.proofs.TotalsLemmas.{total_same}
use Rattle.dd_meaning.specs.Moves.{moved}
use Rattle.dd_meaning.specs.Versions.{opening_version, tasks_through}
use Rattle.dd_blocks.specs.Elements.{task_writes}
use Rattle.dd_machine.specs.Words.{is_of, writes}
use Rattle.dd_views.proofs.ListsLemmas.{in_filter}
use Rattle.laws_of_versions.proofs.ClosedLemmas.{last_writer_le}
use Rattle.laws_of_versions.proofs.ConflictLemmas.{use_of_write, writer_within}
use Rattle.laws_of_moved.proofs.CopyStep.{del_other, del_same}
use Rattle.laws_of_moved.proofs.ElementSumsLemmas.{by_blocks}
use Rattle.laws_of_moved.proofs.OnceLemmas.{sum_same}
use Rattle.laws_of_moved.proofs.RegionVersionsLemmas.{any_of, has_of, of_from}

count_more : (p q : TaskRow → Bool) (xs : List TaskRow) → ((t : TaskRow) → p t ≡ true → q t ≡ true) → count_by p xs ≤ count_by q xs
count_more p q [] h = omega arith
count_more p q (x ∷ xs) h =
    let a = sum_by-cons (λ t. cond (p t) 1 0) x xs in
    let b = sum_by-cons (λ t. cond (q t) 1 0) x xs in
    let c = count_more p q xs h in
    let d : cond (p x) 1 0 ≤ cond (q x) 1 0 = one (p x) (q x) (h x) in
    omega (arith, a, b, c, d)
  where
    one : (s t : Bool) → (s ≡ true → t ≡ true) → cond s 1 0 ≤ cond t 1 0
    one true t k = rw (k refl) (omega arith)
    one false t k = omega arith

-- where no test changes, nothing does
pub none_made : (plan : Plan) → IsWellFormed plan → (st new : State) (r : ℕ)
    → ((b i v s : ℕ) → i < size plan b → Contains (versions_in plan r (element plan b i)) v → IsOneOf (spaces plan) s → moves_to plan r (element plan b i) v s ≡ true → is_delivered plan new r (element plan b i) v s ≡ is_delivered plan st r (element plan b i) v s)
    → delivered plan new r ≡ delivered plan st r
none_made plan well st new r same =
    delivered_blocks plan well new r
    ∙ total_same (blocks plan) (λ b. below (size plan b) (λ i. delivered_of plan new r (element plan b i))) (λ b. below (size plan b) (λ i. delivered_of plan st r (element plan b i)))
    (λ b is. below_same (size plan b) (λ i. delivered_of plan new r (element plan b i)) (λ i. delivered_of plan st r (element plan b i)) (λ i lt. delivered_same plan st new r (element plan b i) (λ v s has s_is moves. same b i v s lt has s_is moves)))
    ∙ sym (delivered_blocks plan well st r)

-- one copy changes, but for its versions
pub none_by_state : (plan : Plan) → IsWellFormed plan → (st : State) (r space block : ℕ) (x : CopyState) → delivered plan (record st { copies = at_copy st.copies space block (in_state x (st.copies space block)) }) r ≡ delivered plan st r
none_by_state plan well st r space block x = none_made plan well st new r
    (λ b i v s lt has is moves. del_same plan st new r (element plan b i) v s refl refl
    (version_at plan well new b i v s lt
    ∙ ap (λ (t : Bool). t && eqb (version new s b i) v) (same_at (is_in_state is_any) st.copies space block (in_state x (st.copies space block)) (any_in_state x (st.copies space block)) s b)
    ∙ ap (λ (vs : List ℕ). is_in_state is_any (st.copies s b) && eqb (slice_index vs i) v) (same_at versions_of st.copies space block (in_state x (st.copies space block)) (versions_in_state x (st.copies space block)) s b)
    ∙ sym (version_at plan well st b i v s lt)))
  where
    new : State
    new = record st { copies = at_copy st.copies space block (in_state x (st.copies space block)) }

-- a task that isn't done stays so
pub none_by_task : (plan : Plan) → IsWellFormed plan → (st : State) (r task : ℕ) (x : TaskState) → IsOf plan r task → is_done (st.tasks task) ≡ false → is_done x ≡ false → delivered plan (record st { tasks = at_one st.tasks task x }) r ≡ delivered plan st r
none_by_task plan well st r task x of old now = none_made plan well st (record st { tasks = at_one st.tasks task x }) r
    (λ b i v s lt has is moves. del_same plan st (record st { tasks = at_one st.tasks task x }) r (element plan b i) v s refl
    (not_all_done plan (record st { tasks = at_one st.tasks task x }) r task of (ap is_done (at_one_same st.tasks task x) ∙ now) ∙ sym (not_all_done plan st r task of old)) refl)

-- no version is as great as the blank one
current_small : (plan : Plan) (st : State) (e : Element) → IsWellFormed plan → IsSound plan st → st.current e ≢ states.blank
current_small plan st e well sound is = ⊎_elim
    (λ (none : st.current e ≡ 0). omega (arith, none, is))
    (λ (some : st.current e ≡ 0 → ⊥).
    let in_tasks = writer_within plan (st.current e) e (sound.lives.current_done e some).1 in
    let few = well.line.tasks in
    omega (arith, in_tasks.1, few, is))
    (cases_eq (st.current e) 0)

-- a new copy has no versions
pub none_by_make : (plan : Plan) → IsWellFormed plan → (st : State) (r space block : ℕ) → IsSound plan st → st.copies space block ≡ None → delivered plan (record st { copies = at_copy st.copies space block (fresh plan block states.blank) }) r ≡ delivered plan st r
none_by_make plan well st r space block sound absent = none_made plan well st new r
    (λ b i v s lt has is moves. ⊎_elim
    (λ (at : v ≡ st.current (element plan b i)). del_same plan st new r (element plan b i) v s refl refl
    (version_at plan well new b i v s lt ∙ ⊎_elim
    (λ (e : (s ≡ space) × (b ≡ block) × (at_copy st.copies space block copy s b ≡ copy)).
    ap (λ (c : Option states.Copy). is_in_state is_any c && eqb (slice_index (versions_of c) i) v) e.2
    ∙ ne_eqb (slice_index (versions_of copy) i) v (λ same.
    current_small plan st (element plan b i) well sound (sym at ∙ sym same ∙ at_replicate (size plan block) states.blank i (subst (λ (x : ℕ). i < size plan x) e.1 lt)))
    ∙ sym (ap (λ (x : ℕ). is_in_state is_any (st.copies x b) && eqb (version st s b i) v) e.0 ∙ ap (λ (y : ℕ). is_in_state is_any (st.copies space y) && eqb (version st s b i) v) e.1 ∙ ap (λ (c : Option states.Copy). is_in_state is_any c && eqb (version st s b i) v) absent))
    (λ (e : (s ≡ space → b ≡ block → ⊥) × (at_copy st.copies space block copy s b ≡ st.copies s b)).
    ap (λ (c : Option states.Copy). is_in_state is_any c && eqb (slice_index (versions_of c) i) v) e.1)
    (at_copy_tells st.copies space block copy s b)
    ∙ sym (version_at plan well st b i v s lt)))
    (λ (off : v ≡ st.current (element plan b i) → ⊥). del_other plan st new r (element plan b i) v s refl off)
    (cases_eq v (st.current (element plan b i))))
  where
    copy : Option states.Copy
    copy = fresh plan block states.blank

    new : State
    new = record st { copies = at_copy st.copies space block copy }

-- every task is done
pub every_done : (plan : Plan) (st : State) (r : ℕ) → AllDone plan st r → all_done plan st r ≡ true
every_done plan st r all = list_all-from_AllPass (λ t. is_done (st.tasks t)) (tasks_in plan r) (λ k d lt. ap is_done (all (get_or (tasks_in plan r) k d) (has_of plan r (get_or (tasks_in plan r) k d) (Contains-get_or (tasks_in plan r) k d lt))))

-- a copy away from home goes where all tasks are done
pub none_by_free : (plan : Plan) → IsWellFormed plan → (st : State) (r space block : ℕ) → IsSound plan st → st.region ≡ Some r → AllDone plan st r → (st.homes block ≡ space → ⊥) → delivered plan (record st { copies = at_copy st.copies space block None }) r ≡ delivered plan st r
none_by_free plan well st r space block sound open_is all away = none_made plan well st new r
    (λ b i v s lt has is moves. ⊎_elim
    (λ (e : (s ≡ space) × (b ≡ block) × (at_copy st.copies space block None s b ≡ None)).
    let el = element plan b i in
    let block_is = (placed plan well b i lt).block in
    let off : eqb (home_of plan r el) s ≡ false = ne_eqb (home_of plan r el) s (λ same. away (ap st.homes (sym e.1) ∙ home_is plan st r b well sound.lives open_is block_is ∙ sym (home_at plan well r b i lt) ∙ same ∙ e.0)) in
    let third : (all_done plan st r && not (eqb (home_of plan r el) s)) ≡ true = and_from (all_done plan st r) (not (eqb (home_of plan r el) s)) (every_done plan st r all) (not_from_false (eqb (home_of plan r el) s) off) in
    by_third r el v s third)
    (λ (e : (s ≡ space → b ≡ block → ⊥) × (at_copy st.copies space block None s b ≡ st.copies s b)).
    del_same plan st new r (element plan b i) v s refl refl
    (version_at plan well new b i v s lt ∙ ap (λ (c : Option states.Copy). is_in_state is_any c && eqb (slice_index (versions_of c) i) v) e.1 ∙ sym (version_at plan well st b i v s lt)))
    (at_copy_tells st.copies space block None s b))
  where
    new : State
    new = record st { copies = at_copy st.copies space block None }

    or_true : (x : Bool) → (x || true) ≡ true
    or_true true = refl
    or_true false = refl

    by_third : (r : ℕ) (e : Element) (v s : ℕ) → (all_done plan st r && not (eqb (home_of plan r e) s)) ≡ true → is_delivered plan new r e v s ≡ is_delivered plan st r e v s
    by_third r e v s third =
        ap (λ (t : Bool). leb v (st.current e) && (ltb v (st.current e) || (has_version plan new e v s || t))) third ∙ ap (λ (t : Bool). leb v (st.current e) && (ltb v (st.current e) || t)) (or_true (has_version plan new e v s))
        ∙ sym (ap (λ (t : Bool). leb v (st.current e) && (ltb v (st.current e) || (has_version plan st e v s || t))) third ∙ ap (λ (t : Bool). leb v (st.current e) && (ltb v (st.current e) || t)) (or_true (has_version plan st e v s)))

-- ---- the end

pub wrote_is : (plan : Plan) (t : ℕ) (e : Element) → task_writes (task_row plan t) e ≡ true → writes plan t e ≡ true
unfolding writes
wrote_is plan t e h = h

-- more tasks stand up to a later region
pub through_more : (plan : Plan) (r : ℕ) → tasks_through plan (r - 1) ≤ tasks_through plan r
through_more plan r = count_more (λ (t : TaskRow). leb t.region (r - 1)) (λ (t : TaskRow). leb t.region r) plan.tasks (λ t h. le-leb t.region r (let low = leb-true t.region (r - 1) h in omega (arith, low)))

-- a task up to the region that closes is done
before_done : (plan : Plan) (st : State) (r t : ℕ) → IsWellFormed plan → IsOrderly plan → IsSound plan st → st.region ≡ Some r → AllDone plan st r → IsOneOf (tasks plan) t → t ≤ tasks_through plan r → st.tasks t ≡ Done
before_done plan st r t well order sound open_is all is le =
    let up = through_task plan well r t is le in
    ⊎_elim
    (λ (below : (task_row plan t).region < r). sound.lives.closed_done t is (order.closed_below st.progress r t (sound.lives.open_next r open_is) is below))
    (λ (ge : r ≤ (task_row plan t).region). all t (is, (let same : (task_row plan t).region ≡ r = omega (arith, up, ge) in same)))
    (cases_lt (task_row plan t).region r)

-- where a region closes, all that it needs was made
pub all_made : (plan : Plan) → IsWellFormed plan → IsOrderly plan → (st : State) (r : ℕ) → IsSound plan st → MayClose plan st r → delivered plan st r ≡ moved plan r
all_made plan well order st r sound may =
    delivered_blocks plan well st r
    ∙ total_same (blocks plan) (λ b. below (size plan b) (λ i. delivered_of plan st r (element plan b i))) (λ b. below (size plan b) (λ i. triples_of plan r (moves_to plan r) (element plan b i)))
    (λ b is. below_same (size plan b) (λ i. delivered_of plan st r (element plan b i)) (λ i. triples_of plan r (moves_to plan r) (element plan b i)) (λ i lt. each b i lt))
    ∙ sym (by_blocks plan well (triples_of plan r (moves_to plan r)))
  where
    made_all : (b i v s : ℕ) → i < size plan b → Contains (versions_in plan r (element plan b i)) v → moves_to plan r (element plan b i) v s ≡ true → is_delivered plan st r (element plan b i) v s ≡ true
    made_all b i v s lt has moves =
        let e = element plan b i in
        let c = st.current e in
        let low : v ≤ c = below_current b i v lt has in
        and_from (leb v c) (ltb v c || (has_version plan st e v s || (all_done plan st r && not (eqb (home_of plan r e) s)))) (le-leb v c low) (⊎_elim
        (λ (less : v < c). or_left (ltb v c) (has_version plan st e v s || (all_done plan st r && not (eqb (home_of plan r e) s))) (lt-ltb v c less))
        (λ (ge : c ≤ v). or_right (ltb v c) (has_version plan st e v s || (all_done plan st r && not (eqb (home_of plan r e) s))) (⊎_elim
        (λ (home : eqb (home_of plan r e) s ≡ true). or_left (has_version plan st e v s) (all_done plan st r && not (eqb (home_of plan r e) s)) (at_its_home b i v s lt (let same : v ≡ c = omega (arith, low, ge) in same) moves (eqb-true (home_of plan r e) s home)))
        (λ (off : eqb (home_of plan r e) s ≡ false). or_right (has_version plan st e v s) (all_done plan st r && not (eqb (home_of plan r e) s))
        (and_from (all_done plan st r) (not (eqb (home_of plan r e) s)) (every_done plan st r may.all_done) (not_from_false (eqb (home_of plan r e) s) off)))
        (cases_Bool (eqb (home_of plan r e) s))))
        (cases_lt v c))
      where
        below_current : (b i v : ℕ) → i < size plan b → Contains (versions_in plan r (element plan b i)) v → v ≤ st.current (element plan b i)
        below_current b i v lt (zero, has_lt, is) =
            let e = element plan b i in
            let l = last_writer_le plan e (tasks_through plan (r - 1)) in
            ⊎_elim
            (λ (none : opening_version plan r e ≡ 0). omega (arith, none, is))
            (λ (some : opening_version plan r e ≡ 0 → ⊥).
            let wrote = l.1 some in
            let t_is = writer_within plan (opening_version plan r e) e wrote in
            let done = before_done plan st r (opening_version plan r e) well order sound may.open_is may.all_done t_is (let h : opening_version plan r e ≤ tasks_through plan r = let x = l.0 in omega (arith, x, through_more plan r) in h) in
            let le = sound.versions.current_last e (opening_version plan r e) done wrote in
            omega (arith, le, is))
            (cases_eq (opening_version plan r e) 0)
        below_current b i v lt (suc k, has_lt, is) =
            let e = element plan b i in
            let f = in_filter (λ t. task_writes (task_row plan t) e) (tasks_in plan r) v (k, omega (arith, has_lt), is) in
            sound.versions.current_last e v (may.all_done v (has_of plan r v f.0)) (wrote_is plan v e f.1)

        at_its_home : (b i v s : ℕ) → i < size plan b → v ≡ st.current (element plan b i) → moves_to plan r (element plan b i) v s ≡ true → home_of plan r (element plan b i) ≡ s → has_version plan st (element plan b i) v s ≡ true
        at_its_home b i v s lt is moves home =
            let e = element plan b i in
            let c = st.current e in
            let block_is = (placed plan well b i lt).block in
            let parts = and_parts (not (eqb (source_of plan r e v) s)) (is_read_in plan r e v s || is_kept_in plan r e v s) moves in
            let away : eqb (source_of plan r e v) s ≡ false = not-true (eqb (source_of plan r e v) s) parts.0 in
            let of_r : is_of plan r c ≡ true = ⊎_elim
            (λ (h : is_of plan r c ≡ true). h)
            (λ (h : is_of plan r c ≡ false). absurd (
            let from : source_of plan r e v ≡ s =
            ap (source_of plan r e) is ∙ ap (λ (t : Bool). cond t (place_of plan c) (home_of plan r e)) (any_of plan r c ∙ h) ∙ home in
            let k : true ≡ false = sym (eq-eqb (source_of plan r e v) s from) ∙ away in cc))
            (cases_Bool (is_of plan r c)) in
            let of = of_from plan r c of_r in
            let wrote = (sound.lives.current_done e (λ none. let low = of.0.0 in omega (arith, none, low))).1 in
            let live = sound.lives.touched_live r c b may.open_is of (touches_used plan well c b i of.0 lt (use_of_write plan c e wrote)) in
            let h_is : st.homes b ≡ s = home_is plan st r b well sound.lives may.open_is block_is ∙ sym (home_at plan well r b i lt) ∙ home in
            let there : Has st s b is_any = ap (λ (x : ℕ). is_in_state is_any (st.copies x b)) (sym h_is) ∙ sym (sound.lives.home_live b) ∙ live in
            version_at plan well st b i v s lt ∙ and_from (is_in_state is_any (st.copies s b)) (eqb (version st s b i) v) there
            (eq-eqb (version st s b i) v (current_version plan st s b i (may.current s b there) lt ∙ sym is))

    each : (b i : ℕ) → i < size plan b → delivered_of plan st r (element plan b i) ≡ triples_of plan r (moves_to plan r) (element plan b i)
    each b i lt =
        sum_same (λ v. count_by (λ s. moves_to plan r (element plan b i) v s && is_delivered plan st r (element plan b i) v s) (range_with_len 1 (spaces plan))) (λ v. count_by (moves_to plan r (element plan b i) v) (range_with_len 1 (spaces plan))) (versions_in plan r (element plan b i))
        (λ v has. sum_same (λ s. cond (moves_to plan r (element plan b i) v s && is_delivered plan st r (element plan b i) v s) 1 0) (λ s. cond (moves_to plan r (element plan b i) v s) 1 0) (range_with_len 1 (spaces plan))
        (λ s here. ap (λ (t : Bool). cond t 1 0) (⊎_elim
        (λ (m : moves_to plan r (element plan b i) v s ≡ true). and_from (moves_to plan r (element plan b i) v s) (is_delivered plan st r (element plan b i) v s) m (made_all b i v s lt has m) ∙ sym m)
        (λ (m : moves_to plan r (element plan b i) v s ≡ false). and_left (moves_to plan r (element plan b i) v s) (is_delivered plan st r (element plan b i) v s) m ∙ sym m)
        (cases_Bool (moves_to plan r (element plan b i) v s)))))
