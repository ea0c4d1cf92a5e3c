-- No carriage of a region has fewer sends than the moves that the region needs.
use Rattle.std.proofs.Common.{◌≡◌, ◌≢◌, ◌⊎◌, ℕ, zero, suc, ◌+◌, ◌-◌, ◌<◌, ◌≤◌, Bool, true, false, cond, ◌&&◌, ◌||◌, eqb, List, [], ◌∷◌, length, refl, ap, sym, ◌∙◌, subst, inl, inr, ⊎_elim, arith}
use Rattle.std.specs.Prelude.{Contains, not}
use Rattle.std.specs.List.{count_by, list_any, range_with_len, sum_by}
use Rattle.std.proofs.lemmas.Bool.{and_from, and_parts, cases_Bool, cases_eq, eq-eqb, eqb-true, false_from_ne_true, ne_eqb, not-true, or_left, or_right}
use Rattle.dd_blocks.specs.declared.plan.Plan.{Plan}
use Rattle.dd_blocks.specs.Numbered.{task_row}
use Rattle.dd_blocks.specs.WellFormed.{IsWellFormed}
use Rattle.dd_meaning.specs.Moves.{home_of, is_kept_in, is_read_in, moves_to, place_of, source_of, versions_in}
use Rattle.dd_meaning.specs.Versions.{last_version, needed_version, tasks_in}
use Rattle.dd_blocks.specs.Elements.{Element}
use Rattle.dd_machine.specs.Bytes.{when}
use Rattle.dd_machine.specs.Words.{IsOf, blocks, element, place, reads, size, spaces, tasks, total}
use Rattle.laws_of_moved.proofs.BelowLemmas.{below}
use Rattle.std.proofs.lemmas.List.Sums.{sum_by-cons}
use Rattle.laws_of_lives.proofs.ElementsLemmas.{placed}
use Rattle.dd_machine.specs.States.{at_one}
use Rattle.dd_machine.proofs.ChangesLemmas.{at_one_tells}
use Rattle.dd_meaning.specs.Moves.{moved}
use Rattle.dd_meaning.specs.Versions.{opening_version, tasks_through}
use Rattle.dd_blocks.specs.Elements.{task_writes}
use Rattle.dd_machine.specs.Words.{is_of, writes}
use Rattle.dd_views.proofs.ListsLemmas.{in_filter, in_range}
use Rattle.laws_of_versions.proofs.ClosedLemmas.{last_writer_le}
use Rattle.laws_of_versions.proofs.ConflictLemmas.{writer_within}
use Rattle.laws_of_moved.proofs.ElementSumsLemmas.{by_blocks}
use Rattle.laws_of_moved.proofs.RegionVersionsLemmas.{any_of, has_of, is_of_from, of_from}
use Rattle.std.proofs.lemmas.Bool.{or_cases}
use Rattle.dd_meaning.specs.Versions.{last_writer}
use Rattle.laws_of_moved.proofs.RegionVersionsLemmas.{before_region}
use Rattle.dd_blocks.specs.Charges.{block_with}
use Rattle.dd_blocks.specs.Grids.{place_in_block}
use Rattle.dd_blocks.specs.Numbered.{array_row}
use Rattle.dd_machine.specs.Carriage.{Carries, Cells, IsCarriage, MayRun, Step, Send, Run, after_step, first_cells, is_same, sends}
use Rattle.dd_machine.specs.States.{blank}
use Rattle.dd_machine.proofs.TotalsLemmas.{total_le, total_zero, when_false, when_true}
use Rattle.laws_of_lives.proofs.ElementsLemmas.{placed}
use Rattle.laws_of_moved.proofs.BelowLemmas.{below, below_zero}
use Rattle.laws_of_moved.proofs.FinishStep.{reader}
use Rattle.laws_of_moved.proofs.MovedLemmas.{sum_none}
use Rattle.laws_of_moved.proofs.OnceLemmas.{Once, once_filter, once_range, sum_one}
use Rattle.dd_meaning.specs.Moves.{triples_of}
use Rattle.dd_machine.specs.Words.{has_number}
use Rattle.dd_lists.proofs.ListsLemmas.{has_number as has_number_in, number_in}

-- what a send brought, and where
pub record Delivery : Type 0 where
  pub element : Element
  pub version : ℕ
  pub space : ℕ

abbrev pub is_it : Element → ℕ → ℕ → Delivery → Bool
is_it e v s d = is_same d.element e && (eqb d.version v && eqb d.space s)

abbrev pub found : List Delivery → Element → ℕ → ℕ → Bool
found ds e v s = list_any (is_it e v s) ds

is_same_from : (e f : Element) → is_same e f ≡ true → e ≡ f
is_same_from e f h =
    let p = and_parts (eqb e.array f.array) (eqb e.pos f.pos) h in
    let a = eqb-true e.array f.array p.0 in
    let b = eqb-true e.pos f.pos p.1 in
    ap (λ (x : ℕ). let y : Element = record { array = x; pos = e.pos } in y) a ∙ ap (λ (x : ℕ). let y : Element = record { array = f.array; pos = x } in y) b

is_same_at : (e : Element) → is_same e e ≡ true
is_same_at e = and_from (eqb e.array e.array) (eqb e.pos e.pos) (eq-eqb e.array e.array refl) (eq-eqb e.pos e.pos refl)

-- ---- what the cells hold was there from the start, was made there, or was sent

abbrev Comes : Plan → ℕ → List Delivery → ℕ → Element → ℕ → Type 0
Comes plan r ds s e v = ((home_of plan r e ≡ s) × (v ≡ opening_version plan r e)) ⊎ ((IsOf plan r v × (place plan v ≡ s)) ⊎ (found ds e v s ≡ true))

record Holds (plan : Plan) (r : ℕ) (ds : List Delivery) (cells : Cells) : Type 0 where
  cell : (s : ℕ) (e : Element) → cells.held s e ≢ blank → Comes plan r ds s e (cells.held s e)
  read : (u : ℕ) (e : Element) → cells.ran u ≡ true → reads plan u e ≡ true → Comes plan r ds (place plan u) e (needed_version plan e u)

comes_more : (plan : Plan) (r : ℕ) (ds : List Delivery) (d : Delivery) (s : ℕ) (e : Element) (v : ℕ) → Comes plan r ds s e v → Comes plan r (d ∷ ds) s e v
comes_more plan r ds d s e v (inl h) = inl h
comes_more plan r ds d s e v (inr (inl h)) = inr (inl h)
comes_more plan r ds d s e v (inr (inr h)) = inr (inr (or_right (is_it e v s d) (found ds e v s) h))

last_small : (plan : Plan) (e : Element) (n : ℕ) → IsWellFormed plan → last_writer plan e n ≢ blank
last_small plan e n well is = ⊎_elim
    (λ (none : last_writer plan e n ≡ 0). omega (arith, none, is))
    (λ (some : last_writer plan e n ≡ 0 → ⊥).
    let t = writer_within plan (last_writer plan e n) e ((last_writer_le plan e n).1 some) in
    let few = well.line.tasks in
    let high = t.1 in
    omega (arith, high, few, is))
    (cases_eq (last_writer plan e n) 0)

after_send : (plan : Plan) (r : ℕ) (ds : List Delivery) (cells : Cells) (e : Element) (from to : ℕ) → Holds plan r ds cells
    → Holds plan r (record { element = e; version = cells.held from e; space = to } ∷ ds) (after_step plan cells (Send e from to))
after_send plan r ds cells e from to h = record {
  cell = λ s f some. by s f (eqb s to && is_same f e) refl some;
  read = λ u f ran reads_it. comes_more plan r ds d (place plan u) f (needed_version plan f u) (h.read u f ran reads_it);
}
  where
    d : Delivery
    d = record { element = e; version = cells.held from e; space = to }

    by : (s : ℕ) (f : Element) (t : Bool) → (eqb s to && is_same f e) ≡ t → cond (eqb s to && is_same f e) (cells.held from e) (cells.held s f) ≢ blank → Comes plan r (d ∷ ds) s f (cond (eqb s to && is_same f e) (cells.held from e) (cells.held s f))
    by s f true is some =
        let p = and_parts (eqb s to) (is_same f e) is in
        let at : s ≡ to = eqb-true s to p.0 in
        let same : f ≡ e = is_same_from f e p.1 in
        let now : cond (eqb s to && is_same f e) (cells.held from e) (cells.held s f) ≡ cells.held from e = ap (λ (t : Bool). cond t (cells.held from e) (cells.held s f)) is in
        subst (λ (x : ℕ). Comes plan r (d ∷ ds) s f x) (sym now) (inr (inr (or_left (is_it f (cells.held from e) s d) (found ds f (cells.held from e) s)
        (and_from (is_same e f) (eqb (cells.held from e) (cells.held from e) && eqb to s) (ap (is_same e) same ∙ is_same_at e)
        (and_from (eqb (cells.held from e) (cells.held from e)) (eqb to s) (eq-eqb (cells.held from e) (cells.held from e) refl) (eq-eqb to s (sym at)))))))
    by s f false is some =
        let now : cond (eqb s to && is_same f e) (cells.held from e) (cells.held s f) ≡ cells.held s f = ap (λ (t : Bool). cond t (cells.held from e) (cells.held s f)) is in
        subst (λ (x : ℕ). Comes plan r (d ∷ ds) s f x) (sym now) (comes_more plan r ds d s f (cells.held s f) (h.cell s f (λ blank_is. some (now ∙ blank_is))))

after_run : (plan : Plan) (r : ℕ) (ds : List Delivery) (cells : Cells) (t : ℕ) → IsWellFormed plan → Holds plan r ds cells → MayRun plan r cells t → Holds plan r ds (after_step plan cells (Run t))
after_run plan r ds cells t well h may = record {
  cell = λ s f some. by s f (eqb s (place plan t) && writes plan t f) refl some;
  read = λ u f ran reads_it. ⊎_elim
      (λ (e : (u ≡ t) × (at_one cells.ran t true u ≡ true)).
      let reads_t : reads plan t f ≡ true = ap (λ (x : ℕ). reads plan x f) (sym e.0) ∙ reads_it in
      let finds = may.finds f reads_t in
      let c : Comes plan r ds (place plan t) f (cells.held (place plan t) f) = h.cell (place plan t) f (λ is. last_small plan f (t - 1) well (sym finds ∙ is)) in
      subst (λ (x : ℕ). Comes plan r ds (place plan x) f (needed_version plan f x)) (sym e.0) (subst (Comes plan r ds (place plan t) f) finds c))
      (λ (e : (u ≢ t) × (at_one cells.ran t true u ≡ cells.ran u)). h.read u f (sym e.1 ∙ ran) reads_it)
      (at_one_tells cells.ran t true u);
}
  where
    by : (s : ℕ) (f : Element) (b : Bool) → (eqb s (place plan t) && writes plan t f) ≡ b → cond (eqb s (place plan t) && writes plan t f) t (cells.held s f) ≢ blank → Comes plan r ds s f (cond (eqb s (place plan t) && writes plan t f) t (cells.held s f))
    by s f true is some = rw is (inr (inl (may.of_region, sym (eqb-true s (place plan t) (and_parts (eqb s (place plan t)) (writes plan t f) is).0))))
    by s f false is some = let some' = rw is at some in rw is (h.cell s f some')

-- what has to be moved was sent
sent : (plan : Plan) (r : ℕ) (ds : List Delivery) (e : Element) (v s : ℕ) → IsWellFormed plan → not (eqb (source_of plan r e v) s) ≡ true → Comes plan r ds s e v → found ds e v s ≡ true
sent plan r ds e v s well away (inl (home, opening)) = absurd (
    let none : is_of plan r v ≡ false = false_from_ne_true (is_of plan r v) (λ h. before_region plan well r v e opening (of_from plan r v h)) in
    let from : source_of plan r e v ≡ s = ap (λ (t : Bool). cond t (place_of plan v) (home_of plan r e)) (any_of plan r v ∙ none) ∙ home in
    let k : true ≡ false = sym (eq-eqb (source_of plan r e v) s from) ∙ not-true (eqb (source_of plan r e v) s) away in cc)
sent plan r ds e v s well away (inr (inl (of, at))) = absurd (
    let from : source_of plan r e v ≡ s = ap (λ (t : Bool). cond t (place_of plan v) (home_of plan r e)) (any_of plan r v ∙ is_of_from plan r v of) ∙ at in
    let k : true ≡ false = sym (eq-eqb (source_of plan r e v) s from) ∙ not-true (eqb (source_of plan r e v) s) away in cc)
sent plan r ds e v s well away (inr (inr h)) = h

-- the deliveries of a carriage
record Sent (plan : Plan) (r n : ℕ) : Type 0 where
  all : List Delivery
  count : length all ≡ n
  each : (b i v s : ℕ) → i < size plan b → moves_to plan r (element plan b i) v s ≡ true → found all (element plan b i) v s ≡ true

sent_all : (plan : Plan) (r : ℕ) (steps : List Step) (ds : List Delivery) (cells : Cells) → IsWellFormed plan → Holds plan r ds cells → Carries plan r cells steps → Sent plan r (length ds + sends steps)
sent_all plan r [] ds cells well h done = record {
  all = ds;
  count = omega arith;
  each = λ b i v s lt moves.
      let e = element plan b i in
      let p = placed plan well b i lt in
      let parts = and_parts (not (eqb (source_of plan r e v) s)) (is_read_in plan r e v s || is_kept_in plan r e v s) moves in
      sent plan r ds e v s well parts.0 (⊎_elim
      (λ (k : is_read_in plan r e v s ≡ true).
      let u = reader plan r e v s k in
      subst (λ (x : ℕ). Comes plan r ds x e v) u.there (subst (Comes plan r ds (place plan u.task) e) u.need (h.read u.task e (done.all_ran u.task u.of) u.reads_it)))
      (λ (k : is_kept_in plan r e v s ≡ true).
      let q = and_parts (eqb (home_of plan r e) s) (eqb (last_version plan r e) v) k in
      let home = eqb-true (home_of plan r e) s q.0 in
      let last = eqb-true (last_version plan r e) v q.1 in
      let holds = done.home_last e p.array p.pos in
      let c = h.cell (home_of plan r e) e (λ is. last_small plan e (tasks_through plan r) well (sym holds ∙ is)) in
      subst (λ (x : ℕ). Comes plan r ds x e v) home (subst (Comes plan r ds (home_of plan r e) e) (holds ∙ last) c))
      (or_cases (is_read_in plan r e v s) (is_kept_in plan r e v s) parts.1));
}
sent_all plan r (Send e from to ∷ steps) ds cells well h run =
    let d : Delivery = record { element = e; version = cells.held from e; space = to } in
    let more = sent_all plan r steps (d ∷ ds) (after_step plan cells (Send e from to)) well (after_send plan r ds cells e from to h) run.1 in
    record { all = more.all; count = (let c = more.count in omega (arith, c)); each = more.each }
sent_all plan r (Run t ∷ steps) ds cells well h run =
    let more = sent_all plan r steps ds (after_step plan cells (Run t)) well (after_run plan r ds cells t well h run.0) run.1 in
    record { all = more.all; count = more.count; each = more.each }

first_holds : (plan : Plan) (r : ℕ) → Holds plan r [] (first_cells plan r)
first_holds plan r = record {
  cell = λ s e some. by s e (eqb (home_of plan r e) s) refl some;
  read = λ u e ran reads_it. absurd cc;
}
  where
    by : (s : ℕ) (e : Element) (t : Bool) → eqb (home_of plan r e) s ≡ t → cond (eqb (home_of plan r e) s) (opening_version plan r e) blank ≢ blank → Comes plan r [] s e (cond (eqb (home_of plan r e) s) (opening_version plan r e) blank)
    by s e true is some = rw is (inl (eqb-true (home_of plan r e) s is, refl))
    by s e false is some = absurd (some (rw is refl))

-- ---- counting

abbrev counted : Plan → ℕ → (Element → ℕ → ℕ → Bool) → ℕ
counted plan r test = total (blocks plan) (λ b. below (size plan b) (λ i. sum_by (λ v. count_by (λ s. test (element plan b i) v s) (range_with_len 1 (spaces plan))) (versions_in plan r (element plan b i))))

below_le : (n : ℕ) (f g : ℕ → ℕ) → ((i : ℕ) → i < n → f i ≤ g i) → below n f ≤ below n g
below_le zero f g h = omega arith
below_le (suc n) f g h = let a = below_le n f g (λ i lt. h i (omega (arith, lt))) in let b = h n (omega arith) in omega (arith, a, b)

sum_le : (f g : ℕ → ℕ) (xs : List ℕ) → ((x : ℕ) → Contains xs x → f x ≤ g x) → sum_by f xs ≤ sum_by g xs
sum_le f g [] h = omega arith
sum_le f g (x ∷ xs) h =
    let a = sum_by-cons f x xs in
    let b = sum_by-cons g x xs in
    let c = sum_le f g xs (λ y has. h y (suc has.0, omega (arith, has.1), has.2)) in
    let d = h x (0, omega arith, refl) in
    omega (arith, a, b, c, d)

pub moved_counted : (plan : Plan) → IsWellFormed plan → (r : ℕ) → moved plan r ≡ counted plan r (moves_to plan r)
moved_counted plan well r = by_blocks plan well (triples_of plan r (moves_to plan r))

one_if : (s t : Bool) → (s ≡ true → t ≡ true) → cond s 1 0 ≤ cond t 1 0
one_if true t k = rw (k refl) (omega arith)
one_if false t k = omega arith

counted_le : (plan : Plan) (r : ℕ) (p q : Element → ℕ → ℕ → Bool) → ((b i v s : ℕ) → i < size plan b → p (element plan b i) v s ≡ true → q (element plan b i) v s ≡ true) → counted plan r p ≤ counted plan r q
counted_le plan r p q h = total_le (blocks plan)
    (λ b. below (size plan b) (λ i. sum_by (λ v. count_by (λ s. p (element plan b i) v s) (range_with_len 1 (spaces plan))) (versions_in plan r (element plan b i))))
    (λ b. below (size plan b) (λ i. sum_by (λ v. count_by (λ s. q (element plan b i) v s) (range_with_len 1 (spaces plan))) (versions_in plan r (element plan b i))))
    (λ b is. below_le (size plan b) (λ i. sum_by (λ v. count_by (λ s. p (element plan b i) v s) (range_with_len 1 (spaces plan))) (versions_in plan r (element plan b i))) (λ i. sum_by (λ v. count_by (λ s. q (element plan b i) v s) (range_with_len 1 (spaces plan))) (versions_in plan r (element plan b i)))
    (λ i lt. sum_le (λ v. count_by (λ s. p (element plan b i) v s) (range_with_len 1 (spaces plan))) (λ v. count_by (λ s. q (element plan b i) v s) (range_with_len 1 (spaces plan))) (versions_in plan r (element plan b i))
    (λ v has. sum_le (λ s. cond (p (element plan b i) v s) 1 0) (λ s. cond (q (element plan b i) v s) 1 0) (range_with_len 1 (spaces plan)) (λ s here. one_if (p (element plan b i) v s) (q (element plan b i) v s) (h b i v s lt)))))

-- a number that stands once in a list or not at all
abbrev AtMostOnce : List ℕ → Type 0
AtMostOnce xs = (x : ℕ) → Contains xs x → Once xs x

-- the versions of a region stand once each
versions_once : (plan : Plan) (r : ℕ) (e : Element) → IsWellFormed plan → AtMostOnce (versions_in plan r e)
versions_once plan r e well v (zero, lt, is) = inl (
  is,
  λ has.
      let f = in_filter (λ t. task_writes (task_row plan t) e) (tasks_in plan r) v has in
      before_region plan well r v e (sym is) (has_of plan r v f.0),
)
versions_once plan r e well v (suc k, lt, is) =
    let f = in_filter (λ t. task_writes (task_row plan t) e) (tasks_in plan r) v (k, omega (arith, lt), is) in
    let of = has_of plan r v f.0 in
    inr (
      (λ same. before_region plan well r v e (sym same) of),
      once_filter (λ t. task_writes (task_row plan t) e) (tasks_in plan r) v (once_filter (λ t. eqb (task_row plan t).region r) (range_with_len 1 (tasks plan)) v (once_range 1 (tasks plan) v of.0.0 (omega (arith, of.0.1))) (eq-eqb (task_row plan v).region r of.1)) f.1,
    )

-- a sum over such a list of what is told by one number is at most one
one_in : (xs : List ℕ) (v : ℕ) (k : ℕ) → AtMostOnce xs → sum_by (λ x. when (eqb v x) k) xs ≤ k
one_in xs v k once = ⊎_elim
    (λ (some : has_number xs v ≡ true).
    let one = once v (number_in xs v some) in
    let e = sum_one (λ x. when (eqb v x) k) (λ x. 0) xs v k one (when_true (eqb v v) k (eq-eqb v v refl) ∙ (let z : k ≡ 0 + k = omega arith in z)) (λ x has ne. when_false (eqb v x) k (ne_eqb v x (λ same. ne (sym same)))) in
    let z = sum_none (λ x. 0) xs (λ x has. refl) in
    omega (arith, e, z))
    (λ (none : has_number xs v ≡ false).
    let z = sum_none (λ x. when (eqb v x) k) xs (λ x has. when_false (eqb v x) k (ne_eqb v x (λ same.
    let c : true ≡ false = sym (has_number_in xs v (subst (Contains xs) (sym same) has)) ∙ none in cc))) in
    omega (arith, z))
    (cases_Bool (has_number xs v))

-- ---- each delivery is counted once at most

sum_le_add : (f g h : ℕ → ℕ) (xs : List ℕ) → ((x : ℕ) → f x ≤ g x + h x) → sum_by f xs ≤ sum_by g xs + sum_by h xs
sum_le_add f g h [] le = omega arith
sum_le_add f g h (x ∷ xs) le =
    let a = sum_by-cons f x xs in
    let b = sum_by-cons g x xs in
    let c = sum_by-cons h x xs in
    let d = sum_le_add f g h xs le in
    let e = le x in
    omega (arith, a, b, c, d, e)

below_le_add : (n : ℕ) (f g h : ℕ → ℕ) → ((x : ℕ) → f x ≤ g x + h x) → below n f ≤ below n g + below n h
below_le_add zero f g h le = omega arith
below_le_add (suc n) f g h le = let a = below_le_add n f g h le in let b = le n in omega (arith, a, b)

total_le_add : (n : ℕ) (f g h : ℕ → ℕ) → ((x : ℕ) → f x ≤ g x + h x) → total n f ≤ total n g + total n h
total_le_add zero f g h le = omega arith
total_le_add (suc n) f g h le = let a = total_le_add n f g h le in let b = le (suc n) in omega (arith, a, b)

counted_add : (plan : Plan) (r : ℕ) (p q t : Element → ℕ → ℕ → Bool) → ((e : Element) (v s : ℕ) → cond (p e v s) 1 0 ≤ cond (q e v s) 1 0 + cond (t e v s) 1 0) → counted plan r p ≤ counted plan r q + counted plan r t
counted_add plan r p q t le = total_le_add (blocks plan) (part p) (part q) (part t)
    (λ b. below_le_add (size plan b) (inner p b) (inner q b) (inner t b)
    (λ i. sum_le_add (λ v. count_by (λ s. p (element plan b i) v s) (range_with_len 1 (spaces plan))) (λ v. count_by (λ s. q (element plan b i) v s) (range_with_len 1 (spaces plan))) (λ v. count_by (λ s. t (element plan b i) v s) (range_with_len 1 (spaces plan))) (versions_in plan r (element plan b i))
    (λ v. sum_le_add (λ s. cond (p (element plan b i) v s) 1 0) (λ s. cond (q (element plan b i) v s) 1 0) (λ s. cond (t (element plan b i) v s) 1 0) (range_with_len 1 (spaces plan)) (λ s. le (element plan b i) v s))))
  where
    inner : (Element → ℕ → ℕ → Bool) → ℕ → ℕ → ℕ
    inner p b i = sum_by (λ v. count_by (λ s. p (element plan b i) v s) (range_with_len 1 (spaces plan))) (versions_in plan r (element plan b i))

    part : (Element → ℕ → ℕ → Bool) → ℕ → ℕ
    part p b = below (size plan b) (inner p b)

or_sum : (a b : Bool) → cond (a || b) 1 0 ≤ cond a 1 0 + cond b 1 0
or_sum true b = omega arith
or_sum false b = omega arith

total_at_most : (n k x : ℕ) → total n (λ i. when (eqb k i) x) ≤ x
total_at_most zero k x = omega arith
total_at_most (suc n) k x = ⊎_elim
    (λ (e : k ≡ suc n).
    let rest = total_zero n (λ i. when (eqb k i) x) (λ i is. when_false (eqb k i) x (ne_eqb k i (λ same. let high = is.1 in omega (arith, same, e, high)))) in
    let last = when_true (eqb k (suc n)) x (eq-eqb k (suc n) e) in
    omega (arith, rest, last))
    (λ (ne : k ≡ suc n → ⊥). let rest = total_at_most n k x in let last = when_false (eqb k (suc n)) x (ne_eqb k (suc n) ne) in omega (arith, rest, last))
    (cases_eq k (suc n))

below_at_most : (n k x : ℕ) → below n (λ i. when (eqb k i) x) ≤ x
below_at_most zero k x = omega arith
below_at_most (suc n) k x = ⊎_elim
    (λ (e : k ≡ n).
    let rest = below_zero n (λ i. when (eqb k i) x) (λ i lt. when_false (eqb k i) x (ne_eqb k i (λ same. omega (arith, same, e, lt)))) in
    let last = when_true (eqb k n) x (eq-eqb k n e) in
    omega (arith, rest, last))
    (λ (ne : k ≡ n → ⊥). let rest = below_at_most n k x in let last = when_false (eqb k n) x (ne_eqb k n ne) in omega (arith, rest, last))
    (cases_eq k n)

range_once : (a n : ℕ) → AtMostOnce (range_with_len a n)
range_once a n x has = let range = in_range a n x has in once_range a n x range.0 range.1

-- at one element
single_at : (plan : Plan) (r : ℕ) (d : Delivery) (e : Element) → IsWellFormed plan → sum_by (λ v. count_by (λ s. is_it e v s d) (range_with_len 1 (spaces plan))) (versions_in plan r e) ≤ when (is_same d.element e) 1
single_at plan r d e well = by (is_same d.element e)
  where
    spread : (t u : Bool) → sum_by (λ s. cond (t && (u && eqb d.space s)) 1 0) (range_with_len 1 (spaces plan)) ≤ when (t && u) 1
    spread true true = one_in (range_with_len 1 (spaces plan)) d.space 1 (range_once 1 (spaces plan))
    spread true false = let z = sum_none (λ s. 0) (range_with_len 1 (spaces plan)) (λ s has. refl) in omega (arith, z)
    spread false u = let z = sum_none (λ s. 0) (range_with_len 1 (spaces plan)) (λ s has. refl) in omega (arith, z)

    by : (t : Bool) → sum_by (λ v. sum_by (λ s. cond (t && (eqb d.version v && eqb d.space s)) 1 0) (range_with_len 1 (spaces plan))) (versions_in plan r e) ≤ when t 1
    by true =
        let a = sum_le (λ v. sum_by (λ s. cond (eqb d.version v && eqb d.space s) 1 0) (range_with_len 1 (spaces plan))) (λ v. when (eqb d.version v) 1) (versions_in plan r e) (λ v has. spread true (eqb d.version v)) in
        let b = one_in (versions_in plan r e) d.version 1 (versions_once plan r e well) in
        omega (arith, a, b)
    by false =
        let z = sum_none (λ v. sum_by (λ s. 0) (range_with_len 1 (spaces plan))) (versions_in plan r e) (λ v has. sum_none (λ s. 0) (range_with_len 1 (spaces plan)) (λ s here. refl)) in
        omega (arith, z)

single : (plan : Plan) (r : ℕ) (d : Delivery) → IsWellFormed plan → counted plan r (λ e v s. is_it e v s d) ≤ 1
single plan r d well =
    let block = block_with plan d.element.array d.element.pos in
    let spot = place_in_block (array_row plan d.element.array).grid d.element.pos in
    let a = total_le (blocks plan) (λ b. below (size plan b) (λ i. sum_by (λ v. count_by (λ s. is_it (element plan b i) v s d) (range_with_len 1 (spaces plan))) (versions_in plan r (element plan b i)))) (λ b. when (eqb block b) 1)
    (λ b is.
    let x = below_le (size plan b) (λ i. sum_by (λ v. count_by (λ s. is_it (element plan b i) v s d) (range_with_len 1 (spaces plan))) (versions_in plan r (element plan b i))) (λ i. when (eqb spot i) (when (eqb block b) 1))
    (λ i lt. let y = single_at plan r d (element plan b i) well in let z = where_is b i lt in omega (arith, y, z)) in
    let y = below_at_most (size plan b) spot (when (eqb block b) 1) in
    omega (arith, x, y)) in
    let b = total_at_most (blocks plan) block 1 in
    omega (arith, a, b)
  where
    where_is : (b i : ℕ) → i < size plan b → when (is_same d.element (element plan b i)) 1
        ≤ when (eqb (place_in_block (array_row plan d.element.array).grid d.element.pos) i) (when (eqb (block_with plan d.element.array d.element.pos) b) 1)
    where_is b i lt = ⊎_elim
        (λ (h : is_same d.element (element plan b i) ≡ true).
        let same = is_same_from d.element (element plan b i) h in
        let p = placed plan well b i lt in
        let at_block : block_with plan d.element.array d.element.pos ≡ b = ap (λ (x : Element). block_with plan x.array x.pos) same ∙ p.back in
        let at_place : place_in_block (array_row plan d.element.array).grid d.element.pos ≡ i = ap (λ (x : Element). place_in_block (array_row plan x.array).grid x.pos) same ∙ p.place in
        let one = when_true (is_same d.element (element plan b i)) 1 h in
        let outer = when_true (eqb (place_in_block (array_row plan d.element.array).grid d.element.pos) i) (when (eqb (block_with plan d.element.array d.element.pos) b) 1) (eq-eqb (place_in_block (array_row plan d.element.array).grid d.element.pos) i at_place) in
        let inner = when_true (eqb (block_with plan d.element.array d.element.pos) b) 1 (eq-eqb (block_with plan d.element.array d.element.pos) b at_block) in
        omega (arith, one, outer, inner))
        (λ (h : is_same d.element (element plan b i) ≡ false). let none = when_false (is_same d.element (element plan b i)) 1 h in omega (arith, none))
        (cases_Bool (is_same d.element (element plan b i)))

counted_none : (plan : Plan) (r : ℕ) → counted plan r (λ e v s. false) ≡ 0
counted_none plan r = total_zero (blocks plan) (λ b. below (size plan b) (λ i. sum_by (λ v. count_by (λ s. false) (range_with_len 1 (spaces plan))) (versions_in plan r (element plan b i))))
    (λ b is. below_zero (size plan b) (λ i. sum_by (λ v. count_by (λ s. false) (range_with_len 1 (spaces plan))) (versions_in plan r (element plan b i)))
    (λ i lt. sum_none (λ v. count_by (λ s. false) (range_with_len 1 (spaces plan))) (versions_in plan r (element plan b i)) (λ v has. sum_none (λ s. 0) (range_with_len 1 (spaces plan)) (λ s here. refl))))

few_found : (plan : Plan) (r : ℕ) (ds : List Delivery) → IsWellFormed plan → counted plan r (found ds) ≤ length ds
few_found plan r [] well = let z = counted_none plan r in omega (arith, z)
few_found plan r (d ∷ ds) well =
    let a = counted_add plan r (found (d ∷ ds)) (λ e v s. is_it e v s d) (found ds) (λ e v s. or_sum (is_it e v s d) (found ds e v s)) in
    let b = single plan r d well in
    let c = few_found plan r ds well in
    omega (arith, a, b, c)

pub least_sends : (plan : Plan) (r : ℕ) (steps : List Step) → IsWellFormed plan → IsCarriage plan r steps → moved plan r ≤ sends steps
least_sends plan r steps well carriage =
    let s = sent_all plan r steps [] (first_cells plan r) well (first_holds plan r) carriage in
    let a = moved_counted plan well r in
    let b = counted_le plan r (moves_to plan r) (found s.all) s.each in
    let c = few_found plan r s.all well in
    let d = s.count in
    omega (arith, a, b, c, d)
