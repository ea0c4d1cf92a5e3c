-- The extents of tasks, one access after another and one task after another.
use Rattle.std.proofs.Common.{◌≡◌, ◌≢◌, ◌≤◌, ◌<◌, ◌+◌, ◌↔◌, ℕ, zero, suc, List, [], ◌∷◌, ◌++◌, length, get_or, take, drop, ⊎_elim, ap, sym, ◌∙◌, subst, append_assoc, arith, add-one}
use Rattle.std.specs.List.{All, Any, Contains}
use Rattle.std.specs.List.Sorted.{IsPermutation, IsStrictlyIncreasing}
use Rattle.std.proofs.lemmas.List.Sorted.{Contains-permutation, IsPermutation-sym}
use Rattle.std.proofs.lemmas.Bool.{cases_eq}
use Rattle.std.proofs.lemmas.List.{append-nil, get_or_default, take-append-drop, take_all, take_more}
use Rattle.std.proofs.Math.Seq.{drop-append_seam, take-append_seam}
use Rattle.std.proofs.lemmas.List.Elements.{All-contains, Contains-append_cases, Contains-append_left, Contains-append_right, Contains-get_or, Contains-push, Contains-push_cases}
use Rattle.dd_views.specs.declared.shape.Shape.{Shape}
use Rattle.dd_views.specs.IndexList.{index_list}
use Rattle.dd_views.specs.Views.{IsViewOf}
use Rattle.dd_blocks.specs.declared.access_row.AccessRow.{AccessRow}
use Rattle.dd_blocks.specs.declared.task_row.TaskRow.{TaskRow}
use Rattle.dd_blocks.specs.Conflicts.{AreDependencies, MustPrecede}
use Rattle.dd_blocks.specs.Numbered.{no_task, numbered}
use Rattle.dd_alias.specs.declared.extent.Extent.{Extent}
use Rattle.dd_alias.specs.Clashes.{Clash}
use Rattle.dd_alias.specs.Extents.{AreShown}
use Rattle.dd_alias.specs.Shapes.{AreViewsBy}
use Rattle.dd_alias.specs.Waits.{AreOfTasks, AreOwn, AreWaits, IsBefore, IsEarlier}
use Rattle.dd_alias.proofs.ConflictLemmas.{conflict_is_clash}

any_of : {X : Type 0} (P : X → Type 0) (xs : List X) (x : X) → Contains xs x → P x → Any P xs
any_of P xs x has holds = (has.0, x, has.1, has.2, holds)

any_in : {X : Type 0} (P : X → Type 0) (xs : List X) (any : Any P xs) → Contains xs any.1
any_in P xs any = (any.0, any.2, any.3)

-- more elements on either side
any_left : {X : Type 0} (P : X → Type 0) (xs ys : List X) → Any P xs → Any P (xs ++ ys)
any_left P xs ys any = any_of P (xs ++ ys) any.1 (Contains-append_left xs ys any.1 (any_in P xs any)) any.4

any_right : {X : Type 0} (P : X → Type 0) (xs ys : List X) → Any P ys → Any P (xs ++ ys)
any_right P xs ys any = any_of P (xs ++ ys) any.1 (Contains-append_right xs ys any.1 (any_in P ys any)) any.4

own_none : (number : ℕ) → AreOwn number [] []
own_none number = record {
  task = λ e has. absurd (omega (arith, has.1));
  of = λ e has. absurd (omega (arith, has.1));
  all = λ a x has there. absurd (omega (arith, has.1));
}

-- an access more, which has an extent
own_more : (number : ℕ) (accesses : List AccessRow) (i : ℕ) (a : AccessRow) (extents : List Extent) (e : Extent) → take (i + 1) accesses ≡ take i accesses ++ a ∷ [] → e.task ≡ number → e.access.now ≡ a
    → AreOwn number (take i accesses) extents → AreOwn number (take (i + 1) accesses) (extents ++ e ∷ [])
own_more number accesses i a extents e more task access own = rw more (record {
  task = λ o has.
      ⊎_elim
      (λ (before : Contains extents o). own.task o before)
      (λ (last : e ≡ o). ap (λ (x : Extent). x.task) (sym last) ∙ task)
      (Contains-push_cases extents e o has);
  of = λ o has.
      ⊎_elim
      (λ (before : Contains extents o). Contains-append_left (take i accesses) (a ∷ []) o.access.now (own.of o before))
      (λ (last : e ≡ o). subst (λ (x : AccessRow). Contains (take i accesses ++ a ∷ []) x) (sym access ∙ ap (λ (x : Extent). x.access.now) last) (Contains-push (take i accesses) a))
      (Contains-push_cases extents e o has);
  all = λ b x has there.
      ⊎_elim
      (λ (before : Contains (take i accesses) b). any_left (λ (o : Extent). o.access.now ≡ b) extents (e ∷ []) (own.all b x before there))
      (λ (last : a ≡ b). any_of (λ (o : Extent). o.access.now ≡ b) (extents ++ e ∷ []) e (Contains-push extents e) (access ∙ last))
      (Contains-push_cases (take i accesses) a b has);
})

-- an access more, which has no elements
own_same : (number : ℕ) (accesses : List AccessRow) (i : ℕ) (a : AccessRow) (extents : List Extent) → take (i + 1) accesses ≡ take i accesses ++ a ∷ [] → ((x : ℕ) → ¬ Contains (index_list a.view) x)
    → AreOwn number (take i accesses) extents → AreOwn number (take (i + 1) accesses) extents
own_same number accesses i a extents more none own = rw more (record {
  task = own.task;
  of = λ o has. Contains-append_left (take i accesses) (a ∷ []) o.access.now (own.of o has);
  all = λ b x has there.
      ⊎_elim
      (λ (before : Contains (take i accesses) b). own.all b x before there)
      (λ (last : a ≡ b). absurd (none x (subst (λ (y : AccessRow). Contains (index_list y.view) x) (sym last) there)))
      (Contains-push_cases (take i accesses) a b has);
})

-- the extents of the first so many accesses of a task were added to some
abbrev pub AreAdded : ℕ → List AccessRow → ℕ → List Extent → List Extent → Type 0
AreAdded number accesses i old new = (added : List Extent) × (new ≡ old ++ added) × AreOwn number (take i accesses) added

pub added_none : (number : ℕ) (accesses : List AccessRow) (old : List Extent) → AreAdded number accesses 0 old old
added_none number accesses old = ([], sym (append-nil old), own_none number)

pub added_more : (number : ℕ) (accesses : List AccessRow) (i : ℕ) (d : AccessRow) (start old new : List Extent) (e : Extent) → i < length accesses → e.task ≡ number → e.access.now ≡ get_or accesses i d → new ≡ old ++ e ∷ []
    → AreAdded number accesses i start old → AreAdded number accesses (i + 1) start new
added_more number accesses i d start old new e within task access is so_far = (
  so_far.0 ++ e ∷ [],
  is ∙ ap (λ (xs : List Extent). xs ++ e ∷ []) so_far.1 ∙ append_assoc start so_far.0 (e ∷ []),
  own_more number accesses i (get_or accesses i d) so_far.0 e (take_more accesses i d within) task access so_far.2,
)

pub added_same : (number : ℕ) (accesses : List AccessRow) (i : ℕ) (d : AccessRow) (start old : List Extent) → i < length accesses → ((x : ℕ) → ¬ Contains (index_list (get_or accesses i d).view) x)
    → AreAdded number accesses i start old → AreAdded number accesses (i + 1) start old
added_same number accesses i d start old within none so_far =
    (so_far.0, so_far.1, own_same number accesses i (get_or accesses i d) so_far.0 (take_more accesses i d within) none so_far.2)

pub added_front : (number : ℕ) (accesses : List AccessRow) (i : ℕ) (old new : List Extent) → AreAdded number accesses i old new → take (length old) new ≡ old
added_front number accesses i old new added = ap (λ (xs : List Extent). take (length old) xs) added.1 ∙ take-append_seam old added.0

pub added_back : (number : ℕ) (accesses : List AccessRow) (i : ℕ) (old new : List Extent) → length accesses ≤ i → AreAdded number accesses i old new → AreOwn number accesses (drop (length old) new)
added_back number accesses i old new all added =
    let same : drop (length old) new ≡ added.0 = ap (λ (xs : List Extent). drop (length old) xs) added.1 ∙ drop-append_seam old added.0 in
    subst (λ (xs : List Extent). AreOwn number accesses xs) (sym same) (subst (λ (xs : List AccessRow). AreOwn number xs added.0) (take_all i accesses all) added.2)

-- the task at an index, by its number
task_at : (tasks : List TaskRow) (i : ℕ) (x : TaskRow) → i < length tasks → x ≡ get_or tasks i x → numbered no_task tasks (i + 1) ≡ x
task_at tasks i x within is = rw add-one (get_or_default tasks i no_task x within ∙ sym is)

pub accesses_at : (tasks : List TaskRow) (i : ℕ) (x : TaskRow) (accesses : List AccessRow) → i < length tasks → x ≡ get_or tasks i x → accesses ≡ (get_or tasks i x).accesses → (numbered no_task tasks (i + 1)).accesses ≡ accesses
accesses_at tasks i x accesses within is of = ap (λ (t : TaskRow). t.accesses) (task_at tasks i x within is ∙ is) ∙ sym of

pub views_at : (shape_at : ℕ → Shape) (tasks : List TaskRow) (i : ℕ) (x : TaskRow) (accesses : List AccessRow) → All (λ (t : TaskRow). AreViewsBy shape_at t.accesses) tasks → i < length tasks → x ≡ get_or tasks i x → accesses ≡ (get_or tasks i x).accesses → AreViewsBy shape_at accesses
views_at shape_at tasks i x accesses all within is of = subst (λ (xs : List AccessRow). AreViewsBy shape_at xs) (sym of) (all i x within)

pub tasks_none : (tasks : List TaskRow) → AreOfTasks tasks 0 []
tasks_none tasks = record {
  low = λ e has. absurd (omega (arith, has.1));
  high = λ e has. absurd (omega (arith, has.1));
  of = λ e has. absurd (omega (arith, has.1));
  all = λ u a x low high has there. absurd (omega arith);
}

-- a task more
pub tasks_more : (tasks : List TaskRow) (count : ℕ) (old own : List Extent) → AreOfTasks tasks count old → AreOwn (count + 1) (numbered no_task tasks (count + 1)).accesses own → AreOfTasks tasks (count + 1) (old ++ own)
tasks_more tasks count old own so_far added = record {
  low = λ e has.
      ⊎_elim
      (λ (before : Contains old e). so_far.low e before)
      (λ (here : Contains own e). omega (arith, added.task e here))
      (Contains-append_cases old own e has);
  high = λ e has.
      ⊎_elim
      (λ (before : Contains old e). omega (arith, so_far.high e before))
      (λ (here : Contains own e). omega (arith, added.task e here))
      (Contains-append_cases old own e has);
  of = λ e has.
      ⊎_elim
      (λ (before : Contains old e). so_far.of e before)
      (λ (here : Contains own e). subst (λ (n : ℕ). Contains (numbered no_task tasks n).accesses e.access.now) (sym (added.task e here)) (added.of e here))
      (Contains-append_cases old own e has);
  all = λ u a x low high has there.
      let P = λ (e : Extent). (e.task ≡ u) × (e.access.now ≡ a) in
      ⊎_elim
      (λ (last : u ≡ count + 1).
      let any = added.all a x (subst (λ (n : ℕ). Contains (numbered no_task tasks n).accesses a) last has) there in
      let here : Contains own any.1 = (any.0, any.2, any.3) in
      any_of P (old ++ own) any.1 (Contains-append_right old own any.1 here) (added.task any.1 here ∙ sym last, any.4))
      (λ (before : u ≢ count + 1). any_left P old own (so_far.all u a x low (omega arith) has there))
      (cases_eq u (count + 1));
}

-- the same where both are kept in one list
pub tasks_grow : (tasks : List TaskRow) (count n : ℕ) (old new : List Extent) → take n new ≡ old → AreOfTasks tasks count old → AreOwn (count + 1) (numbered no_task tasks (count + 1)).accesses (drop n new) → AreOfTasks tasks (count + 1) new
tasks_grow tasks count n old new before so_far added =
    subst (λ (xs : List Extent). AreOfTasks tasks (count + 1) xs) (ap (λ (xs : List Extent). xs ++ drop n new) (sym before) ∙ take-append-drop n new) (tasks_more tasks count old (drop n new) so_far added)

pub all_earlier : (tasks : List TaskRow) (count : ℕ) (extents : List Extent) → AreOfTasks tasks count extents → All (IsEarlier (count + 1)) extents
all_earlier tasks count extents are k d within =
    let here = Contains-get_or extents k d within in
    (are.low (get_or extents k d) here, omega (arith, are.high (get_or extents k d) here))

-- each is a view by the shapes of the tasks
pub shown_own : (shape_at : ℕ → Shape) (number : ℕ) (accesses : List AccessRow) (extents : List Extent) → AreViewsBy shape_at accesses → AreOwn number accesses extents → AreShown shape_at extents
shown_own shape_at number accesses extents views own k d within =
    let e = get_or extents k d in
    All-contains (λ (a : AccessRow). IsViewOf (shape_at a.view.array) a.view) accesses e.access.now views (own.of e (Contains-get_or extents k d within))

views_of : (shape_at : ℕ → Shape) (tasks : List TaskRow) (n : ℕ) → All (λ (t : TaskRow). AreViewsBy shape_at t.accesses) tasks → 1 ≤ n → n ≤ length tasks → AreViewsBy shape_at (numbered no_task tasks n).accesses
views_of shape_at tasks zero all low high = absurd (omega arith)
views_of shape_at tasks (suc n) all low high = all n no_task (omega arith)

pub shown_of_tasks : (shape_at : ℕ → Shape) (tasks : List TaskRow) (count : ℕ) (extents : List Extent) → All (λ (t : TaskRow). AreViewsBy shape_at t.accesses) tasks → count ≤ length tasks → AreOfTasks tasks count extents → AreShown shape_at extents
shown_of_tasks shape_at tasks count extents all within are k d below =
    let e = get_or extents k d in
    let here = Contains-get_or extents k d below in
    All-contains (λ (a : AccessRow). IsViewOf (shape_at a.view.array) a.view) (numbered no_task tasks e.task).accesses e.access.now
    (views_of shape_at tasks e.task all (are.low e here) (omega (arith, are.high e here))) (are.of e here)

-- whose extents clash with a task's own must precede it, and no others
precedes : (tasks : List TaskRow) (count number : ℕ) (extents own : List Extent) (u : ℕ) → AreOfTasks tasks count extents → AreOwn number (numbered no_task tasks number).accesses own
    → Any (λ (e : Extent). IsBefore own number u e) extents → MustPrecede tasks u number
precedes tasks count number extents own u are of any =
    let e = any.1 in
    let here : Contains extents e = (any.0, any.2, any.3) in
    let before = any.4 in
    let o = before.2.1 in
    let there : Contains own o = (before.2.0, before.2.2, before.2.3) in
    let a = subst (λ (n : ℕ). Contains (numbered no_task tasks n).accesses e.access.now) before.0 (are.of e here) in
    let b = of.of o there in (
      omega (arith, before.0, are.low e here),
      before.1,
      (conflict_is_clash (numbered no_task tasks u) (numbered no_task tasks number)).0 (a.0, e.access.now, a.1, a.2, (b.0, o.access.now, b.1, b.2, before.2.4)),
    )

is_found : (tasks : List TaskRow) (count number : ℕ) (extents own : List Extent) (u : ℕ) → number ≤ count + 1 → AreOfTasks tasks count extents → AreOwn number (numbered no_task tasks number).accesses own
    → MustPrecede tasks u number → Any (λ (e : Extent). IsBefore own number u e) extents
is_found tasks count number extents own u within are of must =
    let some = (conflict_is_clash (numbered no_task tasks u) (numbered no_task tasks number)).1 must.2 in
    let a = some.1 in
    let b = some.4.1 in
    let clash = some.4.4 in
    let x = clash.1.1.0 in
    let e = are.all u a x must.0 (omega (arith, must.1)) (some.0, some.2, some.3) clash.1.1.1 in
    let o = of.all b x (some.4.0, some.4.2, some.4.3) clash.1.1.2 in
    let clashes : Clash e.1.access.now o.1.access.now = subst (λ (y : AccessRow). Clash e.1.access.now y) (sym o.4) (subst (λ (y : AccessRow). Clash y b) (sym e.4.1) clash) in
    (e.0, e.1, e.2, e.3, (e.4.0, must.1, (o.0, o.1, o.2, o.3, clashes)))

pub dependencies_of : (tasks : List TaskRow) (count number : ℕ) (extents own : List Extent) (found rising : List ℕ) → number ≤ count + 1 → AreOfTasks tasks count extents → AreOwn number (numbered no_task tasks number).accesses own
    → AreWaits extents own number found → IsStrictlyIncreasing rising → ((u : ℕ) → Contains rising u ↔ Contains found u) → AreDependencies tasks number rising
dependencies_of tasks count number extents own found rising within are of waits rises same = record {
  rising = rises;
  exact = λ u. (
    (λ has. precedes tasks count number extents own u are of ((waits u).0 ((same u).0 has))),
    (λ must. (same u).1 ((waits u).1 (is_found tasks count number extents own u within are of must))),
  );
}

-- the same extents in another order
pub tasks_permuted : (tasks : List TaskRow) (count : ℕ) (extents permuted : List Extent) → IsPermutation extents permuted → AreOfTasks tasks count extents → AreOfTasks tasks count permuted
tasks_permuted tasks count extents permuted moved are =
    let back = λ (e : Extent) (has : Contains permuted e). Contains-permutation permuted extents e (IsPermutation-sym extents permuted moved) has in
    record {
      low = λ e has. are.low e (back e has);
      high = λ e has. are.high e (back e has);
      of = λ e has. are.of e (back e has);
      all = λ u a x low high has there.
          let any = are.all u a x low high has there in
          any_of (λ (e : Extent). (e.task ≡ u) × (e.access.now ≡ a)) permuted any.1 (Contains-permutation extents permuted any.1 moved (any.0, any.2, any.3)) any.4;
    }
