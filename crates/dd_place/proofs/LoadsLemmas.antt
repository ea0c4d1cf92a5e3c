-- The least loaded of some processors, one after the other.
use Rattle.std.proofs.Common.{◌≡◌, ℕ, ◌+◌, ◌<◌, ◌≤◌, suc, Bool, true, false, cond, MatchOption, List, [], ◌∷◌, ◌++◌, length, get_or, Option, None, Some, refl, sym, ap, ◌∙◌, ⊎_elim, arith}
use Rattle.std.specs.List.{Contains, filter, range_with_len}
use Rattle.std.proofs.lemmas.Bool.{cases_lt, le-leb, lt-leb}
use Rattle.std.proofs.lemmas.List.{append-nil}
use Rattle.std.proofs.lemmas.List.Elements.{All-nil, All-push, All-weaker, Contains-append_left, Contains-push, filter-append}
use Rattle.dd_views.proofs.ListsLemmas.{range_with_len_more}
use Rattle.dd_blocks.specs.declared.plan.Plan.{Plan}
use Rattle.dd_blocks.specs.declared.proc_row.ProcRow.{ProcRow}
use Rattle.dd_blocks.specs.Numbered.{numbered}
use Rattle.dd_place.specs.declared.load.Load.{Load}
use Rattle.dd_place.specs.Chosen.{IsBest, IsLeast, is_of, lighter, numbers_to}
use Rattle.dd_place.specs.Loads.{IsLeastLoaded, all_procs, candidates, or_else, procs_in, tasks_on}
use Rattle.dd_place.proofs.NumberedLemmas.{numbered_next}

abbrev NoFewer : List ℕ → ℕ → ℕ → Type 0
NoFewer earlier proc p = tasks_on earlier proc ≤ tasks_on earlier p

abbrev NoLower : List ℕ → ℕ → ℕ → Type 0
NoLower earlier proc p = tasks_on earlier p ≡ tasks_on earlier proc → proc ≤ p

-- one more processor, with a higher number: it is the first, it is no lighter, or it is
only : (earlier : List ℕ) (n : ℕ) (next : Load) → next.proc ≡ n + 1 → next.tasks ≡ tasks_on earlier next.proc → IsLeast (next.proc ∷ []) earlier (n + 1) next
only earlier n next here tasks = record {
  least = record {
    candidate = Contains-push [] next.proc;
    fewest = All-push (NoFewer earlier next.proc) [] next.proc (All-nil (NoFewer earlier next.proc)) (omega arith);
    lowest = All-push (NoLower earlier next.proc) [] next.proc (All-nil (NoLower earlier next.proc)) (λ same. omega arith);
  };
  tasks = tasks;
  first = omega arith;
  last = omega arith;
}

kept : (procs earlier : List ℕ) (n : ℕ) (best next : Load) → IsLeast procs earlier n best → next.proc ≡ n + 1 → next.tasks ≡ tasks_on earlier next.proc → best.tasks ≤ next.tasks → IsLeast (procs ++ next.proc ∷ []) earlier (n + 1) best
kept procs earlier n best next so_far here tasks le = record {
  least = record {
    candidate = Contains-append_left procs (next.proc ∷ []) best.proc so_far.least.candidate;
    fewest = All-push (NoFewer earlier best.proc) procs next.proc so_far.least.fewest (omega (arith, so_far.tasks));
    lowest = All-push (NoLower earlier best.proc) procs next.proc so_far.least.lowest (λ same. omega (arith, so_far.last));
  };
  tasks = so_far.tasks;
  first = so_far.first;
  last = omega (arith, so_far.last);
}

taken : (procs earlier : List ℕ) (n : ℕ) (best next : Load) → IsLeast procs earlier n best → next.proc ≡ n + 1 → next.tasks ≡ tasks_on earlier next.proc → next.tasks < best.tasks → IsLeast (procs ++ next.proc ∷ []) earlier (n + 1) next
taken procs earlier n best next so_far here tasks lt =
    let fewer : tasks_on earlier next.proc < tasks_on earlier best.proc = omega (arith, so_far.tasks) in record {
      least = record {
        candidate = Contains-push procs next.proc;
        fewest = All-push (NoFewer earlier next.proc) procs next.proc (All-weaker (NoFewer earlier best.proc) (NoFewer earlier next.proc) (λ p le. omega (arith, le)) procs so_far.least.fewest) (omega arith);
        lowest = All-push (NoLower earlier next.proc) procs next.proc (All-weaker (NoFewer earlier best.proc) (NoLower earlier next.proc) (λ p le same. absurd (omega (arith, le, same))) procs so_far.least.fewest) (λ same. omega arith);
      };
      tasks = tasks;
      first = omega arith;
      last = omega arith;
    }

longer : (procs earlier : List ℕ) (n : ℕ) (best : Load) → IsLeast procs earlier n best → IsLeast procs earlier (n + 1) best
longer procs earlier n best so_far = record { least = so_far.least; tasks = so_far.tasks; first = so_far.first; last = omega (arith, so_far.last) }

either : (procs earlier : List ℕ) (n : ℕ) (best : Option Load) (next : Load) → MatchOption best (procs ≡ []) (IsLeast procs earlier n) → next.proc ≡ n + 1 → next.tasks ≡ tasks_on earlier next.proc → IsLeast (procs ++ next.proc ∷ []) earlier (n + 1) (lighter best next)
either procs earlier n None next so_far here tasks = rw so_far (only earlier n next here tasks)
either procs earlier n (Some best) next so_far here tasks = ⊎_elim
    (λ (lt : next.tasks < best.tasks). rw (lt-leb _ _ lt) (taken procs earlier n best next so_far here tasks lt))
    (λ (le : best.tasks ≤ next.tasks). rw (le-leb _ _ le) (kept procs earlier n best next so_far here tasks le))
    (cases_lt next.tasks best.tasks)

abbrev pub no_proc : ProcRow
no_proc = record { name = []; space = 0 }

-- the numbers with one more row
numbers_more : (space : Option ℕ) (rows : List ProcRow) (n : ℕ) (b : Bool) → is_of space (get_or rows n no_proc) ≡ b → numbers_to space rows (n + 1) ≡ numbers_to space rows n ++ cond b ((n + 1) ∷ []) []
numbers_more space rows n b is =
    let next : range_with_len 1 (n + 1) ≡ range_with_len 1 n ++ (n + 1) ∷ [] = ap (range_with_len 1) (let e : n + 1 ≡ suc n = omega arith in e) ∙ range_with_len_more 1 n ∙ ap (λ (x : ℕ). range_with_len 1 n ++ x ∷ []) (omega arith) in
    let here : is_of space (numbered no_proc rows (n + 1)) ≡ b = ap (is_of space) (numbered_next no_proc rows n) ∙ is in
    ap (filter (λ p. is_of space (numbered no_proc rows p))) next ∙ filter-append (λ p. is_of space (numbered no_proc rows p)) (range_with_len 1 n) ((n + 1) ∷ []) ∙ rw here refl

pub best_same : (space : Option ℕ) (rows : List ProcRow) (earlier : List ℕ) (n : ℕ) (best : Option Load) → is_of space (get_or rows n no_proc) ≡ false → IsBest space rows earlier n best → IsBest space rows earlier (n + 1) best
best_same space rows earlier n best is so_far = rw (numbers_more space rows n false is, append-nil) (same_or best so_far)
  where
    same_or : (o : Option Load) → IsBest space rows earlier n o → MatchOption o (numbers_to space rows n ≡ []) (IsLeast (numbers_to space rows n) earlier (n + 1))
    same_or None none = none
    same_or (Some load) least = longer (numbers_to space rows n) earlier n load least

pub best_more : (space : Option ℕ) (rows : List ProcRow) (earlier : List ℕ) (n : ℕ) (best : Option Load) (next : Load) → is_of space (get_or rows n no_proc) ≡ true → next.proc ≡ n + 1 → next.tasks ≡ tasks_on earlier next.proc → IsBest space rows earlier n best → IsBest space rows earlier (n + 1) (Some (lighter best next))
best_more space rows earlier n best next is here tasks so_far =
    let more : numbers_to space rows (n + 1) ≡ numbers_to space rows n ++ next.proc ∷ [] = numbers_more space rows n true is ∙ ap (λ (x : ℕ). numbers_to space rows n ++ x ∷ []) (sym here) in
    rw more (either (numbers_to space rows n) earlier n best next so_far here tasks)

-- where there is a candidate, the others don't count
pub some_chosen : (procs others : List ℕ) (p : ℕ) → Contains procs p → or_else procs others ≡ procs
some_chosen [] others p there = absurd (omega (arith, there.1))
some_chosen (q ∷ qs) others p there = refl

pub all_chosen : (rows : List ProcRow) (n : ℕ) → numbers_to None rows n ≡ range_with_len 1 n
all_chosen rows n = filter_true (range_with_len 1 n)
  where
    filter_true : (xs : List ℕ) → filter (λ p. true) xs ≡ xs
    filter_true [] = refl
    filter_true (x ∷ xs) = ap (λ ys. x ∷ ys) (filter_true xs)

-- the least of the processors of the space
pub least_in_space : (plan : Plan) (space : ℕ) (earlier : List ℕ) (proc : ℕ) → IsLeastLoaded (procs_in plan space) earlier proc → IsLeastLoaded (candidates plan space) earlier proc
least_in_space plan space earlier proc least = rw (some_chosen (procs_in plan space) (all_procs plan) proc least.candidate) least

-- the least of all, where there are none of the space
pub least_of_all : (plan : Plan) (space : ℕ) (earlier : List ℕ) (proc : ℕ) → procs_in plan space ≡ [] → IsLeastLoaded (numbers_to None plan.procs (length plan.procs)) earlier proc → IsLeastLoaded (candidates plan space) earlier proc
least_of_all plan space earlier proc none least = rw none (rw (all_chosen plan.procs (length plan.procs)) at least)
