-- Dependencies that are found one task after another.
use Rattle.std.proofs.Common.{◌≡◌, ◌≢◌, ◌↔◌, ◌≤◌, ◌<◌, ◌+◌, ℕ, List, [], ◌∷◌, ◌++◌, length, get_or, ⊎_elim, ap, sym, ◌∙◌, subst, arith}
use Rattle.std.specs.List.{Contains}
use Rattle.std.specs.List.Sorted.{IsStrictlyIncreasing}
use Rattle.std.proofs.lemmas.Bool.{cases_eq, cases_lt}
use Rattle.std.proofs.lemmas.List.{get_or_append_left, get_or_default, length-append}
use Rattle.std.proofs.lemmas.List.Elements.{Contains-append_left, Contains-push, Contains-push_cases}
use Rattle.std.proofs.Math.Seq.{get_or-append_seam}
use Rattle.dd_blocks.specs.declared.task_row.TaskRow.{TaskRow}
use Rattle.dd_blocks.specs.Conflicts.{AreDependencies, AreInConflict}
use Rattle.dd_blocks.specs.Numbered.{no_task, numbered}

-- the task numbered u is in conflict with the one numbered t
abbrev pub Conflicts : List TaskRow → ℕ → ℕ → Type 0
Conflicts tasks u t = AreInConflict (numbered no_task tasks u) (numbered no_task tasks t)

-- of the first so many tasks, those in conflict with the one numbered t, by their numbers
pub record AreFound (tasks : List TaskRow) (t seen : ℕ) (found : List ℕ) : Type 0 where
  pub rising : IsStrictlyIncreasing found
  pub exact : (u : ℕ) → Contains found u ↔ ((1 ≤ u) × (u ≤ seen) × Conflicts tasks u t)

pub found_none : (tasks : List TaskRow) (t : ℕ) → AreFound tasks t 0 []
found_none tasks t = record {
  rising = λ k below. absurd (omega arith);
  exact = λ u. ((λ has. absurd (omega (arith, has.1))), (λ some. absurd (omega (arith, some.0, some.1))));
}

pub rising_push : (found : List ℕ) (x : ℕ) → IsStrictlyIncreasing found → ((u : ℕ) → Contains found u → u < x) → IsStrictlyIncreasing (found ++ x ∷ [])
rising_push found x rising below k within =
    let size = length-append found (x ∷ []) in
    let here : k < length found = omega (arith, size, within) in
    let first : get_or (found ++ x ∷ []) k 0 ≡ get_or found k 0 = get_or_append_left found (x ∷ []) 0 k here in
    ⊎_elim
    (λ (inside : k + 1 < length found).
    let second : get_or (found ++ x ∷ []) (k + 1) 0 ≡ get_or found (k + 1) 0 = get_or_append_left found (x ∷ []) 0 (k + 1) inside in
    omega (arith, first, second, rising k inside))
    (λ (end : length found ≤ k + 1).
    let last : k + 1 ≡ length found = omega arith in
    let second : get_or (found ++ x ∷ []) (k + 1) 0 ≡ x = ap (λ (n : ℕ). get_or (found ++ x ∷ []) n 0) last ∙ get_or-append_seam found x [] 0 in
    omega (arith, first, second, below (get_or found k 0) (k, here, get_or_default found k (get_or found k 0) 0 here)))
    (cases_lt (k + 1) (length found))

pub found_same : (tasks : List TaskRow) (t seen : ℕ) (found : List ℕ) → AreFound tasks t seen found → ¬ Conflicts tasks (seen + 1) t → AreFound tasks t (seen + 1) found
found_same tasks t seen found so_far none = record {
  rising = so_far.rising;
  exact = λ u. (
    (λ has. let some = (so_far.exact u).0 has in (some.0, omega (arith, some.1), some.2)),
    (λ some.
        ⊎_elim
        (λ (last : u ≡ seen + 1). absurd (none (subst (λ (n : ℕ). Conflicts tasks n t) last some.2)))
        (λ (before : u ≢ seen + 1). (so_far.exact u).1 (some.0, omega (arith, some.1), some.2))
        (cases_eq u (seen + 1))),
  );
}

pub found_more : (tasks : List TaskRow) (t seen : ℕ) (found : List ℕ) → AreFound tasks t seen found → Conflicts tasks (seen + 1) t → AreFound tasks t (seen + 1) (found ++ (seen + 1) ∷ [])
found_more tasks t seen found so_far some = record {
  rising = rising_push found (seen + 1) so_far.rising (λ u has. omega (arith, ((so_far.exact u).0 has).1));
  exact = λ u. (
    (λ has.
        ⊎_elim
        (λ (before : Contains found u). let old = (so_far.exact u).0 before in (old.0, omega (arith, old.1), old.2))
        (λ (last : seen + 1 ≡ u). (omega arith, omega arith, subst (λ (n : ℕ). Conflicts tasks n t) last some))
        (Contains-push_cases found (seen + 1) u has)),
    (λ one.
        ⊎_elim
        (λ (last : u ≡ seen + 1). subst (λ (n : ℕ). Contains (found ++ (seen + 1) ∷ []) n) (sym last) (Contains-push found (seen + 1)))
        (λ (before : u ≢ seen + 1). Contains-append_left found ((seen + 1) ∷ []) u ((so_far.exact u).1 (one.0, omega (arith, one.1), one.2)))
        (cases_eq u (seen + 1))),
  );
}

pub found_all : (tasks : List TaskRow) (index : ℕ) (found : List ℕ) → AreFound tasks (index + 1) index found → AreDependencies tasks (index + 1) found
found_all tasks index found all = record {
  rising = all.rising;
  exact = λ u. (
    (λ has. let some = (all.exact u).0 has in (some.0, omega (arith, some.1), some.2)),
    (λ must. (all.exact u).1 (must.0, omega (arith, must.1), must.2)),
  );
}
