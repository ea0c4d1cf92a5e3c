-- The lists of dependencies, one task after another.
use Rattle.std.proofs.Common.{◌≡◌, ◌≢◌, ◌≤◌, ◌+◌, ℕ, zero, suc, List, [], ◌∷◌, ◌++◌, length, get_or, ⊎_elim, ap, sym, ◌∙◌, subst, arith, add-one}
use Rattle.std.proofs.lemmas.Bool.{cases_eq}
use Rattle.std.proofs.lemmas.List.{get_or_append_left, length-append}
use Rattle.std.proofs.Math.Seq.{get_or-append_seam}
use Rattle.dd_blocks.specs.declared.task_row.TaskRow.{TaskRow}
use Rattle.dd_blocks.specs.Conflicts.{AreDependencies}
use Rattle.dd_blocks.specs.Numbered.{numbered}
use Rattle.dd_alias.specs.Dependencies.{AreDependenciesOfAll}

-- the lists are those of the first so many tasks
pub record AreDependenciesSoFar (tasks : List TaskRow) (done : ℕ) (lists : List (List ℕ)) : Type 0 where
  pub count : length lists ≡ done
  pub each : (n : ℕ) → 1 ≤ n → n ≤ done → AreDependencies tasks n (numbered [] lists n)

pub so_far_none : (tasks : List TaskRow) → AreDependenciesSoFar tasks 0 []
so_far_none tasks = record { count = omega arith; each = λ n low high. absurd (omega arith) }

numbered_before : (lists : List (List ℕ)) (found : List ℕ) (n : ℕ) → 1 ≤ n → n ≤ length lists → numbered [] (lists ++ found ∷ []) n ≡ numbered [] lists n
numbered_before lists found zero low high = absurd (omega arith)
numbered_before lists found (suc n) low high = get_or_append_left lists (found ∷ []) [] n (omega arith)

numbered_last : (lists : List (List ℕ)) (found : List ℕ) (done : ℕ) → length lists ≡ done → numbered [] (lists ++ found ∷ []) (done + 1) ≡ found
numbered_last lists found done count =
    rw add-one (ap (λ (n : ℕ). get_or (lists ++ found ∷ []) n []) (sym count) ∙ get_or-append_seam lists found [] [])

pub so_far_more : (tasks : List TaskRow) (done : ℕ) (lists : List (List ℕ)) (found : List ℕ) → AreDependenciesSoFar tasks done lists → AreDependencies tasks (done + 1) found → AreDependenciesSoFar tasks (done + 1) (lists ++ found ∷ [])
so_far_more tasks done lists found so_far next = record {
  count = omega (arith, length-append lists (found ∷ []), so_far.count);
  each = λ n low high.
      ⊎_elim
      (λ (last : n ≡ done + 1). subst (λ (k : ℕ). AreDependencies tasks k (numbered [] (lists ++ found ∷ []) k)) (sym last) (subst (λ (xs : List ℕ). AreDependencies tasks (done + 1) xs) (sym (numbered_last lists found done so_far.count)) next))
      (λ (before : n ≢ done + 1). subst (λ (xs : List ℕ). AreDependencies tasks n xs) (sym (numbered_before lists found n low (omega (arith, so_far.count)))) (so_far.each n low (omega arith)))
      (cases_eq n (done + 1));
}

pub so_far_all : (tasks : List TaskRow) (done : ℕ) (lists : List (List ℕ)) → done ≡ length tasks → AreDependenciesSoFar tasks done lists → AreDependenciesOfAll tasks lists
so_far_all tasks done lists all so_far = record { count = omega (arith, so_far.count); each = λ n is. so_far.each n is.0 (omega (arith, is.1)) }
