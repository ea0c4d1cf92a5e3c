-- How many tasks the processors have, and which has the fewest.
use Rattle.std.specs.Prelude.{◌≡◌, ℕ, ◌≤◌, nat_eq, List, [], ◌∷◌, length, All, Contains, count_by}
use Rattle.std.specs.List.{filter, range_with_len}
use Rattle.dd_blocks.specs.declared.plan.Plan.{Plan}
use Rattle.dd_blocks.specs.Numbered.{proc_row}

-- how many of the earlier tasks a processor has, by the processor of each
abbrev pub tasks_on : List ℕ → ℕ → ℕ
tasks_on earlier proc = count_by (λ p. nat_eq p proc) earlier

-- the numbers of all processors, and of those of a space
abbrev pub all_procs : Plan → List ℕ
all_procs plan = range_with_len 1 (length plan.procs)

abbrev pub procs_in : Plan → ℕ → List ℕ
procs_in plan space = filter (λ p. nat_eq (proc_row plan p).space space) (all_procs plan)

-- some numbers, or the others where there are none
abbrev pub or_else : List ℕ → List ℕ → List ℕ
or_else [] others = others
or_else (p ∷ ps) others = p ∷ ps

-- the processors of a space, or all where it has none
abbrev pub candidates : Plan → ℕ → List ℕ
candidates plan space = or_else (procs_in plan space) (all_procs plan)

-- none of the processors has fewer tasks, and none that has as few has a lower number
pub record IsLeastLoaded (procs earlier : List ℕ) (proc : ℕ) : Type 0 where
  pub candidate : Contains procs proc
  pub fewest : All (λ p. tasks_on earlier proc ≤ tasks_on earlier p) procs
  pub lowest : All (λ p. tasks_on earlier p ≡ tasks_on earlier proc → proc ≤ p) procs
