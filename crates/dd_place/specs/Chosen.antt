-- What the search for the least loaded processor goes by.
use Rattle.std.specs.Prelude.{◌≡◌, ℕ, ◌≤◌, nat_eq, nat_le, Bool, true, cond, List, [], MatchOption, Option, None, Some}
use Rattle.std.specs.List.{filter, range_with_len}
use Rattle.dd_blocks.specs.declared.proc_row.ProcRow.{ProcRow}
use Rattle.dd_blocks.specs.Numbered.{numbered}
use Rattle.dd_place.specs.declared.load.Load.{Load}
use Rattle.dd_place.specs.Loads.{IsLeastLoaded, tasks_on}

-- whether the processor is of the space, where one is asked for
abbrev pub is_of : Option ℕ → ProcRow → Bool
is_of None row = true
is_of (Some space) row = nat_eq row.space space

-- the numbers, up to n, of the processors that are of the space
abbrev pub numbers_to : Option ℕ → List ProcRow → ℕ → List ℕ
numbers_to space rows n = filter (λ p. is_of space (numbered (record { name = []; space = 0 }) rows p)) (range_with_len 1 n)

-- the one of two loads that is kept: the former, unless it has more tasks
abbrev pub lighter : Option Load → Load → Load
lighter None next = next
lighter (Some best) next = cond (nat_le best.tasks next.tasks) best next

-- it has the least loaded processor of these, which go up to n
pub record IsLeast (procs earlier : List ℕ) (n : ℕ) (load : Load) : Type 0 where
  pub least : IsLeastLoaded procs earlier load.proc
  pub tasks : load.tasks ≡ tasks_on earlier load.proc
  pub first : 1 ≤ load.proc
  pub last : load.proc ≤ n

abbrev pub IsBest : Option ℕ → List ProcRow → List ℕ → ℕ → Option Load → Type 0
IsBest space rows earlier n best = MatchOption best (numbers_to space rows n ≡ []) (IsLeast (numbers_to space rows n) earlier n)
