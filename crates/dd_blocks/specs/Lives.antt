-- Which arrays are there when a statement begins, by the rows above it.
use Rattle.std.specs.Prelude.{◌≡◌, ◌↔◌, ℕ, suc, ◌<◌, Bool, true, false, nat_eq, List, [], ◌∷◌, length, take, slice_index_or, All, Any, Contains, count_by, Option, None, Some}
use Rattle.std.specs.List.{filter, filter_map, flat_map, range_with_len}
use Rattle.dd_blocks.specs.declared.access_row.AccessRow.{AccessRow}
use Rattle.dd_blocks.specs.declared.plan.Plan.{Plan}
use Rattle.dd_blocks.specs.declared.statement_row.StatementRow.{StatementRow}
use Rattle.dd_blocks.specs.declared.task_row.TaskRow.{TaskRow}
use Rattle.dd_blocks.specs.declared.what.What.{What}
use Rattle.dd_blocks.specs.declared.what.What.TheVariants.{Put, Print, Sum, Moved, Same, Drop, MoveTo, Region}

-- the numbers of the arrays that some rows make, in their order, and of the regions that they run
abbrev pub array_put : What → Option ℕ
array_put (Put array) = Some array
array_put _ = None

abbrev pub arrays_put : List StatementRow → List ℕ
arrays_put rows = filter_map (λ (row : StatementRow). array_put row.what) rows

abbrev pub region_run : What → Option ℕ
region_run (Region region) = Some region
region_run _ = None

abbrev pub regions_run : List StatementRow → List ℕ
regions_run rows = filter_map (λ (row : StatementRow). region_run row.what) rows

-- a name is given to the array, and a name of it ends
abbrev pub gives_name : ℕ → What → Bool
gives_name array (Put made) = nat_eq made array
gives_name array (Same named) = nat_eq named array
gives_name array _ = false

abbrev pub ends_name : ℕ → What → Bool
ends_name array (Drop dropped last) = nat_eq dropped array
ends_name array _ = false

-- how many names some rows give to an array, and how many of them they end
abbrev pub names_given : ℕ → List StatementRow → ℕ
names_given array rows = count_by (λ (row : StatementRow). gives_name array row.what) rows

abbrev pub names_ended : ℕ → List StatementRow → ℕ
names_ended array rows = count_by (λ (row : StatementRow). ends_name array row.what) rows

-- the rows make the array, and none of them ends its last name
pub record IsLive (rows : List StatementRow) (array : ℕ) : Type 0 where
  pub made : Contains (arrays_put rows) array
  pub kept : ¬ Any (λ (row : StatementRow). row.what ≡ Drop array true) rows

-- the tasks of a region
abbrev pub tasks_of : Plan → ℕ → List TaskRow
tasks_of plan region = filter (λ (t : TaskRow). nat_eq t.region region) plan.tasks

-- the arrays of which a statement speaks, other than the one that it makes
abbrev pub arrays_used : Plan → What → List ℕ
arrays_used plan (Put array) = []
arrays_used plan (Print array) = array ∷ []
arrays_used plan (Sum array name) = array ∷ []
arrays_used plan Moved = []
arrays_used plan (Same array) = array ∷ []
arrays_used plan (Drop array last) = array ∷ []
arrays_used plan (MoveTo array space) = array ∷ []
arrays_used plan (Region region) = flat_map (λ (t : TaskRow). flat_map (λ (a : AccessRow). a.view.array ∷ []) t.accesses) (tasks_of plan region)

-- where a statement ends a name of an array, it says rightly whether that is the last
abbrev pub SaysLast : List StatementRow → What → Type 0
SaysLast above (Drop array last) = (last ≡ true) ↔ (suc (names_ended array above) ≡ names_given array above)
SaysLast above _ = Unit {0}

-- the statement may stand below the rows
pub record MayStand (plan : Plan) (above : List StatementRow) (what : What) : Type 0 where
  pub live : All (IsLive above) (arrays_used plan what)
  pub last : SaysLast above what

-- Each array is made once, in the order of the arrays, and each statement speaks of arrays that are there.
pub record AreLives (plan : Plan) : Type 0 where
  pub puts : arrays_put plan.statements ≡ range_with_len 1 (length plan.arrays)
  pub stand : (i : ℕ) (d : StatementRow) → i < length plan.statements
      → MayStand plan (take i plan.statements) (slice_index_or plan.statements i d).what
