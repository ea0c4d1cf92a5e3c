-- The visits of a region to the elements of all arrays, in order.
use Rattle.std.specs.Prelude.{◌≡◌, ℕ, ◌+◌, ◌^◌, ◌<◌, ◌≤◌, List, [], ◌∷◌, ◌++◌, Bool, true, map, replicate, slice_index, slice_set, cond, All}
use Rattle.std.specs.List.{flat_map}
use Rattle.dd_kernels.specs.declared.signature.Mode.{Mode}
use Rattle.dd_views.specs.declared.view.View.{View}
use Rattle.dd_views.specs.IndexList.{index_list}
use Rattle.dd_blocks.specs.declared.access_row.AccessRow.{AccessRow}
use Rattle.dd_blocks.specs.declared.plan.Plan.{Plan}
use Rattle.dd_blocks.specs.declared.task_row.TaskRow.{TaskRow}
use Rattle.dd_blocks.specs.Elements.{reads, writes}
use Rattle.dd_blocks.specs.Layout.{elements_in}
use Rattle.dd_blocks.specs.Numbered.{IsNumberIn, array_row, proc_row}
use Rattle.dd_meaning.specs.Moves.{moved}
use Rattle.dd_transfers.specs.declared.mark.Visit.{Visit}
use Rattle.dd_transfers.specs.declared.mark.Visit.TheVariants.{Read, Write, Leave}
use Rattle.dd_transfers.specs.Homes.{IsViewIn, home_by}
use Rattle.dd_transfers.specs.Marks.{AreSameTo, IsMarked, mark_after, moves_at}

-- a visit of one element, by its number among the elements of all arrays, from 0, and by its home
pub record ElementVisit : Type 0 where
  pub at : ℕ
  pub home : ℕ
  pub visit : Visit

-- the marks of all elements after some visits
abbrev pub marks_after : List ElementVisit → List ℕ → List ℕ
marks_after [] marks = marks
marks_after (v ∷ vs) marks = marks_after vs (slice_set marks v.at (mark_after v.visit v.home (slice_index marks v.at)))

-- how many elements these visits move
abbrev pub moves_along : List ElementVisit → List ℕ → ℕ
moves_along [] marks = 0
moves_along (v ∷ vs) marks =
    moves_at v.visit v.home (slice_index marks v.at)
    + moves_along vs (slice_set marks v.at (mark_after v.visit v.home (slice_index marks v.at)))

-- the visits were made
pub record Visited (visits : List ElementVisit) (old new : List ℕ) (moved : ℕ) : Type 0 where
  pub marks : new ≡ marks_after visits old
  pub count : moved ≡ moves_along visits old

-- a visit of the element at a position of an array
abbrev pub visit_at : Plan → List ℕ → Visit → ℕ → ℕ → ElementVisit
visit_at plan homes visit array p =
    record { at = (array_row plan array).first_element + p; home = home_by plan homes (record { array = array; pos = p }); visit = visit }

-- to the visit, so many elements from a position of an array on have one home
abbrev pub HaveHome : Plan → List ℕ → Visit → ℕ → ℕ → ℕ → ℕ → Type 0
HaveHome plan homes visit array first len home =
    (k mark : ℕ) → k < len → AreSameTo visit mark home (home_by plan homes (record { array = array; pos = first + k }))

-- each element of a view is visited, in its order
abbrev pub visits_of : Plan → List ℕ → Visit → View → List ElementVisit
visits_of plan homes visit view = map (visit_at plan homes visit view.array) (index_list view)

-- a visit is of what is read, of what is written, or of all
abbrev pub is_of : Visit → Mode → Bool
is_of (Read space) mode = reads mode
is_of (Write space) mode = writes mode
is_of Leave mode = true

abbrev pub access_visits : Plan → List ℕ → Visit → AccessRow → List ElementVisit
access_visits plan homes visit access = cond (is_of visit access.mode) (visits_of plan homes visit access.view) []

abbrev pub visits_by : Plan → List ℕ → Visit → TaskRow → List ElementVisit
visits_by plan homes visit task = flat_map (access_visits plan homes visit) task.accesses

-- the space in which a task runs
abbrev pub space_of : Plan → TaskRow → ℕ
space_of plan task = (proc_row plan task.proc).space

-- a task reads, and after that it writes
abbrev pub task_visits : Plan → List ℕ → TaskRow → List ElementVisit
task_visits plan homes task = visits_by plan homes (Read (space_of plan task)) task ++ visits_by plan homes (Write (space_of plan task)) task

-- at the end of the region each element of its tasks is left
abbrev pub region_visits : Plan → List ℕ → List TaskRow → List ElementVisit
region_visits plan homes tasks = flat_map (task_visits plan homes) tasks ++ flat_map (visits_by plan homes Leave) tasks

-- a task that may be walked: its views are of the Plan's arrays, and it runs in a space that marks have a bit for
pub record IsWalkable (plan : Plan) (task : TaskRow) : Type 0 where
  pub views : All (λ (a : AccessRow). IsViewIn plan a.view) task.accesses
  pub proc : IsNumberIn plan.procs task.proc
  pub space : IsMarked (space_of plan task)

-- a region was walked: the result is what it moves, and no mark is left
pub record IsDone (plan : Plan) (region : ℕ) (new : List ℕ) (result : ℕ) : Type 0 where
  pub value : result ≡ moved plan region
  pub few : result ≤ 2 ^ 28
  pub rest : new ≡ replicate (elements_in plan.arrays) 0
