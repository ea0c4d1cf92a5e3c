-- How many elements a region has to move: a version of an element is made in one space, and each other space where it is
-- wanted gets it once. It is wanted where a task that reads it is placed, and at the end of the region in its home.
use Rattle.std.specs.Prelude.{ℕ, Bool, ◌&&◌, ◌||◌, not, nat_eq, cond, List, ◌∷◌, length, count_by, sum_by}
use Rattle.std.specs.List.{filter, list_any, range_with_len}
use Rattle.dd_blocks.specs.declared.plan.Plan.{Plan}
use Rattle.dd_blocks.specs.Elements.{Element, task_reads, task_writes}
use Rattle.dd_blocks.specs.Homes.{home_in_region}
use Rattle.dd_blocks.specs.Numbered.{proc_row, task_row}
use Rattle.dd_blocks.specs.PlanElements.{block_of_element, elements}
use Rattle.dd_meaning.specs.Versions.{needed_version, opening_version, last_version, tasks_in}

-- the space in which a task runs
abbrev pub place_of : Plan → ℕ → ℕ
place_of plan t = (proc_row plan (task_row plan t).proc).space

-- the home of an element when a region begins
abbrev pub home_of : Plan → ℕ → Element → ℕ
home_of plan region e = home_in_region plan region (block_of_element plan e)

-- where a version is made: the space of its task where that is of the region, or else the home
abbrev pub source_of : Plan → ℕ → Element → ℕ → ℕ
source_of plan region e version = cond (list_any (λ t. nat_eq t version) (tasks_in plan region)) (place_of plan version) (home_of plan region e)

-- a task of the region that runs in the space finds the version and reads it
abbrev pub is_read_in : Plan → ℕ → Element → ℕ → ℕ → Bool
is_read_in plan region e version space =
    list_any (λ t. nat_eq (place_of plan t) space && task_reads (task_row plan t) e && nat_eq (needed_version plan e t) version) (tasks_in plan region)

-- the region ends with the version, and the space is the home
abbrev pub is_kept_in : Plan → ℕ → Element → ℕ → ℕ → Bool
is_kept_in plan region e version space = nat_eq (home_of plan region e) space && nat_eq (last_version plan region e) version

-- the version has to be moved to the space
abbrev pub moves_to : Plan → ℕ → Element → ℕ → ℕ → Bool
moves_to plan region e version space =
    not (nat_eq (source_of plan region e version) space) && (is_read_in plan region e version space || is_kept_in plan region e version space)

-- the versions that are current in a region: the one with which it begins, and those that its tasks write
abbrev pub versions_in : Plan → ℕ → Element → List ℕ
versions_in plan region e = opening_version plan region e ∷ filter (λ t. task_writes (task_row plan t) e) (tasks_in plan region)

-- how many triples of an element, a version that is current in the region and a space pass a test
abbrev pub triples_of_version : Plan → (ℕ → ℕ → Bool) → ℕ → ℕ
triples_of_version plan test version = count_by (test version) (range_with_len 1 (length plan.spaces))

abbrev pub triples_of : Plan → ℕ → (Element → ℕ → ℕ → Bool) → Element → ℕ
triples_of plan region test e = sum_by (triples_of_version plan (test e)) (versions_in plan region e)

abbrev pub count_triples : Plan → ℕ → (Element → ℕ → ℕ → Bool) → ℕ
count_triples plan region test = sum_by (triples_of plan region test) (elements plan)

-- how many elements the region moves
abbrev pub moved : Plan → ℕ → ℕ
moved plan region = count_triples plan region (moves_to plan region)
