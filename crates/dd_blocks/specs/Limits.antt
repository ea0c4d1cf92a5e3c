-- The limits of a script, each as the code has it.
use Rattle.std.specs.Prelude.{ℕ}
use Rattle.dd_blocks.specs.declared.limits.TheConstants.{TEXT_LIMIT, NAME_LIMIT, SPACE_LIMIT, EDGE_LIMIT, SPACES_LIMIT, PROCS_LIMIT, ARRAYS_LIMIT, ELEMENTS_LIMIT, BLOCKS_LIMIT, REGION_TASKS_LIMIT, REGION_ELEMENTS_LIMIT, TOUCHES_LIMIT}

-- of the text, in bytes
abbrev pub text_limit : ℕ
text_limit = TEXT_LIMIT

-- of a name, in bytes: no word of a line has more
abbrev pub name_limit : ℕ
name_limit = NAME_LIMIT

-- of the limit of a space, in bytes, and of each edge of an array and of its blocks: both are at least 1
abbrev pub space_limit : ℕ
space_limit = SPACE_LIMIT

abbrev pub edge_limit : ℕ
edge_limit = EDGE_LIMIT

abbrev pub spaces_limit : ℕ
spaces_limit = SPACES_LIMIT

abbrev pub procs_limit : ℕ
procs_limit = PROCS_LIMIT

-- of the arrays that are made, of all their elements and of all their blocks, dropped ones counted
abbrev pub arrays_limit : ℕ
arrays_limit = ARRAYS_LIMIT

abbrev pub elements_limit : ℕ
elements_limit = ELEMENTS_LIMIT

abbrev pub blocks_limit : ℕ
blocks_limit = BLOCKS_LIMIT

-- of the tasks of a region, and of the elements of all their accesses
abbrev pub region_tasks_limit : ℕ
region_tasks_limit = REGION_TASKS_LIMIT

abbrev pub region_elements_limit : ℕ
region_elements_limit = REGION_ELEMENTS_LIMIT

-- of the touches of blocks in all
abbrev pub touches_limit : ℕ
touches_limit = TOUCHES_LIMIT
