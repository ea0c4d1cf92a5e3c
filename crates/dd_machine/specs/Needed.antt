-- Which elements of a block a task, or the write-back, has to get, and from where. A place of a block is counted from 0; the
-- number 0 in place of a task stands for the write-back.
use Rattle.std.specs.Prelude.{ℕ, ◌&&◌, ◌||◌, nat_eq, not, Bool, List, slice_index, Option, Some, None, if◌then◌else◌, filter}
use Rattle.std.specs.List.{range_with_len, list_all}
use Rattle.dd_blocks.specs.declared.plan.Plan.{Plan}
use Rattle.dd_machine.specs.States.{State}
use Rattle.dd_machine.specs.Tests.{versions_of}
use Rattle.dd_machine.specs.Words.{element, is_of, place, reads, size}

-- the space that a version comes from: that of the task that made it where a region is open and the task is of it, or else the
-- home
abbrev pub source_in : Plan → Option ℕ → ℕ → ℕ → ℕ
source_in plan None home version = home
source_in plan (Some region) home version = if is_of plan region version then place plan version else home

-- the source of the element at place i: the space that its current version comes from
abbrev pub source : Plan → State → ℕ → ℕ → ℕ
source plan st block i = source_in plan st.region (st.homes block) (st.current (element plan block i))

-- the own space of a task, or of 0: the space of the task's processor, for 0 the block's home
abbrev pub own_space : Plan → State → ℕ → ℕ → ℕ
own_space plan st task block = if nat_eq task 0 then st.homes block else place plan task

-- the version that the copy in a space has at place i
abbrev pub version : State → ℕ → ℕ → ℕ → ℕ
version st space block i = slice_index (versions_of (st.copies space block)) i

-- it is the current version of the element there
abbrev pub is_current_at : Plan → State → ℕ → ℕ → ℕ → Bool
is_current_at plan st space block i = nat_eq (version st space block i) (st.current (element plan block i))

-- the element at place i is needed from a space: the task reads it (0 reads all), its version in the own space isn't current, and
-- its source is that space
abbrev pub is_needed : Plan → State → ℕ → ℕ → ℕ → ℕ → Bool
is_needed plan st task block from i =
    (nat_eq task 0 || reads plan task (element plan block i))
    && (not (is_current_at plan st (own_space plan st task block) block i) && nat_eq (source plan st block i) from)

-- the places of the elements that are needed from a space, rising
abbrev pub needed : Plan → State → ℕ → ℕ → ℕ → List ℕ
needed plan st task block from = filter (is_needed plan st task block from) (range_with_len 0 (size plan block))

-- the task doesn't read the element at place i, or its version in the task's space is current
abbrev pub is_read_current : Plan → State → ℕ → ℕ → ℕ → Bool
is_read_current plan st task block i = not (reads plan task (element plan block i)) || is_current_at plan st (place plan task) block i

-- all that the task reads of the block is current in its space
abbrev pub reads_current : Plan → State → ℕ → ℕ → Bool
reads_current plan st task block = list_all (is_read_current plan st task block) (range_with_len 0 (size plan block))

-- every version of the copy in a space is current
abbrev pub is_current : Plan → State → ℕ → ℕ → Bool
is_current plan st space block = list_all (is_current_at plan st space block) (range_with_len 0 (size plan block))
