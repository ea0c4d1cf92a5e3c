-- What the end of a task leaves in copies, block by block.
use Rattle.std.specs.Prelude.{◌≡◌, ℕ, ◌&&◌, nat_eq, true, List, length, Option, if◌then◌else◌}
use Rattle.dd_blocks.specs.declared.plan.Plan.{Plan}
use Rattle.dd_machine.specs.Effects.{copy_where}
use Rattle.dd_machine.specs.States.{Copy, State}
use Rattle.dd_machine.specs.Tests.{is_any, is_in_state, versions_of}
use Rattle.dd_machine.specs.Words.{element, has_number, size, writes}

-- a copy, where there is one, has a version for each place of its block; each copy has
abbrev pub HasPlaces : Plan → ℕ → Option Copy → Type 0
HasPlaces plan block copy = is_in_state is_any copy ≡ true → length (versions_of copy) ≡ size plan block

abbrev pub HavePlaces : Plan → State → Type 0
HavePlaces plan st = (s b : ℕ) → HasPlaces plan b (st.copies s b)

-- in the copies of some blocks in a space, the elements that a task writes have its number
abbrev pub written_in : Plan → State → ℕ → ℕ → List ℕ → ℕ → ℕ → Option Copy
written_in plan st task space found s b =
    if nat_eq s space && has_number found b
    then copy_where (λ i. writes plan task (element plan b i)) (λ i. task) (st.copies s b)
    else st.copies s b
