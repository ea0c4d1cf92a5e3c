-- Which places of a copy are brought.
use Rattle.std.specs.Prelude.{ℕ, ◌&&◌, ◌||◌, nat_eq, not, Bool}
use Rattle.dd_blocks.specs.declared.plan.Plan.{Plan}
use Rattle.dd_machine.specs.Needed.{source}
use Rattle.dd_machine.specs.States.{State}
use Rattle.dd_machine.specs.Words.{element, reads}

-- the task wants the element at place i of a block, a copy that has this version of it hasn't the current one, and that comes
-- from the space
abbrev pub is_fetched : Plan → State → ℕ → ℕ → ℕ → ℕ → ℕ → Bool
is_fetched plan st task block from i version =
    (nat_eq task 0 || reads plan task (element plan block i))
    && (not (nat_eq version (st.current (element plan block i))) && nat_eq (source plan st block i) from)
