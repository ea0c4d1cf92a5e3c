-- Where the values of a copy are to be found.
use Rattle.std.specs.Prelude.{ℕ, Bool, true, false, cond, List, Option, Some, None}
use Rattle.dd_machine.specs.declared.copy_state.CopyState.{CopyState}
use Rattle.dd_machine.specs.declared.copy_state.CopyState.TheVariants.{Here, Leaving, Out, Coming, Lent}
use Rattle.dd_machine.specs.States.{Copy}
use Rattle.dd_machine.specs.Tests.{is_here}

-- it is in a slot, whoever reads it
abbrev pub is_in_slot : CopyState → Bool
is_in_slot Here = false
is_in_slot Leaving = false
is_in_slot Out = true
is_in_slot Coming = true
is_in_slot (Lent t) = true

-- the versions of a copy that passes a test; none where it doesn't, or where there is no copy
abbrev pub versions_where_state : (CopyState → Bool) → Option Copy → Option (List ℕ)
versions_where_state test None = None
versions_where_state test (Some copy) = cond (test copy.state) (Some copy.versions) None

-- of one in memory; of one in a slot
abbrev pub here_versions : Option Copy → Option (List ℕ)
here_versions copy = versions_where_state is_here copy

abbrev pub slot_versions : Option Copy → Option (List ℕ)
slot_versions copy = versions_where_state is_in_slot copy
