-- One name that opens all definitions of the machine, for examples that compute.
use Rattle.dd_machine.specs.States.{at_copy, at_one}
use Rattle.dd_machine.specs.Owed.{entries_of, one_more}
use Rattle.dd_machine.specs.Runs.{IsRun, has_pick, state_after}
use Rattle.dd_machine.specs.Words.{argument_bytes, element, reads, scratch, writes}

unfoldable pub computing : Unit {0}
unfolding at_copy at_one entries_of one_more IsRun has_pick state_after argument_bytes element reads scratch writes
computing = tt
