use Rattle.dd_core.specs.Cores.{IsCoreOf}
use Rattle.tests_of_core.proofs.answers.each_event_is_legal_in_its_places_alone.Given as goal

abbrev pub invariant-loop-made : goal.invariant-loop-made
invariant-loop-made g l = IsCoreOf l.plan l.core
