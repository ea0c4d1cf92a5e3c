use Rattle.dd_core.specs.Cores.{IsCoreOf}
use Rattle.tests_of_core.proofs.leads.is_led.Given as goal

abbrev pub invariant-loop-event : goal.invariant-loop-event
invariant-loop-event g l = IsCoreOf l.plan l.core
