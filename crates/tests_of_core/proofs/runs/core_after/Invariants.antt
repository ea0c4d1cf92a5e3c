use Rattle.dd_core.specs.Cores.{IsCoreOf}
use Rattle.tests_of_core.proofs.runs.core_after.Given as goal

abbrev pub invariant-loop-line : goal.invariant-loop-line
invariant-loop-line g l = IsCoreOf l.plan l.core
