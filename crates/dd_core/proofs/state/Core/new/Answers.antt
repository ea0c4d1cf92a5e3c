use Rattle.dd_core.specs.Cores.{core_state}
use Rattle.dd_core.proofs.SoundLemmas.{starts_sound}
use Rattle.dd_core.proofs.state.Core.new.Goals as goal

pub returns-clause-core : goal.returns-clause-core
returns-clause-core c = record {
  sized = c.in_ok-start.ensures.sized;
  sound = starts_sound c.args.plan.now (core_state c.args.plan.now c.in_ok-start.field-0) c.requires c.in_ok-start.ensures.value;
}
