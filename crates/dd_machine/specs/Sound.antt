-- What holds in every state of a legal run, family by family. Each is kept by every event that is legal in a sound state.
use Rattle.dd_blocks.specs.declared.plan.Plan.{Plan}
use Rattle.dd_machine.specs.SoundLimits.{SoundLimits}
use Rattle.dd_machine.specs.SoundLives.{SoundLives}
use Rattle.dd_machine.specs.SoundMoved.{SoundMoved}
use Rattle.dd_machine.specs.SoundProgress.{SoundProgress}
use Rattle.dd_machine.specs.SoundVersions.{SoundVersions}
use Rattle.dd_machine.specs.States.{State}

pub record IsSound (plan : Plan) (st : State) : Type 0 where
  pub lives : SoundLives plan st
  pub limits : SoundLimits plan st
  pub versions : SoundVersions plan st
  pub progress : SoundProgress plan st
  pub moved : SoundMoved plan st
