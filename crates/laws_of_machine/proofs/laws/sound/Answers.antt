use Rattle.laws_of_machine.proofs.SoundLemmas.{sound_run}
use Rattle.laws_of_machine.proofs.laws.sound.Goals as goal

pub returns : goal.returns
returns c = sound_run
