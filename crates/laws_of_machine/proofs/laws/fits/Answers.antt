use Rattle.laws_of_machine.proofs.SoundLemmas.{sound_run}
use Rattle.laws_of_machine.proofs.laws.fits.Goals as goal

pub returns : goal.returns
returns c = λ plan entries well run. (sound_run plan entries well run).limits.within
