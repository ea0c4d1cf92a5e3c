use Rattle.dd_check.proofs.KeptLemmas.{sound_text}
use Rattle.dd_check.proofs.laws.well_formed.Goals as goal

pub returns : goal.returns
returns c = sound_text
