use Rattle.dd_check.proofs.EveryTextLemmas.{every_text}
use Rattle.dd_check.proofs.laws.every_text.Goals as goal

pub returns : goal.returns
returns c text planless faultless = every_text text faultless planless
