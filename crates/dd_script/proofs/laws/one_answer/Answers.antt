use Rattle.dd_script.proofs.AnswersLemmas.{only_fault, only_reading}
use Rattle.dd_script.proofs.laws.one_answer.Goals as goal

pub returns : goal.returns
returns c = record { reading = only_reading; fault = only_fault }
