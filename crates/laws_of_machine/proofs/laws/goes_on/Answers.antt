use Rattle.laws_of_machine.proofs.EndsLemmas.{goes_on_with}
use Rattle.laws_of_machine.proofs.NeverStuckLemmas.{every_goes_on, every_leads_on}
use Rattle.laws_of_machine.proofs.laws.goes_on.Goals as goal

pub returns : goal.returns
returns c = λ plan well. goes_on_with plan well (λ entries run. every_goes_on plan entries well run) (λ entries run. every_leads_on plan entries well run)
