use Rattle.laws_of_machine.proofs.AskedLemmas.{all_asked, asked_and_left, made_asked}
use Rattle.laws_of_machine.proofs.laws.asks_all.Goals as goal

pub returns-clause-made : goal.returns-clause-made
returns-clause-made c = made_asked

pub returns-clause-so_far : goal.returns-clause-so_far
returns-clause-so_far c = asked_and_left

pub returns-clause-whole : goal.returns-clause-whole
returns-clause-whole c = all_asked
