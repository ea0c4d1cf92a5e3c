use Rattle.dd_blocks.proofs.ElementsLemmas.{uses_element, writes_element}
use Rattle.dd_blocks.proofs.laws.tests_are_facts.Goals as goal

pub returns : goal.returns
returns c = λ task e. (writes_element task e, uses_element task e)
