use Rattle.dd_check.proofs.KnownLemmas.{grid_of_array, few_elements}
use Rattle.dd_check.proofs.array.grid_at.Goals as goal

pub returns-clause-grid : goal.returns-clause-grid
returns-clause-grid c = rw c.array.ensures (grid_of_array c.args.draft.now.plan _ c.requires.sound.above.layout c.requires.within)

pub returns-clause-few : goal.returns-clause-few
returns-clause-few c = rw c.array.ensures (few_elements c.args.draft.now.plan _ c.requires.sound.above.limits.elements c.requires.within)
