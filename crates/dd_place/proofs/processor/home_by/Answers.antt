use Rattle.dd_place.proofs.HomesLemmas.{home_first, home_moved}
use Rattle.dd_place.proofs.processor.home_by.Goals as goal

pub returns-then-moved_to-eq0 : goal.returns-then-moved_to-eq0
returns-then-moved_to-eq0 c = λ region moved.
    rw c.block-found.ensures (home_first c.args.plan.now c.args.homes.now c.args.block region c.requires.names c.requires.block moved (rw c.block-found.ensures at c.if-moved_to-eq0.true))

pub returns-else-moved_to-eq0 : goal.returns-else-moved_to-eq0
returns-else-moved_to-eq0 c = λ region moved.
    rw c.block-found.ensures (home_moved c.args.plan.now c.args.homes.now c.args.block region c.requires.names c.requires.block moved (rw c.block-found.ensures at c.if-moved_to-eq0.false))
