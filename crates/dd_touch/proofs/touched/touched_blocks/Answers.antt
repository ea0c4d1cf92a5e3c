use Rattle.dd_touch.proofs.TouchedPlanLemmas.{numbers_are, rising_few, touched_are}
use Rattle.dd_touch.proofs.touched.touched_blocks.Goals as goal

pub returns-clause-touched : goal.returns-clause-touched
returns-clause-touched c = λ task of.
    touched_are c.args.plan.now c.args.accesses.now c.in_ok-blocks.blocks.items c.rise.new.numbers.items task c.in_ok-blocks.ensures c.rise.ensures.rising c.rise.ensures.same of

pub returns-clause-numbers : goal.returns-clause-numbers
returns-clause-numbers c =
    numbers_are c.args.plan.now c.args.accesses.now c.in_ok-blocks.blocks.items c.rise.new.numbers.items c.requires.arrays c.requires.accesses c.in_ok-blocks.ensures c.rise.ensures.same

pub returns-clause-few : goal.returns-clause-few
returns-clause-few c =
    rising_few c.args.plan.now.blocks c.rise.new.numbers.items c.rise.ensures.rising (numbers_are c.args.plan.now c.args.accesses.now c.in_ok-blocks.blocks.items c.rise.new.numbers.items c.requires.arrays c.requires.accesses c.in_ok-blocks.ensures c.rise.ensures.same)
