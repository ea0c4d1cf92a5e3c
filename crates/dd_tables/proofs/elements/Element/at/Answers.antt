use Rattle.dd_tables.proofs.PlacesLemmas.{in_array}
use Rattle.dd_tables.proofs.elements.Element.at.Goals as goal

pub overflow_sub-block : goal.overflow_sub-block
overflow_sub-block c = rw (c.array-row.ensures, c.block.ensures) (in_array c.args.plan.now c.args.block c.args.i c.requires.well c.requires.place).first

pub pos_of-requires-clause-block : goal.pos_of-requires-clause-block
pos_of-requires-clause-block c = rw (c.from-within.ensures, c.array-row.ensures, c.block.ensures) (in_array c.args.plan.now c.args.block c.args.i c.requires.well c.requires.place).number

pub pos_of-requires-clause-place : goal.pos_of-requires-clause-place
pos_of-requires-clause-place c = rw (c.from-within.ensures, c.array-row.ensures, c.block.ensures) (in_array c.args.plan.now c.args.block c.args.i c.requires.well c.requires.place).place
