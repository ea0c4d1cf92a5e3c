use Rattle.dd_check.proofs.accesses.shapes_of.Goals as goal

pub shape-shape-requires-clause-view : goal.shape-shape-requires-clause-view
shape-shape-requires-clause-view c = (c.requires _ _ c.loop-access-test.true).view
