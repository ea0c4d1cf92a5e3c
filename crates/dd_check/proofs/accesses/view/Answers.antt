use Rattle.dd_check.proofs.accesses.view.Goals as goal

pub returns-clause-bad_range : goal.returns-clause-bad_range
returns-clause-bad_range c = rw (← c.array_of-array.ensures.value, ← c.grid_at-grid.ensures.value) c.view_of.ensures.bad_range

pub returns-clause-not_square : goal.returns-clause-not_square
returns-clause-not_square c = rw (← c.array_of-array.ensures.value, ← c.grid_at-grid.ensures.value) c.view_of.ensures.not_square
