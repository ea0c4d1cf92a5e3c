use Rattle.dd_blocks.specs.Numbered.{array_row}
use Rattle.dd_check.specs.Drafts.{above_of}
use Rattle.dd_check.specs.Kinds.{array_of_name}
use Rattle.dd_check.proofs.BlockFitLemmas.{moved_large, moved_small, some_block}
use Rattle.dd_check.proofs.block_fit.large_at_target.Goals as goal

pub needed-needed-requires-clause-within : goal.needed-needed-requires-clause-within
needed-needed-requires-clause-within c = some_block _ c.grid_at-grid.ensures.grid

pub returns-then-needed-limit : goal.returns-then-needed-limit
returns-then-needed-limit c =
    let grid = rw c.array_of.ensures.value at c.grid_at-grid.ensures.value in
    let limit = rw c.space_of-space.ensures.value at c.limit_of-limit.ensures in
    let needed = rw grid at c.needed-needed.ensures in
    let is_grid = rw grid at c.grid_at-grid.ensures.grid in
    moved_large c.args.draft.now.plan _ _ _ (array_row c.args.draft.now.plan (array_of_name (above_of c.args.draft.now) c.args.name.now)) c.args.line c.needed-needed.result c.limit_of-limit.result c.large.result is_grid limit needed c.if-needed-limit.true c.large.ensures

pub returns : goal.returns
returns c =
    let grid = rw c.array_of.ensures.value at c.grid_at-grid.ensures.value in
    let limit = rw c.space_of-space.ensures.value at c.limit_of-limit.ensures in
    let needed = rw grid at c.needed-needed.ensures in
    moved_small c.args.draft.now.plan _ _ _ (array_row c.args.draft.now.plan (array_of_name (above_of c.args.draft.now) c.args.name.now)) c.args.line c.needed-needed.result c.limit_of-limit.result limit needed c.if-needed-limit.false
