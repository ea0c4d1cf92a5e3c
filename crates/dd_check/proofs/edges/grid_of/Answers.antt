use Rattle.std.proofs.Math.Facts.{to_z-of_z}
use Rattle.dd_check.proofs.EdgeLemmas.{edges_grid, edges_small}
use Rattle.dd_check.proofs.edges.grid_of.Goals as goal

pub returns-clause-grid : goal.returns-clause-grid
returns-clause-grid c =
    rw (to_z-of_z c.ranges.rows, to_z-of_z c.ranges.cols, to_z-of_z c.ranges.brows, to_z-of_z c.ranges.bcols)
    (edges_grid c.args.rows c.args.cols c.args.brows c.args.bcols c.requires.rows c.requires.cols c.requires.brows c.requires.bcols)

pub returns-clause-small : goal.returns-clause-small
returns-clause-small c =
    rw (to_z-of_z c.ranges.rows, to_z-of_z c.ranges.cols)
    (edges_small c.args.rows c.args.cols c.args.brows c.args.bcols c.requires.rows c.requires.cols)
