use Rattle.dd_check.proofs.BlockFitLemmas.{fault_of_large}
use Rattle.dd_check.specs.Drafts.{above_of}
use Rattle.dd_check.proofs.block_fit.large_block.Goals as goal

pub returns : goal.returns
returns c = fault_of_large (above_of c.args.draft.now) c.args.x.now c.args.line c.first_large.result c.first_large.ensures
