use Rattle.std.proofs.Common.{ap, arith}
use Rattle.dd_blocks.specs.declared.array_row.ArrayRow.{ArrayRow}
use Rattle.dd_blocks.proofs.LayoutLemmas.{stands}
use Rattle.dd_statements.proofs.blocks.first_block.Goals as goal

pub returns-clause-some : goal.returns-clause-some
returns-clause-some c =
    omega (arith, (stands c.args.plan.now c.requires.well.layout c.args.array c.requires.array).first_block, ap (λ (r : ArrayRow). r.first_block) c.array.ensures)
