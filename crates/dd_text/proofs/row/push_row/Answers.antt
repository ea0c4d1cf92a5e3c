use Rattle.dd_text.proofs.RowLemmas.{numbers_more}
use Rattle.std.proofs.Common.{◌∙◌}
use Rattle.dd_text.proofs.row.push_row.Goals as goal

pub loop-j-preserved : goal.loop-j-preserved
loop-j-preserved c = c.in_ok-push_number.ensures ∙ numbers_more c.args.grid c.args.values.now c.args.i c.loop-j.j _ _ c.loop-j.invariant
