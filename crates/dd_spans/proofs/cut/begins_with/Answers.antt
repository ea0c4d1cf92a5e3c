use Rattle.std.proofs.Common.{arith}
use Rattle.dd_spans.proofs.CutLemmas.{begins}
use Rattle.dd_spans.proofs.cut.begins_with.Goals as goal

pub returns-in-len1-up : goal.returns-in-len1-up
returns-in-len1-up c = begins c.args.numbers.now c.args.n c.requires.rises c.requires.least (omega arith)
