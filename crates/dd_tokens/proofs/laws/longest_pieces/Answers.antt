use Rattle.dd_tokens.specs.Bytes.{before_comment}
use Rattle.dd_tokens.proofs.CuttingLemmas.{are_cutting, cutting_are}
use Rattle.dd_tokens.proofs.laws.longest_pieces.Goals as goal

pub returns : goal.returns
returns c line ts = (are_cutting (before_comment line) ts, cutting_are (before_comment line) ts)
