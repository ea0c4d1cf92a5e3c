use Rattle.dd_tokens.specs.Bytes.{before_comment}
use Rattle.dd_tokens.proofs.TokensLemmas.{one_cutting}
use Rattle.dd_tokens.proofs.laws.one_cutting.Goals as goal

pub returns : goal.returns
returns c line = one_cutting 0 (before_comment line)
