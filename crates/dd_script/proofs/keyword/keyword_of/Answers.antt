use Rattle.std.proofs.Common.{rules, arith}
use Rattle.dd_script.proofs.KeywordsLemmas.{is_it, is_none}
use Rattle.dd_script.proofs.keyword.keyword_of.Goals as goal

pub returns-then-eq : goal.returns-then-eq
returns-then-eq c = λ k. is_it _ k _ (search rules)

pub returns : goal.returns
returns c = is_none _ _ (omega arith) c.loop-k.invariant
