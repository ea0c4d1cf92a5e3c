use Rattle.std.proofs.Common.{rules}
use Rattle.dd_tokens.proofs.FrontLemmas.{front_within}
use Rattle.dd_tokens.proofs.front.front_token.Goals as goal

pub returns-then-begins_with_letter-clause-within : goal.returns-then-begins_with_letter-clause-within
returns-then-begins_with_letter-clause-within c = front_within c.args.bytes.now _ (search rules)

pub returns-else-begins_with_letter-clause-within : goal.returns-else-begins_with_letter-clause-within
returns-else-begins_with_letter-clause-within c = front_within c.args.bytes.now _ (search rules)
