use Rattle.dd_tokens.proofs.NumberLemmas.{number_text}
use Rattle.dd_tokens.proofs.lexeme.number.Goals as goal

pub returns-in-Err : goal.returns-in-Err
returns-in-Err c = λ _. (rw c.text.ensures at c.in-Err.ensures.cases).0 (number_text c.args.line.now c.args.token.now c.requires.inside c.requires.kind)
