use Rattle.std.proofs.Common.{arith, rules}
use Rattle.dd_script.proofs.AnswersLemmas.{faults_of_tokens, only_reading}
use Rattle.dd_script.proofs.ReadsLemmas.{no_lexemes, tokens_inside}
use Rattle.dd_script.proofs.ShortLemmas.{short_reading}
use Rattle.dd_script.proofs.read.statement_of.Goals as goal

pub returns-then-is_empty-clause-only : goal.returns-then-is_empty-clause-only
returns-then-is_empty-clause-only c =
    only_reading _ _ (record { tokens = c.args.tokens.now; cut = c.requires; say = no_lexemes _ _ (grind arith) })

pub statement_by-requires-clause-inside : goal.statement_by-requires-clause-inside
statement_by-requires-clause-inside c = tokens_inside _ _ c.requires

pub returns-clause-only : goal.returns-clause-only
returns-clause-only c =
    only_reading _ _ (record { tokens = c.args.tokens.now; cut = c.requires; say = c.in_ok-statement_by.ensures.say })

pub returns-clause-short : goal.returns-clause-short
returns-clause-short c =
    short_reading c.args.line.now _ (record { tokens = c.args.tokens.now; cut = c.requires; say = c.in_ok-statement_by.ensures.say })

pub returns-in_err-statement_by-clause-only_fault : goal.returns-in_err-statement_by-clause-only_fault
returns-in_err-statement_by-clause-only_fault c =
    faults_of_tokens c.from_residual.result c.args.line.now c.args.tokens.now c.requires (search rules)
