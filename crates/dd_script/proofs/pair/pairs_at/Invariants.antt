use Rattle.std.proofs.Common.{◌≡◌, length}
use Rattle.std.specs.List.{AllByRecursion}
use Rattle.dd_tokens.specs.TokenIn.{IsTokenIn}
use Rattle.dd_tokens.specs.Lexeme.{lexemes_of}
use Rattle.dd_script.specs.ArgumentSteps.{pairs_at}
use Rattle.dd_script.proofs.ManyLemmas.{behind}
use Rattle.dd_script.proofs.pair.pairs_at.Given as goal

abbrev pub invariant-loop-rest : goal.invariant-loop-rest
invariant-loop-rest l =
    (pairs_at (lexemes_of l.line l.tokens) ≡ behind l.pairs (pairs_at (lexemes_of l.line l.rest))) × AllByRecursion (IsTokenIn l.line) l.rest

abbrev pub decreases-loop-rest : goal.decreases-loop-rest
decreases-loop-rest l = length l.rest
