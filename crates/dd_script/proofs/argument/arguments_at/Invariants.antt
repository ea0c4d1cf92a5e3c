use Rattle.std.proofs.Common.{◌≡◌, length}
use Rattle.std.specs.List.{AllByRecursion}
use Rattle.dd_tokens.specs.TokenIn.{IsTokenIn}
use Rattle.dd_tokens.specs.Lexeme.{lexemes_of}
use Rattle.dd_script.specs.Many.{many_at}
use Rattle.dd_script.specs.ArgumentSteps.{no_token, argument_at}
use Rattle.dd_script.proofs.ManyLemmas.{behind}
use Rattle.dd_script.proofs.argument.arguments_at.Given as goal

abbrev pub invariant-loop-rest : goal.invariant-loop-rest
invariant-loop-rest l =
    (many_at no_token argument_at (lexemes_of l.line l.tokens) ≡ behind l.arguments (many_at no_token argument_at (lexemes_of l.line l.rest)))
    × AllByRecursion (IsTokenIn l.line) l.rest

abbrev pub decreases-loop-rest : goal.decreases-loop-rest
decreases-loop-rest l = length l.rest
