use Rattle.std.proofs.Common.{◌≡◌, None, drop, arith, refl, sym}
use Rattle.std.proofs.lemmas.List.{take_rest}
use Rattle.std.specs.List.{prefix_len}
use Rattle.dd_tokens.specs.Bytes.{is_blank}
use Rattle.dd_tokens.specs.Tokens.{front_token}
use Rattle.dd_tokens.proofs.BytesLemmas.{all_pass}
use Rattle.dd_tokens.proofs.TokensLemmas.{no_tokens}
use Rattle.dd_tokens.proofs.cut.next_token.Goals as goal

pub returns-then-blanks-rest-clause-blank : goal.returns-then-blanks-rest-clause-blank
returns-then-blanks-rest-clause-blank c = λ _. all_pass is_blank c.args.rest.now (omega arith)

pub returns-in-None-clause-fault : goal.returns-in-None-clause-fault
returns-in-None-clause-fault c =
    let none : front_token (drop (prefix_len is_blank c.args.rest.now) c.args.rest.now) ≡ None = sym (rw (take_rest, c.blanks_len-blanks.ensures.value) at c.in-None.ensures.value) in
    (refl, no_tokens c.args.at c.args.rest.now none (omega arith))
