use Rattle.std.proofs.Common.{◌∙◌, sym}
use Rattle.dd_alias.proofs.CongruenceLemmas.{completes_multiple, completes_rest}
use Rattle.dd_alias.proofs.congruence.complement.Goals as goal

pub returns-then-rest-eq0-clause-exact : goal.returns-then-rest-eq0-clause-exact
returns-then-rest-eq0-clause-exact c = λ x. completes_multiple c.args.number c.args.step x c.requires (sym c.remainder-rest.ensures ∙ c.if-rest-eq0.true)

pub returns-else-rest-eq0-clause-exact : goal.returns-else-rest-eq0-clause-exact
returns-else-rest-eq0-clause-exact c = λ x. rw c.remainder-rest.ensures (completes_rest c.args.number c.args.step x c.requires (λ e. c.if-rest-eq0.false (c.remainder-rest.ensures ∙ e)))
