use Rattle.dd_alias.proofs.CongruenceLemmas.{far_common, common_of}
use Rattle.dd_alias.proofs.congruence.least_common.Goals as goal

pub returns-in_default : goal.returns-in_default
returns-in_default c = far_common c.args.a c.args.b c.complement.result c.complement.ensures.exact c.in_default.ensures

pub returns : goal.returns
returns c = common_of c.args.a c.args.b c.complement.result c.in-Some.turns _ c.requires.a c.requires.b c.complement.ensures.exact c.in-Some.ensures c.checked_add.ensures
