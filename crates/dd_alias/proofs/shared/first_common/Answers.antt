use Rattle.dd_alias.proofs.SharedLemmas.{far_first, first_of}
use Rattle.dd_alias.proofs.shared.first_common.Goals as goal

pub returns-in_default : goal.returns-in_default
returns-in_default c = far_first c.args.a.now c.args.b.now c.complement-start.result c.requires c.complement-start.ensures.exact c.in_default.ensures

pub returns : goal.returns
returns c = first_of c.args.a.now c.args.b.now c.complement-start.result c.in-Some.turns _ c.requires c.complement-start.ensures.exact c.in-Some.ensures c.checked_add.ensures
