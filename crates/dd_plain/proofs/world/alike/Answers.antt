use Rattle.std.proofs.Common.{rules}
use Rattle.dd_meaning.proofs.FillLemmas.{alike}
use Rattle.dd_plain.proofs.world.alike.Goals as goal

pub returns : goal.returns
returns c = let same = alike c.args.k 0 c.args.count in rw (← same) (search rules)
