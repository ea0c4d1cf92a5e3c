use Rattle.std.proofs.Common.{arith}
use Rattle.std.proofs.lemmas.Grind.{common_steps}
use Rattle.dd_spans.proofs.PlaceMapLemmas.{with_copied_places}
use Rattle.dd_spans.proofs.run_map.RunMap.copy_run.Goals as goal

pub returns-clause-places : goal.returns-clause-places
returns-clause-places c =
    with_copied_places _ c.args.other.now.list c.args.self.now.list c.args.first c.args.count c.requires.within c.requires.other (grind (arith, common_steps))
