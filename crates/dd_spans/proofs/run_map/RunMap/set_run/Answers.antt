use Rattle.std.proofs.Common.{arith}
use Rattle.std.proofs.lemmas.Grind.{common_steps}
use Rattle.dd_spans.proofs.PlaceMapLemmas.{with_run_places}
use Rattle.dd_spans.proofs.run_map.RunMap.set_run.Goals as goal

pub returns-clause-places : goal.returns-clause-places
returns-clause-places c =
    with_run_places _ c.args.self.now.list c.args.first c.args.count c.args.value c.requires.within (grind (arith, common_steps))
