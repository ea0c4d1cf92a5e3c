use Rattle.std.proofs.Common.{◌≡◌, [], ap, arith, refl}
use Rattle.dd_table.specs.Counts.{pick_count}
use Rattle.dd_session.proofs.status.Outcome.unrun.Goals as goal

no_picks : pick_count [] ≡ 0
unfolding pick_count
no_picks = refl

pub returns-clause-made : goal.returns-clause-made
returns-clause-made g c = omega (arith, ap pick_count c.new.ensures.items, no_picks)
