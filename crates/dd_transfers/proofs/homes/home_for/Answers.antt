use Rattle.std.proofs.Common.{sym, ◌∙◌}
use Rattle.dd_transfers.specs.Homes.{home_by}
use Rattle.dd_transfers.proofs.MarksLemmas.{unasked}
use Rattle.dd_transfers.proofs.homes.home_for.Goals as goal

pub returns-else-asks_home-clause-same : goal.returns-else-asks_home-clause-same
returns-else-asks_home-clause-same c =
    unasked c.args.visit c.args.mark 1 (home_by c.args.plan.now c.args.homes.now (record { array = c.args.array; pos = c.args.pos })) (sym c.asks_home.ensures ∙ c.if-asks_home.false)
