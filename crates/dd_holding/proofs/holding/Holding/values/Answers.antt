-- A copy that is Here is in memory.
use Rattle.std.proofs.Common.{sym}
use Rattle.dd_holding.proofs.HereLemmas.{not_missing}
use Rattle.dd_holding.proofs.holding.Holding.values.Goals as goal

pub unreachable-requires : goal.unreachable-requires
unreachable-requires g c =
    let x = c.args.self.now in
    not_missing x.ledger x.pool c.args.space c.args.block x.facts c.requires.place c.requires.here (sym c.in-None.ensures.value)
