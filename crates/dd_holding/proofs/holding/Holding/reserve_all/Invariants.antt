use Rattle.std.proofs.Common.{◌≡◌, ◌≤◌, [], take, All}
use Rattle.std.specs.Prelude.{IsSomeAnd}
use Rattle.dd_holding.specs.Holdings.{Holds, KeepsSlots}
use Rattle.dd_holding.specs.Users.{most_wanted}
use Rattle.dd_pool.specs.Pools.{copy_at}
use Rattle.dd_stamps.specs.declared.stamped.Stamped.{Stamped}
use Rattle.dd_holding.proofs.holding.Holding.reserve_all.Given as goal

abbrev pub invariant-loop-block : goal.invariant-loop-block
invariant-loop-block g l = record {
  kept : Holds l.initial.self l.self [];
  ledger : l.self.ledger ≡ l.initial.self.ledger;
  slots : KeepsSlots l.initial.self l.self;
  room : All (λ b. IsSomeAnd (copy_at l.self.pool l.space b) (λ (c : Stamped). most_wanted l.initial.self.ledger.plan.now b ≤ c.versions.spare)) (take l.block-index l.blocks);
}
