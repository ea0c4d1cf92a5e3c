use Rattle.std.proofs.Common.{◌≡◌, true, length, All}
use Rattle.dd_holding.specs.Facts.{IsTelling}
use Rattle.dd_machine.specs.Words.{touches}
use Rattle.dd_stamps.specs.Works.{IsSameWork}
use Rattle.dd_stamps.specs.declared.work.Stage.TheVariants.{Collecting}
use Rattle.dd_holding.proofs.holding.Holding.collect_all.Given as goal

abbrev pub invariant-loop-first : goal.invariant-loop-first
invariant-loop-first g l = record {
  same : IsSameWork l.initial.work l.work;
  stage : l.work.stage ≡ Collecting;
  blocks : All (λ b. touches l.self.ledger.plan.now l.work.task b ≡ true) l.work.left.items;
  told : IsTelling g.D.Slot.Slot.tells l.self.ledger → l.initial.work.told.mark ≡ true → l.work.told.mark ≡ true;
}

abbrev pub decreases-loop-first : goal.decreases-loop-first
decreases-loop-first g l = length l.work.left.items
