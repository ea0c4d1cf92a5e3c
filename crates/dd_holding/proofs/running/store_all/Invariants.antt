use Rattle.std.proofs.Common.{take}
use Rattle.dd_holding.specs.Works.{StoresAll}
use Rattle.dd_holding.proofs.running.store_all.Given as goal

abbrev pub invariant-loop-block : goal.invariant-loop-block
invariant-loop-block g l = StoresAll l.initial.pool l.pool l.work l.space (take l.block-index l.blocks)
