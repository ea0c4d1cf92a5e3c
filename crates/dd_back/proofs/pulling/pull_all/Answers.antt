-- One space more gave what was needed from it.
use Rattle.std.proofs.Common.{◌+◌}
use Rattle.dd_table.proofs.GivesLemmas.{err_as}
use Rattle.dd_back.specs.Steps.{PullsGive}
use Rattle.dd_back.proofs.PullingLemmas.{pulling_may, pulling_next, pulling_stops}
use Rattle.dd_back.proofs.pulling.pull_all.Goals as goal

pub pull-requires-clause-legal : goal.pull-requires-clause-legal
pull-requires-clause-legal g c = λ _ _ _ some. pulling_may c.args.table.now c.loop-i.table c.args.block c.loop-i.i (c.loop-i.i + 1) c.requires.well c.loop-i.invariant some

pub returns-in_err-pull : goal.returns-in_err-pull
returns-in_err-pull g c = record {
  gives = err_as (PullsGive c.args.table.now c.pull.new.self c.args.block) c.from_residual.result c.in_err-pull.field-0.0 c.from_residual.ensures.1
      (pulling_stops c.args.table.now c.loop-i.table c.pull.new.self c.args.block c.loop-i.i (c.loop-i.i + 1) c.in_err-pull.field-0.0 c.requires.pinned c.loop-i.invariant c.in_err-pull.ensures);
}

pub loop-i-preserved : goal.loop-i-preserved
loop-i-preserved g c = pulling_next c.args.table.now c.loop-i.table c.pull.new.self c.args.block c.loop-i.i c.requires.well c.requires.pinned c.loop-i.invariant c.in_ok-pull.ensures
