use Rattle.std.proofs.Common.{sym, ◌∙◌, ◌<◌, arith}
use Rattle.dd_machine.specs.Needed.{is_needed}
use Rattle.dd_machine.specs.Words.{size}
use Rattle.dd_tables.specs.Tables.{state_of}
use Rattle.dd_tables.proofs.ListsLemmas.{count_failed, count_passed}
use Rattle.dd_tables.proofs.tables.Tables.needed_len.Goals.{then-is_needed, else-is_needed}
use Rattle.dd_tables.proofs.tables.Tables.needed_len.Goals as goal

pub loop-i-preserved : goal.loop-i-preserved
loop-i-preserved c =
    let lt : c.loop-i.i < size c.args.plan.now c.args.block = rw (← c.size-i-end.ensures.value) c.loop-i-test.true in
    let old = c.loop-i.invariant in
    elim c.if-is_needed.branch [
      | then-is_needed w ↦
          let more = count_passed (is_needed c.args.plan.now (state_of c.args.plan.now c.args.self.now) c.args.task c.args.block c.args.from) c.loop-i.i (size c.args.plan.now c.args.block) lt (sym c.is_needed.ensures ∙ w.if-is_needed.true) in
          let is = w.count-is in
          (omega (arith, old.0, is), omega (arith, old.1, is, more))
      | else-is_needed w ↦
          let more = count_failed (is_needed c.args.plan.now (state_of c.args.plan.now c.args.self.now) c.args.task c.args.block c.args.from) c.loop-i.i (size c.args.plan.now c.args.block) lt (sym c.is_needed.ensures ∙ w.if-is_needed.false) in
          let is = w.count-is in
          (omega (arith, old.0, is), omega (arith, old.1, is, more))
    ]
