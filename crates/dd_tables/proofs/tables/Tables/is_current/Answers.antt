use Rattle.std.proofs.Common.{sym, ◌∙◌, ◌<◌}
use Rattle.dd_machine.specs.Needed.{is_current_at}
use Rattle.dd_machine.specs.Words.{size}
use Rattle.dd_tables.specs.Tables.{state_of}
use Rattle.dd_tables.proofs.ListsLemmas.{all_failed, all_passed}
use Rattle.dd_tables.proofs.tables.Tables.is_current.Goals as goal

pub returns-then-not-is_current_at : goal.returns-then-not-is_current_at
returns-then-not-is_current_at c =
    let lt : c.loop-i.i < size c.args.plan.now c.args.block = rw (← c.size-i-end.ensures.value) c.loop-i-test.true in
    sym (sym c.loop-i.invariant ∙ all_failed (is_current_at c.args.plan.now (state_of c.args.plan.now c.args.self.now) c.args.space c.args.block) c.loop-i.i (size c.args.plan.now c.args.block) lt (sym c.is_current_at.ensures ∙ c.if-not-is_current_at.true))

pub loop-i-preserved : goal.loop-i-preserved
loop-i-preserved c =
    let lt : c.loop-i.i < size c.args.plan.now c.args.block = rw (← c.size-i-end.ensures.value) c.loop-i-test.true in
    all_passed (is_current_at c.args.plan.now (state_of c.args.plan.now c.args.self.now) c.args.space c.args.block) c.loop-i.i (size c.args.plan.now c.args.block) lt (sym c.is_current_at.ensures ∙ c.if-not-is_current_at.false) ∙ c.loop-i.invariant
