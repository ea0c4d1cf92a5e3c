use Rattle.std.proofs.Common.{◌≡◌, true, false, sym, ◌∙◌}
use Rattle.dd_machine.specs.declared.event.Event.TheVariants.{Call}
use Rattle.dd_next.specs.Candidates.{calls}
use Rattle.dd_next.proofs.LeftLemmas.{map_end, map_failed, map_passed}
use Rattle.dd_tables.specs.Tables.{state_of}
use Rattle.dd_next.proofs.blocks.first_call.Goals as goal

pub returns-then-may_call : goal.returns-then-may_call
returns-then-may_call c =
    map_passed c.args.plan.now (state_of c.args.plan.now c.args.tables.now) (λ b. Call c.args.space b) c.args.blocks.now c.loop-block.block-index (calls c.args.space c.args.blocks.now)
    c.loop-block-test.true (c.may_call.ensures.0 c.if-may_call.true) c.loop-block.invariant

pub loop-block-preserved : goal.loop-block-preserved
loop-block-preserved c =
    map_failed c.args.plan.now (state_of c.args.plan.now c.args.tables.now) (λ b. Call c.args.space b) c.args.blocks.now c.loop-block.block-index (calls c.args.space c.args.blocks.now)
    c.loop-block-test.true (λ may. absurd (let no_way : true ≡ false = sym (c.may_call.ensures.1 may) ∙ c.if-may_call.false in cc)) c.loop-block.invariant

pub returns : goal.returns
returns c =
    map_end c.args.plan.now (state_of c.args.plan.now c.args.tables.now) (λ b. Call c.args.space b) c.args.blocks.now c.loop-block.block-index (calls c.args.space c.args.blocks.now)
    c.loop-block-test.false c.loop-block.invariant
