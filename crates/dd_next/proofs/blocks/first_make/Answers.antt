use Rattle.std.proofs.Common.{◌≡◌, true, false, sym, ◌∙◌}
use Rattle.dd_machine.specs.declared.event.Event.TheVariants.{Make}
use Rattle.dd_next.specs.Candidates.{makes}
use Rattle.dd_next.proofs.LeftLemmas.{map_end, map_failed, map_passed}
use Rattle.dd_tables.specs.Tables.{state_of}
use Rattle.dd_next.proofs.blocks.first_make.Goals as goal

pub returns-then-may_make : goal.returns-then-may_make
returns-then-may_make c =
    map_passed c.args.plan.now (state_of c.args.plan.now c.args.tables.now) (λ b. Make c.args.task b) c.args.blocks.now c.loop-block.block-index (makes c.args.task c.args.blocks.now)
    c.loop-block-test.true (c.may_make.ensures.0 c.if-may_make.true) c.loop-block.invariant

pub loop-block-preserved : goal.loop-block-preserved
loop-block-preserved c =
    map_failed c.args.plan.now (state_of c.args.plan.now c.args.tables.now) (λ b. Make c.args.task b) c.args.blocks.now c.loop-block.block-index (makes c.args.task c.args.blocks.now)
    c.loop-block-test.true (λ may. absurd (let no_way : true ≡ false = sym (c.may_make.ensures.1 may) ∙ c.if-may_make.false in cc)) c.loop-block.invariant

pub returns : goal.returns
returns c =
    map_end c.args.plan.now (state_of c.args.plan.now c.args.tables.now) (λ b. Make c.args.task b) c.args.blocks.now c.loop-block.block-index (makes c.args.task c.args.blocks.now)
    c.loop-block-test.false c.loop-block.invariant
