use Rattle.std.proofs.Common.{◌≡◌, ◌<◌, ◌≤◌, true, false, sym, ◌∙◌, ap, length, arith}
use Rattle.dd_machine.specs.declared.event.Event.TheVariants.{Lend}
use Rattle.dd_machine.specs.Words.{spaces}
use Rattle.dd_next.specs.Candidates.{lends_of}
use Rattle.dd_next.proofs.LeftLemmas.{range_failed, range_none, range_passed}
use Rattle.dd_tables.specs.Tables.{state_of}
use Rattle.dd_next.proofs.copies.lend_of.Goals as goal

pub returns-then-may_lend : goal.returns-then-may_lend
returns-then-may_lend c =
    let plan = c.args.plan.now in
    let lt : c.loop-i.i < spaces plan = omega (arith, ap length c.as_slice.ensures) in
    range_passed plan (state_of plan c.args.tables.now) (λ s. Lend c.args.task c.args.block s) c.loop-i.i (spaces plan) (lends_of plan c.args.task c.args.block) lt (c.may_lend.ensures.0 c.if-may_lend.true) c.loop-i.invariant

pub loop-i-preserved : goal.loop-i-preserved
loop-i-preserved c =
    let plan = c.args.plan.now in
    let lt : c.loop-i.i < spaces plan = omega (arith, ap length c.as_slice.ensures) in
    range_failed plan (state_of plan c.args.tables.now) (λ s. Lend c.args.task c.args.block s) c.loop-i.i (spaces plan) (lends_of plan c.args.task c.args.block) lt
    (λ may. absurd (let no_way : true ≡ false = sym (c.may_lend.ensures.1 may) ∙ c.if-may_lend.false in cc)) c.loop-i.invariant

pub returns : goal.returns
returns c =
    let plan = c.args.plan.now in
    let le : spaces plan ≤ c.loop-i.i = omega (arith, ap length c.as_slice.ensures) in
    range_none plan (state_of plan c.args.tables.now) (λ s. Lend c.args.task c.args.block s) c.loop-i.i (spaces plan) (lends_of plan c.args.task c.args.block) le c.loop-i.invariant
