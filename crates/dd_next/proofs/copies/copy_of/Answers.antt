use Rattle.std.proofs.Common.{◌<◌, ◌≤◌, ap, length, arith}
use Rattle.dd_machine.specs.Words.{spaces}
use Rattle.dd_next.specs.Candidates.{copies_of, copy_from}
use Rattle.dd_next.proofs.LeftLemmas.{parts_failed, parts_none, parts_passed}
use Rattle.dd_tables.specs.Tables.{state_of}
use Rattle.dd_next.proofs.copies.copy_of.Goals as goal

pub returns-in-Some : goal.returns-in-Some
returns-in-Some c =
    let plan = c.args.plan.now in
    let st = state_of plan c.args.tables.now in
    let lt : c.loop-i.i < spaces plan = omega (arith, ap length c.as_slice.ensures) in
    parts_passed plan st (copy_from plan st c.args.task c.args.block) c.loop-i.i (spaces plan) (copies_of plan st c.args.task c.args.block) c.in-Some.event lt c.in-Some.ensures c.loop-i.invariant

pub loop-i-preserved : goal.loop-i-preserved
loop-i-preserved c =
    let plan = c.args.plan.now in
    let st = state_of plan c.args.tables.now in
    let lt : c.loop-i.i < spaces plan = omega (arith, ap length c.as_slice.ensures) in
    parts_failed plan st (copy_from plan st c.args.task c.args.block) c.loop-i.i (spaces plan) (copies_of plan st c.args.task c.args.block) lt c.in-None.ensures c.loop-i.invariant

pub returns : goal.returns
returns c =
    let plan = c.args.plan.now in
    let st = state_of plan c.args.tables.now in
    let le : spaces plan ≤ c.loop-i.i = omega (arith, ap length c.as_slice.ensures) in
    parts_none plan st (copy_from plan st c.args.task c.args.block) c.loop-i.i (spaces plan) (copies_of plan st c.args.task c.args.block) le c.loop-i.invariant
