use Rattle.std.proofs.Common.{sym, arith}
use Rattle.dd_next.proofs.CandidatesLemmas.{no_pick, no_victim, picked}
use Rattle.dd_tables.specs.Tables.{state_of}
use Rattle.dd_next.proofs.picks.first_pick.Goals as goal

pub returns-then-load-limit : goal.returns-then-load-limit
returns-then-load-limit c =
    let is = c.load.ensures.value in
    let most = c.limit.ensures in
    let low = c.if-load-limit.true in
    no_pick c.args.plan.now (state_of c.args.plan.now c.args.tables.now) c.args.space (omega (arith, is, most, low))

pub returns-in-Some : goal.returns-in-Some
returns-in-Some c =
    let is = c.load.ensures.value in
    let most = c.limit.ensures in
    let high = c.if-load-limit.false in
    picked c.args.plan.now (state_of c.args.plan.now c.args.tables.now) c.args.space c.in-Some.block c.requires.sound c.requires.space (omega (arith, is, most, high)) (sym c.in-Some.ensures)

pub returns-in-None : goal.returns-in-None
returns-in-None c = no_victim c.args.plan.now (state_of c.args.plan.now c.args.tables.now) c.args.space (sym c.in-None.ensures)
