use Rattle.dd_next.proofs.CandidatesLemmas.{from_calls, from_copies, from_lends, from_makes}
use Rattle.dd_tables.specs.Tables.{state_of}
use Rattle.dd_next.proofs.events.first_with.Goals as goal

pub returns-in-Some : goal.returns-in-Some
returns-in-Some c = from_makes c.args.plan.now (state_of c.args.plan.now c.args.tables.now) c.args.task c.args.found.now c.in-Some.event c.in-Some.ensures

pub returns-in-Some-first_call : goal.returns-in-Some-first_call
returns-in-Some-first_call c =
    from_calls c.args.plan.now (state_of c.args.plan.now c.args.tables.now) c.args.task c.place.result c.args.found.now c.in-Some-first_call.event c.place.ensures.value c.in_default.ensures c.in-Some-first_call.ensures

pub returns-in-Some-first_copy : goal.returns-in-Some-first_copy
returns-in-Some-first_copy c =
    from_copies c.args.plan.now (state_of c.args.plan.now c.args.tables.now) c.args.task c.place.result c.args.found.now c.in-Some-first_copy.event c.place.ensures.value c.in_default.ensures c.in_default-first_call.ensures c.in-Some-first_copy.ensures

pub returns : goal.returns
returns c =
    from_lends c.args.plan.now (state_of c.args.plan.now c.args.tables.now) c.args.task c.place.result c.args.found.now c.first_lend.result c.place.ensures.value c.in_default.ensures c.in_default-first_call.ensures c.in_default-first_copy.ensures
    c.first_lend.ensures
