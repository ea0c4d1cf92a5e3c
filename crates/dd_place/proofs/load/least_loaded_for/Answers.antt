use Rattle.dd_place.proofs.LoadsLemmas.{least_in_space, least_of_all}
use Rattle.dd_place.proofs.load.least_loaded_for.Goals as goal

pub returns-in-Some-clause-least : goal.returns-in-Some-clause-least
returns-in-Some-clause-least c =
    least_in_space c.args.plan.now c.args.space c.args.earlier.now c.in-Some.load.proc (rw c.as_slice-procs.ensures at c.in-Some.ensures.least)

pub returns-clause-least : goal.returns-clause-least
returns-clause-least c =
    least_of_all c.args.plan.now c.args.space c.args.earlier.now c.in-Some-least_loaded.load.proc (rw c.as_slice-procs.ensures at c.in_default.ensures) (rw c.as_slice-procs.ensures at c.in-Some-least_loaded.ensures.least)
