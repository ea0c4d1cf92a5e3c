use Rattle.std.proofs.Common.{rules, ◌≡◌, Some, ap}
use Rattle.dd_copies.specs.Numbers.{at_number, or_else}
use Rattle.dd_tables.specs.Tables.{state_of}
use Rattle.dd_tables.proofs.WorkLemmas.{worker_known}
use Rattle.dd_tables.proofs.tables.Tables.worker.Goals as goal

pub returns-in-Some-clause-known : goal.returns-in-Some-clause-known
returns-in-Some-clause-known c =
    let e : at_number c.args.self.now.at_work.items c.args.proc ≡ Some c.in-Some.task.now = search rules in
    worker_known c.args.plan.now (state_of c.args.plan.now c.args.self.now) c.args.self.now.at_work.items c.args.proc c.in-Some.task.now c.requires.at_work (ap (or_else 0) e)
