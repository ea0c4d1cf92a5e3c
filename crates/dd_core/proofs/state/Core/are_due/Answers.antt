use Rattle.dd_core.proofs.DueLemmas.{due_of}
use Rattle.dd_core.proofs.state.Core.are_due.Goals as goal

pub returns-in-Some : goal.returns-in-Some
returns-in-Some c =
    let due = due_of c.args.plan.now c.self.inside.tables c.args.self.now c.in-Some.entry c.args.events.now c.self.view_is c.in-Some.is c.requires.core.sized in
    ((λ is. due.0 (c.come_next.ensures.0 is)), (λ are. c.come_next.ensures.1 (due.1 are)))
