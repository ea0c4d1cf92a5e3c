use Rattle.dd_next.proofs.CandidatesLemmas.{found_leads, none_found}
use Rattle.dd_tables.specs.Tables.{state_of}
use Rattle.dd_next.proofs.events.next_for.Goals as goal

pub returns-clause-leads : goal.returns-clause-leads
returns-clause-leads c = found_leads c.args.plan.now (state_of c.args.plan.now c.args.tables.now) c.args.task c.first_of.result c.first_of.ensures

pub returns-clause-none : goal.returns-clause-none
returns-clause-none c = none_found c.args.plan.now (state_of c.args.plan.now c.args.tables.now) c.args.task c.first_of.result c.requires.well c.requires.sound c.requires.held c.first_of.ensures
