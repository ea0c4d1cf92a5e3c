use Rattle.dd_machine.proofs.RowLegal.{refused, worked}
use Rattle.dd_machine.proofs.RowWellFormed.{well_formed}
use Rattle.laws_of_machine.proofs.laws.some_whole_run.Goals as goal

pub returns-clause-well_formed : goal.returns-clause-well_formed
returns-clause-well_formed c = well_formed

pub returns-clause-worked : goal.returns-clause-worked
returns-clause-worked c = worked

pub returns-clause-refused : goal.returns-clause-refused
returns-clause-refused c = refused
