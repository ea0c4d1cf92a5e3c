use Rattle.dd_machine.specs.Tests.{is_leaving}
use Rattle.dd_copies.proofs.CellsLemmas.{none_has}
use Rattle.dd_tables.proofs.tables.Tables.none_leaves.Goals as goal

pub returns : goal.returns
returns c = (
  (λ t. none_has c.args.plan.now c.args.self.now.copies is_leaving c.requires.sized.copies (c.none_leaves_in.ensures.0 t)),
  (λ none. c.none_leaves_in.ensures.1 (λ s b _ _. none s b)),
)
