use Rattle.std.proofs.Common.{nat_eq}
use Rattle.dd_machine.specs.Tests.{is_lent}
use Rattle.dd_copies.proofs.CellsLemmas.{none_has}
use Rattle.dd_tables.proofs.tables.Tables.has_no_lend.Goals as goal

pub returns : goal.returns
returns c = (
  (λ t. none_has c.args.plan.now c.args.self.now.copies (is_lent (λ t. nat_eq t c.args.task)) c.requires.sized.copies (c.has_no_lend_in.ensures.0 t)),
  (λ none. c.has_no_lend_in.ensures.1 (λ s b _ _. none s b)),
)
