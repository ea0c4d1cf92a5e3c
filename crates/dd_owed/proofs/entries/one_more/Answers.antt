use Rattle.std.proofs.Common.{Option, IsSome, ◌∙◌, sym, subst}
use Rattle.dd_machine.specs.declared.entry.Entry.{Entry}
use Rattle.dd_owed.proofs.RowsLemmas.{left_below}
use Rattle.dd_owed.proofs.entries.one_more.Goals as goal

pub returns-in-None-clause-there : goal.returns-in-None-clause-there
returns-in-None-clause-there c = λ some.
    c.row_below.ensures.there (subst (λ (o : Option Entry). IsSome o) (left_below c.args.plan.now c.args.row c.args.made (sym c.entry_at.ensures.value ∙ c.in-None.is)) some)
