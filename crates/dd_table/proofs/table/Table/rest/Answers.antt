-- The pin goes, and no copy changes.
use Rattle.std.proofs.Common.{refl}
use Rattle.dd_machine.specs.declared.event.Event.TheVariants.{Rest}
use Rattle.dd_table.specs.Tables.{state_now}
use Rattle.dd_table.proofs.AskedLemmas.{left_at}
use Rattle.dd_table.proofs.CalmLemmas.{calm_rest}
use Rattle.dd_table.proofs.FactsLemmas.{keeps_next}
use Rattle.dd_table.proofs.table.Table.rest.Goals as goal

pub line-line-requires-clause-left : goal.line-line-requires-clause-left
line-line-requires-clause-left g c = λ _ _. left_at c.args.self.now Rest c.requires.well c.requires.legal.due

pub invariant_of-self : goal.invariant_of-self
invariant_of-self g c =
    let t = c.args.self.now in
    let f = keeps_next t c.conclude.new.self (record { line = c.line-line.result; event = Rest }) c.conclude.ensures.grows c.conclude.ensures.slots (calm_rest t.holding.ledger.plan.now (state_now t) c.requires.legal) refl in
    record { settled = f.settled; counted = f.counted }
