use Rattle.std.proofs.Common.{◌∙◌, ◌-◌, suc, ap, sym}
use Rattle.dd_machine.specs.Owed.{entries_from, entries_of, next_entry}
use Rattle.dd_machine.specs.Words.{rows}
use Rattle.dd_owed.proofs.RowsLemmas.{left_below, next_of_left, or_else}
use Rattle.dd_owed.proofs.entries.next_entry.Goals as goal

pub returns-in-Some : goal.returns-in-Some
returns-in-Some c =
    let plan = c.args.plan.now in
    let below = entries_from plan (suc c.args.row) (rows plan - c.args.row) in
    sym (next_of_left (entries_of plan c.args.row) below c.args.made ∙ ap (λ o. or_else o (next_entry below)) (sym c.entry_at.ensures.value ∙ c.in-Some.is))

pub returns-in-None : goal.returns-in-None
returns-in-None c = c.first_below.ensures ∙ sym (left_below c.args.plan.now c.args.row c.args.made (sym c.entry_at.ensures.value ∙ c.in-None.is))
