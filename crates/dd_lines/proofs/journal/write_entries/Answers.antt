use Rattle.std.proofs.Common.{arith}
use Rattle.std.proofs.lemmas.List.{at_drop_more}
use Rattle.dd_causes.proofs.CountsLemmas.{anyway_on_err}
use Rattle.dd_causes.proofs.AppendedLemmas.{all_but_more, front_in_piece}
use Rattle.dd_machine.specs.Journal.{journal_lines}
use Rattle.dd_lines.proofs.journal.write_entries.Goals as goal

pub loop-entry-preserved : goal.loop-entry-preserved
loop-entry-preserved g c =
    let next = at_drop_more journal_lines c.args.entries.now c.loop-entry.entry-index _ (omega arith) in
    (all_but_more c.loop-entry.invariant.0 _ _ next c.in_ok-journal_line.ensures.all, omega (arith, c.loop-entry.invariant.1, c.in_ok-journal_line.ensures.kept))

pub returns-in_err-journal_line-clause-front : goal.returns-in_err-journal_line-clause-front
returns-in_err-journal_line-clause-front g c =
    let next = at_drop_more journal_lines c.args.entries.now c.loop-entry.entry-index _ (omega arith) in
    anyway_on_err _ (front_in_piece c.loop-entry.invariant.0 _ _ next c.in_err-journal_line.ensures.front)
