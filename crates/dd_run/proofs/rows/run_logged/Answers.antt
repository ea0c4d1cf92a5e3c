-- What the row prints, and then the lines of its entries.
use Rattle.std.proofs.Common.{◌-◌, ap, drop, length, take, vec_items, vec_len, ◌∙◌}
use Rattle.dd_machine.specs.Journal.{journal_lines}
use Rattle.dd_meaning.specs.Text.{row_text}
use Rattle.dd_run.specs.Texts.{lines_below, row_part}
use Rattle.dd_run.proofs.AtLemmas.{plan_of}
use Rattle.dd_run.proofs.TextsLemmas.{logged_part}
use Rattle.dd_run.proofs.WritesLemmas.{broke_first, broke_second, wrote_both}
use Rattle.dd_run.proofs.rows.run_logged.Goals as goal

pub returns-in_err-run_row-clause-written : goal.returns-in_err-run_row-clause-written
returns-in_err-run_row-clause-written g c =
    let plan = plan_of c.args.table.now in
    broke_first (row_text plan c.args.i) (lines_below plan c.args.journal c.run_row.new.table.holding.ledger.journal.items c.args.i) c.in_err-run_row.field-0.0 c.from_residual.ensures.1 c.in_err-run_row.ensures.written

pub returns-in_err-write_entries-clause-written : goal.returns-in_err-write_entries-clause-written
returns-in_err-write_entries-clause-written g c =
    let t = c.args.table.now in
    let plan = plan_of t in
    let row = c.in_ok-run_row.ensures in
    let journal = c.run_row.new.table.holding.ledger.journal.items in
    let same = c.as_slice.ensures.value ∙ ap (λ v. vec_items v) c.journal-then-journal.ensures in
    let at = c.len-before.ensures ∙ ap (λ v. vec_len v) c.journal.ensures ∙ t.holding.ledger.journal.ok.0 in
    broke_second (row_text plan c.args.i) (journal_lines (take (length c.as_slice.result.now - c.len-before.result) (drop c.len-before.result c.as_slice.result.now))) (row_part plan c.args.journal journal c.args.i)
    (logged_part plan c.args.journal c.args.i c.len-before.result t.holding.ledger.journal.items journal c.as_slice.result.now row.gives.enters.added c.if-journal.true c.requires.none c.requires.within row.gives.enters.grows.journal same at)
    c.from_residual-in_err-write_entries.ensures.1 row.written c.in_err-write_entries.ensures.front c.in_err-write_entries.ensures.cause c.write_entries.ensures.later

pub returns-in_ok-write_entries-clause-written : goal.returns-in_ok-write_entries-clause-written
returns-in_ok-write_entries-clause-written g c =
    let t = c.args.table.now in
    let plan = plan_of t in
    let row = c.in_ok-run_row.ensures in
    let journal = c.run_row.new.table.holding.ledger.journal.items in
    let same = c.as_slice.ensures.value ∙ ap (λ v. vec_items v) c.journal-then-journal.ensures in
    let at = c.len-before.ensures ∙ ap (λ v. vec_len v) c.journal.ensures ∙ t.holding.ledger.journal.ok.0 in
    wrote_both (row_text plan c.args.i) (journal_lines (take (length c.as_slice.result.now - c.len-before.result) (drop c.len-before.result c.as_slice.result.now))) (row_part plan c.args.journal journal c.args.i)
    (logged_part plan c.args.journal c.args.i c.len-before.result t.holding.ledger.journal.items journal c.as_slice.result.now row.gives.enters.added c.if-journal.true c.requires.none c.requires.within row.gives.enters.grows.journal same at)
    row.written c.in_ok-write_entries.ensures.all c.in_ok-write_entries.ensures.kept
