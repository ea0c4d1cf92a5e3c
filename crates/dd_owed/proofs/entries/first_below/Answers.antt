use Rattle.std.proofs.Common.{List, length, ◌∙◌, ap, sym, arith}
use Rattle.dd_blocks.specs.declared.statement_row.StatementRow.{StatementRow}
use Rattle.dd_machine.specs.Words.{rows}
use Rattle.dd_owed.proofs.RowsLemmas.{row_found, row_passed}
use Rattle.dd_owed.proofs.entries.first_below.Goals as goal

pub returns-in-Some : goal.returns-in-Some
returns-in-Some c =
    let count = ap (λ (xs : List StatementRow). length xs) c.as_slice.ensures in
    sym (row_found c.args.plan.now c.loop-above.above (rows c.args.plan.now) c.in-Some.entry (omega (arith, count)) (sym c.entry_at.ensures.value ∙ c.in-Some.is)) ∙ c.loop-above.invariant

pub loop-above-preserved : goal.loop-above-preserved
loop-above-preserved c =
    let count = ap (λ (xs : List StatementRow). length xs) c.as_slice.ensures in
    sym (row_passed c.args.plan.now c.loop-above.above (rows c.args.plan.now) (omega (arith, count)) (sym c.entry_at.ensures.value ∙ c.in_default.is)) ∙ c.loop-above.invariant
