use Rattle.std.proofs.Common.{◌≡◌, ◌+◌, true, false, List, length, is_some, ◌∙◌, ap, sym, arith}
use Rattle.std.specs.List.{slice_get}
use Rattle.dd_blocks.specs.declared.statement_row.StatementRow.{StatementRow}
use Rattle.dd_machine.specs.Owed.{entries_of}
use Rattle.dd_machine.specs.Words.{rows}
use Rattle.dd_owed.proofs.RowsLemmas.{is_none, number_found, number_passed, row_passed}
use Rattle.dd_owed.proofs.entries.row_below.Goals as goal

pub returns-then-is_some-clause-value : goal.returns-then-is_some-clause-value
returns-then-is_some-clause-value c =
    let count = ap (λ (xs : List StatementRow). length xs) c.as_slice.ensures in
    let value = c.entry_at.ensures.value in
    let tested = c.is_some.ensures in
    let there = c.if-is_some.true in
    let some : is_some (slice_get (entries_of c.args.plan.now (c.loop-above.above + 1)) 0) ≡ true = cc in
    sym (number_found c.args.plan.now c.loop-above.above (rows c.args.plan.now) (omega (arith, count)) some) ∙ c.loop-above.invariant.0

pub loop-above-preserved : goal.loop-above-preserved
loop-above-preserved c =
    let count = ap (λ (xs : List StatementRow). length xs) c.as_slice.ensures in
    let value = c.entry_at.ensures.value in
    let tested = c.is_some.ensures in
    let there = c.if-is_some.false in
    let gone : is_some (slice_get (entries_of c.args.plan.now (c.loop-above.above + 1)) 0) ≡ false = cc in (
      sym (number_passed c.args.plan.now c.loop-above.above (rows c.args.plan.now) (omega (arith, count)) gone) ∙ c.loop-above.invariant.0,
      sym (row_passed c.args.plan.now c.loop-above.above (rows c.args.plan.now) (omega (arith, count)) (is_none (slice_get (entries_of c.args.plan.now (c.loop-above.above + 1)) 0) gone)) ∙ c.loop-above.invariant.1,
    )
