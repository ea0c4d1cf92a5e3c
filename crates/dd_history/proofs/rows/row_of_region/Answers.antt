use Rattle.std.proofs.Common.{◌≡◌, ℕ, ◌+◌, Bool, true, List, length, get_or, sym, ap, ◌∙◌, arith}
use Rattle.std.proofs.lemmas.List.Sums.{position_or_len_is}
use Rattle.dd_blocks.specs.declared.statement_row.StatementRow.{StatementRow}
use Rattle.dd_blocks.specs.declared.what.What.TheVariants.{Moved}
use Rattle.dd_blocks.specs.Homes.{runs_region}
use Rattle.dd_history.proofs.rows.row_of_region.Goals as goal

pub returns-then-runs-clause-value : goal.returns-then-runs-clause-value
returns-then-runs-clause-value c =
    let rows = c.args.plan.now.statements in
    let row : StatementRow = c.index-rows-i.result in
    let p : StatementRow → Bool = λ r. runs_region c.args.region r.what in
    let count = ap (λ (rs : List StatementRow). length rs) c.as_slice-rows.ensures in
    let passes : p (get_or rows c.loop-i.i row) ≡ true = ap (λ (rs : List StatementRow). p (get_or rs c.loop-i.i row)) (sym c.as_slice-rows.ensures) ∙ sym c.runs.ensures ∙ c.if-runs.true in
    sym (ap (λ (n : ℕ). n + 1) (position_or_len_is p rows c.loop-i.i row (omega (arith, count, c.loop-i-test.true)) (λ k lt. c.loop-i.invariant k row lt) (λ _. passes)))

pub returns-clause-value : goal.returns-clause-value
returns-clause-value c =
    let rows = c.args.plan.now.statements in
    let row : StatementRow = record { line = 0; what = Moved } in
    let p : StatementRow → Bool = λ r. runs_region c.args.region r.what in
    let count = ap (λ (rs : List StatementRow). length rs) c.as_slice-rows.ensures in
    ap (λ (n : ℕ). n + 1) count
    ∙ sym (ap (λ (n : ℕ). n + 1) (position_or_len_is p rows (length rows) row (omega arith) (λ k lt. c.loop-i.invariant k row (omega (arith, lt, count, c.loop-i-test.false))) (λ lt. absurd (omega (arith, lt)))))
