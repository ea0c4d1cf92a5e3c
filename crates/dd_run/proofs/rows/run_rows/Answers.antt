-- Each row leaves what the next one wants; an early end is one of the whole.
use Rattle.std.proofs.Common.{Bor, List, ap, arith, length, ◌∙◌}
use Rattle.dd_blocks.specs.declared.plan.Plan.{Plan}
use Rattle.dd_blocks.specs.declared.statement_row.StatementRow.{StatementRow}
use Rattle.dd_run.proofs.SoFarLemmas.{so_far_all, so_far_ends_as, so_far_next_as}
use Rattle.dd_run.proofs.rows.run_rows.Goals as goal

pub returns-in_err-run_logged-clause-gives : goal.returns-in_err-run_logged-clause-gives
returns-in_err-run_logged-clause-gives g c =
    let t = c.args.table.now in
    so_far_ends_as c.args.journal t c.loop-i.table c.run_logged.new.table c.loop-i.i _ _ _ _ _ c.in_err-run_logged.field-0.0 c.from_residual.result c.from_residual.ensures.1 c.requires.well c.requires.lines (let many = ap (λ (l : List StatementRow). length l) (c.as_slice-rows.ensures ∙ ap (λ (p : Bor Plan). p.now.statements) c.plan.ensures) in omega (arith, many, c.loop-i-test.true))
    c.loop-i.invariant.0 c.in_err-run_logged.ensures.gives c.in_err-run_logged.ensures.written

pub loop-i-preserved : goal.loop-i-preserved
loop-i-preserved g c =
    let many = ap (λ (l : List StatementRow). length l) (c.as_slice-rows.ensures ∙ ap (λ (p : Bor Plan). p.now.statements) c.plan.ensures) in (
      so_far_next_as c.args.journal c.args.table.now c.loop-i.table c.run_logged.new.table c.loop-i.i _ _ _ _ _ c.requires.lines (omega (arith, many, c.loop-i-test.true))
          c.loop-i.invariant.0 c.in_ok-run_logged.ensures.gives c.in_ok-run_logged.ensures.written,
      c.in_ok-run_logged.ensures.written.kept (λ no. absurd (cc)) ∙ c.loop-i.invariant.1,
    )

pub returns-clause-gives : goal.returns-clause-gives
returns-clause-gives g c = so_far_all c.args.journal c.args.table.now c.loop-i.table c.loop-i.i _ _
    (let many = ap (λ (l : List StatementRow). length l) (c.as_slice-rows.ensures ∙ ap (λ (p : Bor Plan). p.now.statements) c.plan.ensures) in omega (arith, many, c.loop-i-test.false, c.loop-i.auto.i-end)) c.loop-i.invariant.0
