-- One block more came home.
use Rattle.std.proofs.Common.{◌≡◌, Bor, List, length, ap, ◌∙◌, arith}
use Rattle.dd_blocks.specs.declared.block_row.BlockRow.{BlockRow}
use Rattle.dd_blocks.specs.declared.plan.Plan.{Plan}
use Rattle.dd_pool.proofs.PlanLemmas.{few_blocks}
use Rattle.dd_table.proofs.GivesLemmas.{err_as}
use Rattle.dd_back.specs.Steps.{AllComeGives}
use Rattle.dd_back.proofs.ComingLemmas.{coming_at_end, coming_next, coming_stops}
use Rattle.dd_back.proofs.home.bring_all_home.Goals as goal

pub overflow_cast-i-end : goal.overflow_cast-i-end
overflow_cast-i-end g c =
    let plan = c.args.table.now.holding.ledger.plan.now in
    let few = few_blocks plan c.requires.well in
    let same : length c.as_slice.result.now ≡ length plan.blocks = ap (λ (rows : List BlockRow). length rows) c.as_slice.ensures ∙ ap (λ (p : Bor Plan). length p.now.blocks) c.plan.ensures in
    omega (arith, few, same)

pub bring_home-requires-clause-at_end : goal.bring_home-requires-clause-at_end
bring_home-requires-clause-at_end g c = λ _ _. coming_at_end c.args.table.now c.loop-i.table c.loop-i.i c.requires.at_end c.loop-i.invariant

pub returns-in_err-bring_home : goal.returns-in_err-bring_home
returns-in_err-bring_home g c = record {
  gives = err_as (AllComeGives c.args.table.now c.bring_home.new.table) c.from_residual.result c.in_err-bring_home.field-0.0 c.from_residual.ensures.1
      (coming_stops c.args.table.now c.loop-i.table c.bring_home.new.table c.loop-i.i c.in_err-bring_home.field-0.0 c.requires.at_end c.loop-i.invariant c.in_err-bring_home.ensures.gives);
}

pub loop-i-preserved : goal.loop-i-preserved
loop-i-preserved g c = coming_next c.args.table.now c.loop-i.table c.bring_home.new.table c.loop-i.i c.requires.at_end c.loop-i.invariant c.in_ok-bring_home.ensures.gives
