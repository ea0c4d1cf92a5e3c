-- The blocks so far were put, and those that are left have their homes still.
use Rattle.std.proofs.Common.{◌≡◌, ℕ, ◌+◌, List, length, Bor, refl, sym, ap, ◌∙◌, subst, arith, Ok, Err}
use Rattle.dd_blocks.specs.declared.plan.Plan.{Plan}
use Rattle.dd_blocks.specs.Grids.{block_count}
use Rattle.dd_blocks.specs.Numbered.{array_row}
use Rattle.dd_core.specs.Due.{AreDue}
use Rattle.dd_machine.specs.declared.event.Event.{Event}
use Rattle.dd_machine.specs.Words.{IsOneOf, blocks}
use Rattle.dd_run.specs.Puts.{put_events, put_one}
use Rattle.dd_run.proofs.PutsLemmas.{put_due, put_may, put_more, put_stops, puts_are}
use Rattle.dd_statements.specs.Follows.{Asks, Follows}
use Rattle.dd_statements.proofs.AddsLemmas.{put_asks}
use Rattle.dd_statements.proofs.LoopLemmas.{IsAtBlock, block_first, block_last}
use Rattle.dd_table.specs.Tables.{line_now, state_now}
use Rattle.dd_table.proofs.GivesLemmas.{err_as}
use Rattle.dd_run.proofs.puts.put_blocks.Goals as goal

pub loop-block-init : goal.loop-block-init
loop-block-init g c =
    let t = c.args.table.now in
    let plan = t.holding.ledger.plan.now in
    let row = array_row plan c.args.array in
    let end = row.first_block + block_count row.grid in
    let same = ap (λ (p : Bor Plan). (array_row p.now c.args.array).first_block) c.plan-plan.ensures in
    subst (λ (b : ℕ). IsAtBlock t t (put_one (state_now t)) row.first_block end b) (sym (c.first_block-block.ensures.value ∙ same))
    (block_first t (put_one (state_now t)) row.first_block end c.requires.between
    (subst (AreDue plan (state_now t)) (puts_are plan (state_now t) c.args.array end refl) c.requires.due))

pub put_block-requires-clause-legal : goal.put_block-requires-clause-legal
put_block-requires-clause-legal g c = λ _ _ _.
    let t = c.args.table.now in
    let plan = t.holding.ledger.plan.now in
    let row = array_row plan c.args.array in
    let end = row.first_block + block_count row.grid in
    let last = c.end_of_blocks-block-end.ensures.value ∙ ap (λ (p : Bor Plan). (array_row p.now c.args.array).first_block + block_count (array_row p.now c.args.array).grid) c.plan-plan.ensures in
    let within = ap (λ (p : Bor Plan). length p.now.blocks) c.plan-plan.ensures in
    let block_is : IsOneOf (blocks plan) c.loop-block.block = (omega (arith, c.first_block-block.ensures.some, c.loop-block.auto.block), omega (arith, c.loop-block-test.true, c.end_of_blocks-block-end.ensures.within, within)) in
    put_may t c.loop-block.table row.first_block end c.loop-block.block c.requires.well (omega (arith, c.loop-block-test.true, last)) block_is c.loop-block.invariant

pub put_block-requires-clause-due : goal.put_block-requires-clause-due
put_block-requires-clause-due g c = λ _ _ _.
    let t = c.args.table.now in
    let row = array_row t.holding.ledger.plan.now c.args.array in
    let end = row.first_block + block_count row.grid in
    let last = c.end_of_blocks-block-end.ensures.value ∙ ap (λ (p : Bor Plan). (array_row p.now c.args.array).first_block + block_count (array_row p.now c.args.array).grid) c.plan-plan.ensures in
    put_due t c.loop-block.table row.first_block end c.loop-block.block (omega (arith, c.loop-block-test.true, last)) c.loop-block.invariant

pub returns-in_err-put_block : goal.returns-in_err-put_block
returns-in_err-put_block g c =
    let t = c.args.table.now in
    let u = c.put_block.new.self in
    let m = c.loop-block.table in
    let b = c.loop-block.block in
    let plan = t.holding.ledger.plan.now in
    let row = array_row plan c.args.array in
    let end = row.first_block + block_count row.grid in
    let fault = c.in_err-put_block.field-0.0 in
    let last = c.end_of_blocks-block-end.ensures.value ∙ ap (λ (p : Bor Plan). (array_row p.now c.args.array).first_block + block_count (array_row p.now c.args.array).grid) c.plan-plan.ensures in
    let stops = put_stops t m u row.first_block end b fault (omega (arith, c.loop-block-test.true, last)) c.loop-block.invariant (put_asks m u (line_now m) b (Err fault) refl c.in_err-put_block.ensures) in
    record {
      gives = err_as (Asks t u (line_now t) (put_events plan (state_now t) c.args.array)) c.from_residual.result fault c.from_residual.ensures.1
          (subst (λ (l : List Event). Asks t u (line_now t) l (Err fault)) (sym (puts_are plan (state_now t) c.args.array end refl)) stops);
    }

pub loop-block-preserved : goal.loop-block-preserved
loop-block-preserved g c =
    let t = c.args.table.now in
    let m = c.loop-block.table in
    let b = c.loop-block.block in
    let row = array_row t.holding.ledger.plan.now c.args.array in
    let end = row.first_block + block_count row.grid in
    let last = c.end_of_blocks-block-end.ensures.value ∙ ap (λ (p : Bor Plan). (array_row p.now c.args.array).first_block + block_count (array_row p.now c.args.array).grid) c.plan-plan.ensures in
    put_more t m c.put_block.new.self row.first_block end b (omega (arith, c.loop-block-test.true, last)) c.loop-block.invariant (put_asks m c.put_block.new.self (line_now m) b (Ok tt) refl c.in_ok-put_block.ensures)

pub returns : goal.returns
returns g c =
    let t = c.args.table.now in
    let plan = t.holding.ledger.plan.now in
    let row = array_row plan c.args.array in
    let end = row.first_block + block_count row.grid in
    let last = c.end_of_blocks-block-end.ensures.value ∙ ap (λ (p : Bor Plan). (array_row p.now c.args.array).first_block + block_count (array_row p.now c.args.array).grid) c.plan-plan.ensures in
    let is : c.loop-block.block ≡ end = omega (arith, c.loop-block-test.false, last, c.loop-block.auto.block) in
    record {
      gives = subst (Follows t c.loop-block.table (line_now t)) (sym (puts_are plan (state_now t) c.args.array end refl))
          (block_last t c.loop-block.table (put_one (state_now t)) row.first_block end c.loop-block.block is c.loop-block.invariant);
    }
