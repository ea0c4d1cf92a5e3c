-- The blocks so far were seen to, and those that are left have their first homes.
use Rattle.std.proofs.Common.{◌≡◌, ℕ, ◌+◌, ◌<◌, List, length, None, Bor, refl, sym, ap, ◌∙◌, subst, arith, Ok, Err}
use Rattle.std.proofs.lemmas.Bool.{eq-eqb}
use Rattle.dd_blocks.specs.declared.plan.Plan.{Plan}
use Rattle.dd_blocks.specs.Grids.{block_count}
use Rattle.dd_blocks.specs.Numbered.{array_row}
use Rattle.dd_core.specs.Cores.{core_state}
use Rattle.dd_core.specs.Due.{AreDue}
use Rattle.dd_machine.specs.declared.event.Event.{Event}
use Rattle.dd_machine.specs.Words.{IsOneOf, blocks}
use Rattle.dd_move.specs.Moves.{move_events}
use Rattle.dd_statements.specs.Follows.{Asks, Follows}
use Rattle.dd_statements.proofs.AddsLemmas.{shift_asks, stopped_in}
use Rattle.dd_statements.proofs.LoopLemmas.{IsAtBlock, block_first, block_last, block_skip}
use Rattle.dd_table.specs.Tables.{line_now, state_now}
use Rattle.dd_table.proofs.GivesLemmas.{err_as}
use Rattle.dd_move.proofs.MovesLemmas.{away, away_there, moves_are}
use Rattle.dd_move.proofs.ShiftsLemmas.{elsewhere, home_first, shift_due, shift_may, shift_more, shift_stops}
use Rattle.dd_move.proofs.moving.move_array.Goals as goal
use Rattle.dd_move.proofs.moving.move_array.Goals.{then-home-space+in_ok-shift, else-home-space}

pub returns-in-Some : goal.returns-in-Some
returns-in-Some g c = record {
  gives = stopped_in c.args.table.now (line_now c.args.table.now) (move_events c.args.table.now.holding.ledger.plan.now (state_now c.args.table.now) c.args.array c.args.space) c.in-Some.cause (sym c.cause.ensures ∙ c.in-Some.is);
}

pub loop-block-init : goal.loop-block-init
loop-block-init g c =
    let t = c.args.table.now in
    let plan = t.holding.ledger.plan.now in
    let row = array_row plan c.args.array in
    let end = row.first_block + block_count row.grid in
    let none : t.cause ≡ None = sym c.cause.ensures ∙ c.in_default.is in
    let same = ap (λ (p : Bor Plan). (array_row p.now c.args.array).first_block) c.plan-plan.ensures in
    subst (λ (b : ℕ). IsAtBlock t t (away (state_now t).homes c.args.space) row.first_block end b) (sym (c.first_block-block.ensures.value ∙ same))
    (block_first t (away (state_now t).homes c.args.space) row.first_block end (c.requires.between none)
    (subst (AreDue plan (state_now t)) (moves_are plan (state_now t) c.args.array c.args.space end refl) (c.requires.due none)))

pub shift-requires-clause-legal : goal.shift-requires-clause-legal
shift-requires-clause-legal g c = λ _ _ _.
    let t = c.args.table.now in
    let plan = t.holding.ledger.plan.now in
    let row = array_row plan c.args.array in
    let end = row.first_block + block_count row.grid in
    let m = c.loop-block.table in
    let home = c.home.ensures plan ∙ ap (λ k. (core_state plan k).homes c.loop-block.block) c.core.ensures in
    let last = c.end_of_blocks-block-end.ensures.value ∙ ap (λ (p : Bor Plan). (array_row p.now c.args.array).first_block + block_count (array_row p.now c.args.array).grid) c.plan-plan.ensures in
    let within = ap (λ (p : Bor Plan). length p.now.blocks) c.plan-plan.ensures in
    let block_is : IsOneOf (blocks plan) c.loop-block.block = (omega (arith, c.first_block-block.ensures.some, c.loop-block.auto.block), omega (arith, c.loop-block-test.true, c.end_of_blocks-block-end.ensures.within, within)) in
    shift_may t m c.args.space row.first_block end c.loop-block.block (omega (arith, c.loop-block-test.true, last)) c.requires.space block_is c.loop-block.invariant
    (elsewhere c.home.result ((state_now m).homes c.loop-block.block) c.args.space home c.if-home-space.true)

pub shift-requires-clause-due : goal.shift-requires-clause-due
shift-requires-clause-due g c = λ _ _ _.
    let t = c.args.table.now in
    let plan = t.holding.ledger.plan.now in
    let row = array_row plan c.args.array in
    let end = row.first_block + block_count row.grid in
    let m = c.loop-block.table in
    let home = c.home.ensures plan ∙ ap (λ k. (core_state plan k).homes c.loop-block.block) c.core.ensures in
    let last = c.end_of_blocks-block-end.ensures.value ∙ ap (λ (p : Bor Plan). (array_row p.now c.args.array).first_block + block_count (array_row p.now c.args.array).grid) c.plan-plan.ensures in
    shift_due t m c.args.space row.first_block end c.loop-block.block (omega (arith, c.loop-block-test.true, last)) c.loop-block.invariant
    (elsewhere c.home.result ((state_now m).homes c.loop-block.block) c.args.space home c.if-home-space.true)

pub returns-in_err-shift : goal.returns-in_err-shift
returns-in_err-shift g c =
    let t = c.args.table.now in
    let u = c.shift.new.self in
    let plan = t.holding.ledger.plan.now in
    let row = array_row plan c.args.array in
    let end = row.first_block + block_count row.grid in
    let m = c.loop-block.table in
    let b = c.loop-block.block in
    let fault = c.in_err-shift.field-0.0 in
    let home = c.home.ensures plan ∙ ap (λ k. (core_state plan k).homes b) c.core.ensures in
    let last = c.end_of_blocks-block-end.ensures.value ∙ ap (λ (p : Bor Plan). (array_row p.now c.args.array).first_block + block_count (array_row p.now c.args.array).grid) c.plan-plan.ensures in
    let events = move_events plan (state_now t) c.args.array c.args.space in
    let stops = shift_stops t m u c.args.space row.first_block end b fault (omega (arith, c.loop-block-test.true, last)) c.loop-block.invariant
    (elsewhere c.home.result ((state_now m).homes b) c.args.space home c.if-home-space.true) (shift_asks m u (line_now m) b c.args.space (Err fault) refl c.in_err-shift.ensures) in
    record {
      gives = err_as (Asks t u (line_now t) events) c.from_residual.result fault c.from_residual.ensures.1
          (subst (λ (l : List Event). Asks t u (line_now t) l (Err fault)) (sym (moves_are plan (state_now t) c.args.array c.args.space end refl)) stops);
    }

pub loop-block-preserved : goal.loop-block-preserved
loop-block-preserved g c =
    let t = c.args.table.now in
    let plan = t.holding.ledger.plan.now in
    let row = array_row plan c.args.array in
    let end = row.first_block + block_count row.grid in
    let m = c.loop-block.table in
    let b = c.loop-block.block in
    let homes = (state_now t).homes in
    let home = c.home.ensures plan ∙ ap (λ k. (core_state plan k).homes b) c.core.ensures in
    let last = c.end_of_blocks-block-end.ensures.value ∙ ap (λ (p : Bor Plan). (array_row p.now c.args.array).first_block + block_count (array_row p.now c.args.array).grid) c.plan-plan.ensures in
    let lt : b < end = omega (arith, c.loop-block-test.true, last) in
    elim c.if-home-space.branch [
      | then-home-space+in_ok-shift w ↦
          subst (λ u. IsAtBlock t u (away homes c.args.space) row.first_block end (b + 1)) (sym w.table-is)
          (shift_more t m w.shift.new.self c.args.space row.first_block end b lt c.loop-block.invariant
          (elsewhere c.home.result ((state_now m).homes b) c.args.space home w.if-home-space.true) (shift_asks m w.shift.new.self (line_now m) b c.args.space (Ok tt) refl w.in_ok-shift.ensures))
      | else-home-space w ↦
          let first = home_first t m c.args.space row.first_block end b c.loop-block.invariant in
          subst (λ u. IsAtBlock t u (away homes c.args.space) row.first_block end (b + 1)) (sym w.table-is)
          (block_skip t m (away homes c.args.space) row.first_block end b lt c.loop-block.invariant
          (away_there homes c.args.space b (eq-eqb (homes b) c.args.space (sym first ∙ sym home ∙ w.if-home-space.false))))
    ]

pub returns : goal.returns
returns g c =
    let t = c.args.table.now in
    let plan = t.holding.ledger.plan.now in
    let row = array_row plan c.args.array in
    let end = row.first_block + block_count row.grid in
    let last = c.end_of_blocks-block-end.ensures.value ∙ ap (λ (p : Bor Plan). (array_row p.now c.args.array).first_block + block_count (array_row p.now c.args.array).grid) c.plan-plan.ensures in
    let is : c.loop-block.block ≡ end = omega (arith, c.loop-block-test.false, last, c.loop-block.auto.block) in
    record {
      gives = subst (Follows t c.loop-block.table (line_now t)) (sym (moves_are plan (state_now t) c.args.array c.args.space end refl))
          (block_last t c.loop-block.table (away (state_now t).homes c.args.space) row.first_block end c.loop-block.block is c.loop-block.invariant);
    }
