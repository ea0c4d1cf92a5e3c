-- The blocks so far were freed.
use Rattle.std.proofs.Common.{◌≡◌, ℕ, ◌+◌, refl, sym, ap, ◌∙◌, subst, arith, Bor, [], ◌∷◌}
use Rattle.dd_blocks.specs.declared.plan.Plan.{Plan}
use Rattle.dd_blocks.specs.Grids.{block_count}
use Rattle.dd_blocks.specs.Numbered.{array_row}
use Rattle.dd_core.specs.Cores.{core_state}
use Rattle.dd_core.specs.Due.{AreDue}
use Rattle.dd_machine.specs.declared.event.Event.TheVariants.{Free}
use Rattle.dd_machine.specs.Legal.{May}
use Rattle.dd_table.specs.Tables.{Enters, state_now}
use Rattle.dd_move.proofs.FreesLemmas.{Frees, free_may, frees_are, frees_first, frees_last, frees_more, there_of}
use Rattle.dd_move.proofs.names.free_array.Goals as goal

pub loop-block-init : goal.loop-block-init
loop-block-init g c =
    let t = c.args.table.now in
    let plan = t.holding.ledger.plan.now in
    let row = array_row plan c.args.array in
    let end = row.first_block + block_count row.grid in
    let same = ap (λ (p : Bor Plan). (array_row p.now c.args.array).first_block) c.plan-plan.ensures in
    subst (λ (b : ℕ). Frees t t row.first_block end b) (sym (c.first_block-block.ensures.value ∙ same))
    (frees_first t row.first_block end c.requires.between (subst (AreDue plan (state_now t)) (frees_are plan (state_now t) c.args.array end refl) c.requires.due)
    (λ k low high. there_of plan (state_now t) c.args.array end k refl c.requires.there low high))

pub free-requires-clause-legal : goal.free-requires-clause-legal
free-requires-clause-legal g c κs within =
    let t = c.args.table.now in
    let plan = t.holding.ledger.plan.now in
    let row = array_row plan c.args.array in
    let end = row.first_block + block_count row.grid in
    let m = c.loop-block.table in
    let home = c.home-space.ensures plan ∙ ap (λ k. (core_state plan k).homes c.loop-block.block) c.core.ensures in
    let last = c.end_of_blocks-block-end.ensures.value ∙ ap (λ (p : Bor Plan). (array_row p.now c.args.array).first_block + block_count (array_row p.now c.args.array).grid) c.plan-plan.ensures in
    subst (λ (s : ℕ). May m.holding.ledger.plan.now (state_now m) (Free s c.loop-block.block)) (sym home)
    (free_may t m row.first_block end c.loop-block.block c.requires.well (omega (arith, c.loop-block-test.true, last)) c.loop-block.invariant)

pub loop-block-preserved : goal.loop-block-preserved
loop-block-preserved g c =
    let t = c.args.table.now in
    let plan = t.holding.ledger.plan.now in
    let row = array_row plan c.args.array in
    let end = row.first_block + block_count row.grid in
    let m = c.loop-block.table in
    let home = c.home-space.ensures plan ∙ ap (λ k. (core_state plan k).homes c.loop-block.block) c.core.ensures in
    let last = c.end_of_blocks-block-end.ensures.value ∙ ap (λ (p : Bor Plan). (array_row p.now c.args.array).first_block + block_count (array_row p.now c.args.array).grid) c.plan-plan.ensures in
    frees_more t m c.free.new.self row.first_block end c.loop-block.block (omega (arith, c.loop-block-test.true, last)) c.loop-block.invariant
    (subst (λ (s : ℕ). Enters m c.free.new.self (Free s c.loop-block.block ∷ [])) home c.free.ensures)

pub returns : goal.returns
returns g c =
    let t = c.args.table.now in
    let plan = t.holding.ledger.plan.now in
    let row = array_row plan c.args.array in
    let end = row.first_block + block_count row.grid in
    let last = c.end_of_blocks-block-end.ensures.value ∙ ap (λ (p : Bor Plan). (array_row p.now c.args.array).first_block + block_count (array_row p.now c.args.array).grid) c.plan-plan.ensures in
    let is : c.loop-block.block ≡ end = omega (arith, c.loop-block-test.false, last, c.loop-block.auto.block) in
    subst (Enters t c.loop-block.table) (sym (frees_are plan (state_now t) c.args.array end refl))
    (frees_last t c.loop-block.table row.first_block end c.loop-block.block is c.requires.between.cause c.loop-block.invariant)
