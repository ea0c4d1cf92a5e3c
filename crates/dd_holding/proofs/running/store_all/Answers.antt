-- Each block is stored once, since they rise.
use Rattle.std.proofs.Common.{Bor, get_or, sym, subst}
use Rattle.std.proofs.lemmas.List.Elements.{All-get_or}
use Rattle.dd_blocks.specs.declared.plan.Plan.{Plan}
use Rattle.dd_pool.specs.Places.{IsPlace}
use Rattle.dd_holding.proofs.StoreLemmas.{next_may, none_stored, places_of, stored_more}
use Rattle.dd_holding.proofs.running.store_all.Goals as goal

pub loop-block-init : goal.loop-block-init
loop-block-init g c = none_stored c.args.pool.now c.args.work.now c.args.space

pub store_outputs-requires-clause-place : goal.store_outputs-requires-clause-place
store_outputs-requires-clause-place g c = λ _ _.
    let blocks = c.args.blocks.now in
    let plan = c.args.pool.now.plan.now in
    let places = places_of plan c.args.space blocks c.requires.space c.requires.blocks in
    subst (λ (p : Bor Plan). IsPlace p.now c.args.space (get_or blocks c.loop-block.block-index 0)) (sym c.loop-block.invariant.rest.plan) (All-get_or (IsPlace plan c.args.space) blocks c.loop-block.block-index 0 c.loop-block-test.true places)

pub store_outputs-requires-clause-there : goal.store_outputs-requires-clause-there
store_outputs-requires-clause-there g c = λ _ _.
    let blocks = c.args.blocks.now in
    let plan = c.args.pool.now.plan.now in
    let places = places_of plan c.args.space blocks c.requires.space c.requires.blocks in
    next_may c.args.pool.now c.loop-block.pool c.args.work.now c.args.space c.loop-block.block-index blocks c.requires.rising c.loop-block-test.true
    (All-get_or (IsPlace plan c.args.space) blocks c.loop-block.block-index 0 c.loop-block-test.true places) c.requires.there c.loop-block.invariant

pub loop-block-preserved : goal.loop-block-preserved
loop-block-preserved g c =
    let blocks = c.args.blocks.now in
    let plan = c.args.pool.now.plan.now in
    stored_more c.args.pool.now c.loop-block.pool c.store_outputs.new.self c.args.work.now c.args.space c.loop-block.block-index blocks c.requires.rising c.loop-block-test.true
    (places_of plan c.args.space blocks c.requires.space c.requires.blocks) c.loop-block.invariant c.store_outputs.ensures.stored
