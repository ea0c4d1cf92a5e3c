-- Each block has room from its turn on.
use Rattle.std.proofs.Common.{◌≡◌, ◌≤◌, [], All, get_or, sym, ◌∙◌, subst}
use Rattle.std.specs.Prelude.{IsSomeAnd}
use Rattle.std.proofs.lemmas.List.{take_all}
use Rattle.std.proofs.lemmas.List.Elements.{All-contains, All-get_or}
use Rattle.dd_holding.proofs.ClaimLemmas.{kept_room, room_more}
use Rattle.dd_holding.proofs.FactsLemmas.{no_growth}
use Rattle.dd_holding.specs.Users.{most_wanted}
use Rattle.dd_ledger.specs.declared.ledger.Ledger.{Ledger}
use Rattle.dd_ledger.specs.Ledgers.{GrowsBy, state_now}
use Rattle.dd_machine.specs.Tests.{Has, is_here}
use Rattle.dd_pool.specs.Places.{IsPlace}
use Rattle.dd_pool.specs.Pools.{copy_at}
use Rattle.dd_stamps.specs.declared.stamped.Stamped.{Stamped}
use Rattle.dd_holding.proofs.holding.Holding.reserve_all.Goals as goal

pub reserve_most-requires-clause-place : goal.reserve_most-requires-clause-place
reserve_most-requires-clause-place g c = λ _ _.
    let blocks = c.args.blocks.now in
    subst (λ (l : Ledger). IsPlace l.plan.now c.args.space (get_or blocks c.loop-block.block-index 0)) (sym c.loop-block.invariant.ledger)
    (All-get_or (λ b. IsPlace c.args.self.now.ledger.plan.now c.args.space b) blocks c.loop-block.block-index 0 c.loop-block-test.true c.requires.places)

pub reserve_most-requires-clause-here : goal.reserve_most-requires-clause-here
reserve_most-requires-clause-here g c = λ _ _.
    let blocks = c.args.blocks.now in
    subst (λ (l : Ledger). Has (state_now l) c.args.space (get_or blocks c.loop-block.block-index 0) is_here) (sym c.loop-block.invariant.ledger)
    (All-get_or (λ b. Has (state_now c.args.self.now.ledger) c.args.space b is_here) blocks c.loop-block.block-index 0 c.loop-block-test.true c.requires.here)

pub loop-block-preserved : goal.loop-block-preserved
loop-block-preserved g c =
    let x = c.args.self.now in
    let mid = c.loop-block.self in
    let new = c.reserve_most.new.self in
    let blocks = c.args.blocks.now in
    let i = c.loop-block.block-index in
    let one = c.in_ok-reserve_most.ensures in
    let ledger : new.ledger ≡ x.ledger = one.ledger ∙ c.loop-block.invariant.ledger in
    record {
      kept = record {
        grows = subst (λ (l : Ledger). GrowsBy x.ledger l []) (sym ledger) (no_growth x.ledger);
        names = one.kept.names ∙ c.loop-block.invariant.kept.names;
      };
      ledger = ledger;
      slots = λ s b at. one.slots s b (subst (λ (l : Ledger). IsPlace l.plan.now s b) (sym c.loop-block.invariant.ledger) at) ∙ c.loop-block.invariant.slots s b at;
      room = room_more (λ b. IsSomeAnd (copy_at mid.pool c.args.space b) (λ (c' : Stamped). most_wanted x.ledger.plan.now b ≤ c'.versions.spare))
          (λ b. IsSomeAnd (copy_at new.pool c.args.space b) (λ (c' : Stamped). most_wanted x.ledger.plan.now b ≤ c'.versions.spare)) blocks i c.loop-block-test.true
          (λ b has room. kept_room (copy_at mid.pool c.args.space b) (copy_at new.pool c.args.space b) (most_wanted x.ledger.plan.now b)
          (λ copy there. one.more c.args.space b copy (subst (λ (l : Ledger). IsPlace l.plan.now c.args.space b) (sym c.loop-block.invariant.ledger) (All-contains (λ k. IsPlace x.ledger.plan.now c.args.space k) blocks b c.requires.places has)) there) room)
          c.loop-block.invariant.room
          (subst (λ (l : Ledger). IsSomeAnd (copy_at new.pool c.args.space (get_or blocks i 0)) (λ (c' : Stamped). most_wanted l.plan.now (get_or blocks i 0) ≤ c'.versions.spare)) c.loop-block.invariant.ledger one.ok);
    }

pub returns-clause-ok : goal.returns-clause-ok
returns-clause-ok g c =
    let x = c.args.self.now in
    let blocks = c.args.blocks.now in
    subst (All (λ b. IsSomeAnd (copy_at c.loop-block.self.pool c.args.space b) (λ (c' : Stamped). most_wanted x.ledger.plan.now b ≤ c'.versions.spare))) (take_all c.loop-block.block-index blocks c.loop-block-test.false)
    c.loop-block.invariant.room
