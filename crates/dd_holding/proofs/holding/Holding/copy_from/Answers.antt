-- The own copy is Here, and has room for what the task needs of the other.
use Rattle.std.proofs.Common.{sym, ap, ◌∙◌, subst}
use Rattle.dd_holding.proofs.CarryLemmas.{IsCarry, carry_done, carry_few, carry_place, carry_takes, room_in}
use Rattle.dd_holding.proofs.HereLemmas.{pool_place}
use Rattle.dd_holding.proofs.MoreLemmas.{both_are, more_rest}
use Rattle.dd_ledger.specs.declared.ledger.Ledger.{Ledger}
use Rattle.dd_ledger.specs.Ledgers.{state_now}
use Rattle.dd_machine.specs.Tests.{versions_of}
use Rattle.dd_holding.specs.Facts.{IsTelling}
use Rattle.dd_stamps.specs.Copies.{TakesFrom}
use Rattle.dd_holding.proofs.holding.Holding.copy_from.Goals as goal

pub reserve_places-requires-clause-place : goal.reserve_places-requires-clause-place
reserve_places-requires-clause-place g c = λ _ _.
    let l = c.args.self.now.ledger in
    carry_place l c.args.entry c.args.task c.args.block c.args.source c.own_space-space.result c.args.places.now.list
    (record { well = c.requires.well; legal = c.requires.legal; event = c.requires.event; places_are = c.requires.places; own_is = c.own_space-space.ensures })

pub reserve_places-requires-clause-few : goal.reserve_places-requires-clause-few
reserve_places-requires-clause-few g c = λ _ _.
    let l = c.args.self.now.ledger in
    carry_few l c.args.entry c.args.task c.args.block c.args.source c.own_space-space.result c.args.places.now.list
    (record { well = c.requires.well; legal = c.requires.legal; event = c.requires.event; places_are = c.requires.places; own_is = c.own_space-space.ensures })

pub take_places-requires-clause-place : goal.take_places-requires-clause-place
take_places-requires-clause-place g c = λ _ _.
    let l = c.args.self.now.ledger in
    let mid = c.reserve_places.new.self in
    let carry : IsCarry l c.args.entry c.args.task c.args.block c.args.source c.own_space-space.result c.args.places.now.list =
    record { well = c.requires.well; legal = c.requires.legal; event = c.requires.event; places_are = c.requires.places; own_is = c.own_space-space.ensures } in
    let now = subst (λ (k : Ledger). IsCarry k c.args.entry c.args.task c.args.block c.args.source c.own_space-space.result c.args.places.now.list) (sym c.reserve_places.ensures.ledger) carry in
    pool_place mid.ledger mid.pool c.own_space-space.result c.args.block mid.facts (carry_place mid.ledger c.args.entry c.args.task c.args.block c.args.source c.own_space-space.result c.args.places.now.list now)

pub take_places-requires-clause-there : goal.take_places-requires-clause-there
take_places-requires-clause-there g c = λ _ _.
    let l = c.args.self.now.ledger in
    let mid = c.reserve_places.new.self in
    let same = c.reserve_places.ensures.ledger in
    let carry : IsCarry l c.args.entry c.args.task c.args.block c.args.source c.own_space-space.result c.args.places.now.list =
    record { well = c.requires.well; legal = c.requires.legal; event = c.requires.event; places_are = c.requires.places; own_is = c.own_space-space.ensures } in
    let now = subst (λ (k : Ledger). IsCarry k c.args.entry c.args.task c.args.block c.args.source c.own_space-space.result c.args.places.now.list) (sym same) carry in
    carry_takes mid.ledger mid.pool c.args.entry c.args.task c.args.block c.args.source c.own_space-space.result c.args.places.now.list c.args.lent.now now mid.facts
    (room_in l mid.ledger c.own_space-space.result c.args.block _ _ same c.in_ok-reserve_places.ensures.ok) (c.requires.ours.0 ∙ sym (ap (λ (k : Ledger). k.plan) same)) c.requires.ours.1

pub invariant_of-self-2 : goal.invariant_of-self-2
invariant_of-self-2 g c =
    let l = c.args.self.now.ledger in
    let mid = c.reserve_places.new.self in
    let same = c.reserve_places.ensures.ledger in
    let carry : IsCarry l c.args.entry c.args.task c.args.block c.args.source c.own_space-space.result c.args.places.now.list =
    record { well = c.requires.well; legal = c.requires.legal; event = c.requires.event; places_are = c.requires.places; own_is = c.own_space-space.ensures } in
    let now = subst (λ (k : Ledger). IsCarry k c.args.entry c.args.task c.args.block c.args.source c.own_space-space.result c.args.places.now.list) (sym same) carry in
    let taken = both_are _ _ _ c.take_places.ensures.taken in
    let done = carry_done mid.ledger c.enter.new.self mid.pool c.take_places.new.self c.args.entry c.args.task c.args.block c.args.source c.own_space-space.result c.args.places.now.list
    taken.0 c.args.lent.now taken.1 now mid.facts mid.spare c.in_ok-enter.ensures.ok
    (room_in l mid.ledger c.own_space-space.result c.args.block _ _ same c.in_ok-reserve_places.ensures.ok) taken.2
    (c.requires.versions ∙ sym (ap (λ (k : Ledger). versions_of ((state_now k).copies c.args.source c.args.block)) same))
    (λ tells. c.requires.told (subst (IsTelling _) same tells)) taken.4.0 taken.4.1 in
    record { facts = done.0; spare = done.1 }

pub returns-clause-slots : goal.returns-clause-slots
returns-clause-slots g c = λ s b is.
    (more_rest (λ x y. TakesFrom x c.args.lent.now y c.args.places.now.list) c.reserve_places.new.self.pool c.take_places.new.self c.own_space-space.result c.args.block _ _ c.take_places.ensures.taken).outs s b
    ∙ c.in_ok-reserve_places.ensures.slots s b is
