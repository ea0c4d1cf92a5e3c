-- Both copies are Here, and the own one has room for what the task needs of the other.
use Rattle.std.proofs.Common.{Option, refl, sym, ◌∙◌, subst}
use Rattle.std.specs.Prelude.{IsSome}
use Rattle.dd_holding.proofs.CarryLemmas.{IsCarry, carry_apart, carry_done, carry_few, carry_moves, carry_place, room_in}
use Rattle.dd_holding.proofs.HereLemmas.{in_memory, place_there, pool_place, versions_here}
use Rattle.dd_holding.proofs.MoreLemmas.{three_are, three_rest}
use Rattle.dd_ledger.specs.declared.ledger.Ledger.{Ledger}
use Rattle.dd_ledger.specs.Ledgers.{state_now}
use Rattle.dd_machine.specs.Tests.{Has, is_here}
use Rattle.dd_stamps.specs.Copies.{TakesFrom}
use Rattle.dd_stamps.specs.declared.stamped.Stamped.{Stamped}
use Rattle.dd_holding.proofs.holding.Holding.copy.Goals as goal

pub reserve_places-requires-clause-place : goal.reserve_places-requires-clause-place
reserve_places-requires-clause-place g c = λ _ _.
    let l = c.args.self.now.ledger in
    carry_place l c.args.entry c.args.task c.args.block c.args.source c.own_space-space.result c.args.places.now.list
    (record { well = c.requires.well; legal = c.requires.legal; event = c.requires.event; places_are = c.requires.places; own_is = c.own_space-space.ensures })

pub reserve_places-requires-clause-few : goal.reserve_places-requires-clause-few
reserve_places-requires-clause-few g c = λ _ _.
    let l = c.args.self.now.ledger in
    carry_few l c.args.entry c.args.task c.args.block c.args.source c.own_space-space.result c.args.places.now.list
    (record { well = c.requires.well; legal = c.requires.legal; event = c.requires.event; places_are = c.requires.places; own_is = c.own_space-space.ensures })

pub move_places-requires-clause-place : goal.move_places-requires-clause-place
move_places-requires-clause-place g c = λ _ _.
    let l = c.args.self.now.ledger in
    let mid = c.reserve_places.new.self in
    let carry : IsCarry l c.args.entry c.args.task c.args.block c.args.source c.own_space-space.result c.args.places.now.list =
    record { well = c.requires.well; legal = c.requires.legal; event = c.requires.event; places_are = c.requires.places; own_is = c.own_space-space.ensures } in
    let now = subst (λ (k : Ledger). IsCarry k c.args.entry c.args.task c.args.block c.args.source c.own_space-space.result c.args.places.now.list) (sym c.reserve_places.ensures.ledger) carry in
    pool_place mid.ledger mid.pool c.own_space-space.result c.args.block mid.facts (carry_place mid.ledger c.args.entry c.args.task c.args.block c.args.source c.own_space-space.result c.args.places.now.list now)

pub move_places-requires-clause-apart : goal.move_places-requires-clause-apart
move_places-requires-clause-apart g c = λ _ _.
    let l = c.args.self.now.ledger in
    carry_apart l c.args.entry c.args.task c.args.block c.args.source c.own_space-space.result c.args.places.now.list
    (record { well = c.requires.well; legal = c.requires.legal; event = c.requires.event; places_are = c.requires.places; own_is = c.own_space-space.ensures })

pub move_places-requires-clause-there : goal.move_places-requires-clause-there
move_places-requires-clause-there g c = λ _ _.
    let l = c.args.self.now.ledger in
    let mid = c.reserve_places.new.self in
    let same = c.reserve_places.ensures.ledger in
    let carry : IsCarry l c.args.entry c.args.task c.args.block c.args.source c.own_space-space.result c.args.places.now.list =
    record { well = c.requires.well; legal = c.requires.legal; event = c.requires.event; places_are = c.requires.places; own_is = c.own_space-space.ensures } in
    let now = subst (λ (k : Ledger). IsCarry k c.args.entry c.args.task c.args.block c.args.source c.own_space-space.result c.args.places.now.list) (sym same) carry in
    carry_moves mid.ledger mid.pool c.args.entry c.args.task c.args.block c.args.source c.own_space-space.result c.args.places.now.list now mid.facts
    (room_in l mid.ledger c.own_space-space.result c.args.block _ _ same c.in_ok-reserve_places.ensures.ok)

pub move_places-requires-clause-other : goal.move_places-requires-clause-other
move_places-requires-clause-other g c = λ _ _.
    let mid = c.reserve_places.new.self in
    let here = subst (λ (k : Ledger). Has (state_now k) c.args.source c.args.block is_here) (sym c.reserve_places.ensures.ledger) c.requires.here in
    let there = in_memory mid.ledger mid.pool c.args.source c.args.block mid.facts (place_there mid.ledger is_here c.args.source c.args.block here) here in
    subst (λ (o : Option Stamped). IsSome o) (sym there.1) refl

pub invariant_of-self-2 : goal.invariant_of-self-2
invariant_of-self-2 g c =
    let l = c.args.self.now.ledger in
    let mid = c.reserve_places.new.self in
    let same = c.reserve_places.ensures.ledger in
    let carry : IsCarry l c.args.entry c.args.task c.args.block c.args.source c.own_space-space.result c.args.places.now.list =
    record { well = c.requires.well; legal = c.requires.legal; event = c.requires.event; places_are = c.requires.places; own_is = c.own_space-space.ensures } in
    let now = subst (λ (k : Ledger). IsCarry k c.args.entry c.args.task c.args.block c.args.source c.own_space-space.result c.args.places.now.list) (sym same) carry in
    let here = subst (λ (k : Ledger). Has (state_now k) c.args.source c.args.block is_here) (sym same) c.requires.here in
    let place = place_there mid.ledger is_here c.args.source c.args.block here in
    let taken = three_are _ _ _ _ c.move_places.ensures.taken in
    let done = carry_done mid.ledger c.enter.new.self mid.pool c.move_places.new.self c.args.entry c.args.task c.args.block c.args.source c.own_space-space.result c.args.places.now.list
    taken.0 taken.1 taken.2 now mid.facts mid.spare c.in_ok-enter.ensures.ok
    (room_in l mid.ledger c.own_space-space.result c.args.block _ _ same c.in_ok-reserve_places.ensures.ok) taken.3
    (versions_here mid.ledger mid.pool c.args.source c.args.block taken.1 mid.facts place here taken.4)
    (λ tells. (mid.facts.told tells).copies c.args.source c.args.block taken.1 (pool_place mid.ledger mid.pool c.args.source c.args.block mid.facts place) taken.4) taken.6.0 taken.6.1 in
    record { facts = done.0; spare = done.1 }

pub returns-clause-slots : goal.returns-clause-slots
returns-clause-slots g c = λ s b is.
    (three_rest (λ x y z. TakesFrom x y z c.args.places.now.list) c.reserve_places.new.self.pool c.move_places.new.self c.own_space-space.result c.args.block _ _ _ c.move_places.ensures.taken).outs s b
    ∙ c.in_ok-reserve_places.ensures.slots s b is
