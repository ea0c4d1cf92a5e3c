-- The copy is at home, and the other space has none.
use Rattle.std.proofs.Common.{Option, refl, sym, subst}
use Rattle.std.specs.Prelude.{IsSome}
use Rattle.dd_holding.proofs.HereLemmas.{in_memory, pool_place}
use Rattle.dd_holding.proofs.ShiftLemmas.{IsShift, home_place, no_copy_there, shifted}
use Rattle.dd_stamps.specs.declared.stamped.Stamped.{Stamped}
use Rattle.dd_holding.proofs.holding.Holding.shift_here.Goals as goal

pub shift-requires-clause-place : goal.shift-requires-clause-place
shift-requires-clause-place g c = λ _ _.
    let x = c.args.self.now in
    let is : IsShift x.ledger c.args.entry c.args.block c.args.space c.args.home = record { well = c.requires.well; legal = c.requires.legal; event = c.requires.event; home_is = c.requires.home } in
    pool_place x.ledger x.pool c.args.home c.args.block x.facts (home_place x.ledger c.args.entry c.args.block c.args.space c.args.home is)

pub shift-requires-clause-there : goal.shift-requires-clause-there
shift-requires-clause-there g c = λ _ _.
    let x = c.args.self.now in
    let is : IsShift x.ledger c.args.entry c.args.block c.args.space c.args.home = record { well = c.requires.well; legal = c.requires.legal; event = c.requires.event; home_is = c.requires.home } in
    let there = in_memory x.ledger x.pool c.args.home c.args.block x.facts (home_place x.ledger c.args.entry c.args.block c.args.space c.args.home is) c.requires.here in
    subst (λ (o : Option Stamped). IsSome o) (sym there.1) refl

pub shift-requires-clause-none : goal.shift-requires-clause-none
shift-requires-clause-none g c = λ _ _.
    let x = c.args.self.now in
    no_copy_there x.ledger x.pool c.args.entry c.args.block c.args.space c.args.home (record { well = c.requires.well; legal = c.requires.legal; event = c.requires.event; home_is = c.requires.home }) x.facts

pub invariant_of-self-2 : goal.invariant_of-self-2
invariant_of-self-2 g c =
    let x = c.args.self.now in
    let is : IsShift x.ledger c.args.entry c.args.block c.args.space c.args.home = record { well = c.requires.well; legal = c.requires.legal; event = c.requires.event; home_is = c.requires.home } in
    let done = shifted x.ledger c.enter.new.self x.pool c.shift.new.self c.args.entry c.args.block c.args.space c.args.home is c.requires.here c.in_ok-enter.ensures.ok c.shift.ensures.copies c.shift.ensures.rest x.facts x.spare in
    record { facts = done.0; spare = done.1 }

pub returns-clause-slots : goal.returns-clause-slots
returns-clause-slots g c = λ s b _. c.shift.ensures.rest.outs s b
