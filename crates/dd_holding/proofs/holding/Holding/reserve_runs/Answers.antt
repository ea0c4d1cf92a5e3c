-- The copy is there, and has more spare.
use Rattle.std.proofs.Common.{Bor, Option, refl, sym, ap, subst}
use Rattle.std.specs.Prelude.{IsSome}
use Rattle.dd_blocks.specs.declared.plan.Plan.{Plan}
use Rattle.dd_holding.proofs.HereLemmas.{in_memory}
use Rattle.dd_holding.proofs.MoreLemmas.{both_are, more_kept, more_rest, more_spare, none_less}
use Rattle.dd_pool.specs.Copies.{HasMoreSpare}
use Rattle.dd_stamps.specs.declared.stamped.Stamped.{Stamped}
use Rattle.dd_holding.proofs.holding.Holding.reserve_runs.Goals as goal

pub reserve-requires-clause-there : goal.reserve-requires-clause-there
reserve-requires-clause-there g c = λ _ _.
    let x = c.args.self.now in
    let there = in_memory x.ledger x.pool c.args.space c.args.block x.facts c.requires.place c.requires.here in
    subst (λ (o : Option Stamped). IsSome o) (sym there.1) refl

pub invariant_of-self : goal.invariant_of-self
invariant_of-self g c =
    let x = c.args.self.now in
    let both = both_are _ _ _ c.reserve.ensures.kept in
    let planned = ap (λ (p : Bor Plan). p.now) x.facts.planned in
    record {
      facts = more_spare x.ledger x.pool c.reserve.new.self c.args.space c.args.block both.0 both.1 c.requires.place both.2 both.4.0 both.4.1 x.facts;
      spare = more_kept x.ledger x.pool c.reserve.new.self c.args.space c.args.block both.0 both.1 c.requires.place both.2 both.4.0 both.4.1 planned x.spare;
    }

pub returns-clause-slots : goal.returns-clause-slots
returns-clause-slots g c = λ s b _. (more_rest HasMoreSpare c.args.self.now.pool c.reserve.new.self c.args.space c.args.block _ _ c.reserve.ensures.kept).outs s b

pub returns-clause-more : goal.returns-clause-more
returns-clause-more g c = λ s b copy place there.
    let x = c.args.self.now in
    let both = both_are _ _ _ c.reserve.ensures.kept in
    none_less x.ledger.plan.now x.pool c.reserve.new.self c.args.space c.args.block both.0 both.1 (ap (λ (p : Bor Plan). p.now) x.facts.planned) both.2 both.4.0 both.4.1 s b copy place there
