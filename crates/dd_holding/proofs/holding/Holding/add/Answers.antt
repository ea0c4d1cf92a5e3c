-- The copy was put, and stays where the entry was made.
use Rattle.std.proofs.Common.{ℕ, Bor, Some, None, ap, subst, ◌∙◌}
use Rattle.dd_blocks.specs.declared.plan.Plan.{Plan}
use Rattle.dd_holding.proofs.AddsLemmas.{none_wanted}
use Rattle.dd_holding.proofs.ChangedLemmas.{added, others_of, put_and_taken, same_holding}
use Rattle.dd_holding.proofs.FactsLemmas.{no_growth}
use Rattle.dd_holding.proofs.HereLemmas.{out_of_memory}
use Rattle.dd_holding.proofs.SpareLemmas.{spare_kept, spare_put, steady, still_spare}
use Rattle.dd_ledger.specs.Ledgers.{state_now}
use Rattle.dd_pool.specs.Pools.{HasCopy}
use Rattle.dd_holding.proofs.holding.Holding.add.Goals as goal

pub put-requires-clause-none : goal.put-requires-clause-none
put-requires-clause-none g c = λ _ _.
    let x = c.args.self.now in
    out_of_memory x.ledger x.pool c.args.space c.args.copy.block x.facts c.requires.place c.requires.not_here

pub invariant_of-self : goal.invariant_of-self
invariant_of-self g c =
    let x = c.args.self.now in
    let same = c.in_default.ensures.err in
    let rest = c.in_default.ensures.rest in
    record {
      facts = same_holding x.ledger x.ledger x.pool c.put.new.self (no_growth x.ledger) rest.plan (λ s b _. same.same s b) (λ s b _. rest.outs s b) x.facts;
      spare = spare_kept x.ledger.plan.now (state_now x.ledger) x.pool c.put.new.self (λ s b _. same.same s b) x.spare;
    }

pub invariant_of-self-in_default-enter : goal.invariant_of-self-in_default-enter
invariant_of-self-in_default-enter g c =
    let x = c.args.self.now in
    let l = x.ledger in
    let copy = c.args.copy in
    let has = c.in-Ok.ensures.ok in
    let grows = c.in_default-enter.ensures.ok in
    let planned = ap (λ (p : Bor Plan). p.now) x.facts.planned in
    record {
      facts = added l c.enter.new.self x.pool c.put.new.self c.args.entry c.args.space copy grows c.requires.adds has c.requires.no_slot c.requires.told x.facts;
      spare = steady l c.enter.new.self c.put.new.self c.args.entry grows c.requires.legal.1 c.requires.steady
          (spare_put l.plan.now (state_now l) x.pool c.put.new.self c.args.space copy.block copy (others_of l.plan.now x.pool c.put.new.self c.args.space copy.block (Some copy) planned has) has.copies.here
          (none_wanted l c.args.space copy.block copy.versions.spare c.requires.well c.requires.not_here) x.spare);
    }

pub invariant_of-self-2 : goal.invariant_of-self-2
invariant_of-self-2 g c =
    let x = c.args.self.now in
    let l = x.ledger in
    let copy = c.args.copy in
    let has = c.in-Ok.ensures.ok in
    let grows = c.in-Err.ensures.err in
    let planned = ap (λ (p : Bor Plan). p.now) x.facts.planned in
    let left : HasCopy c.put.new.self c.take.new.self c.args.space copy.block None = subst (λ (b : ℕ). HasCopy c.put.new.self c.take.new.self c.args.space b None) c.block-block.ensures c.take.ensures.left in
    let none = out_of_memory l x.pool c.args.space copy.block x.facts c.requires.place c.requires.not_here in
    let same = put_and_taken l.plan.now x.pool c.put.new.self c.take.new.self c.args.space copy.block copy planned has left none in
    record {
      facts = same_holding l c.enter.new.self x.pool c.take.new.self grows (left.rest.plan ∙ has.rest.plan) same (λ s b _. left.rest.outs s b ∙ has.rest.outs s b) x.facts;
      spare = still_spare l c.enter.new.self c.take.new.self grows (spare_kept l.plan.now (state_now l) x.pool c.take.new.self same x.spare);
    }

pub returns-in_default-clause-slots : goal.returns-in_default-clause-slots
returns-in_default-clause-slots g c = λ s b _. c.in_default.ensures.rest.outs s b

pub returns-in_default-enter-clause-slots : goal.returns-in_default-enter-clause-slots
returns-in_default-enter-clause-slots g c = λ s b _. c.in-Ok.ensures.rest.outs s b

pub returns-clause-slots : goal.returns-clause-slots
returns-clause-slots g c = λ s b _. c.take.ensures.left.rest.outs s b ∙ c.in-Ok.ensures.rest.outs s b
