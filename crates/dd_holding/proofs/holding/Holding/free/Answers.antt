-- The copy and its slot were taken out.
use Rattle.std.proofs.Common.{Bor, None, refl, ap, ◌∙◌}
use Rattle.dd_blocks.specs.declared.plan.Plan.{Plan}
use Rattle.dd_holding.proofs.ChangedLemmas.{none_some, others_of}
use Rattle.dd_holding.proofs.HereLemmas.{pool_place}
use Rattle.dd_holding.proofs.SlotsLemmas.{same_copies, slot_taken, taken}
use Rattle.dd_holding.proofs.SpareLemmas.{spare_kept, spare_taken, steady}
use Rattle.dd_holding.specs.Quiet.{is_steady}
use Rattle.dd_ledger.specs.Ledgers.{state_now}
use Rattle.dd_machine.specs.declared.event.Event.{Event}
use Rattle.dd_machine.specs.Effects.{after}
use Rattle.dd_holding.proofs.holding.Holding.free.Goals as goal

pub invariant_of-self : goal.invariant_of-self
invariant_of-self g c =
    let x = c.args.self.now in
    let l = x.ledger in
    let st = state_now l in
    let mid = c.take_out-out.new.self in
    let out = c.take_out-out.ensures.left in
    let has = c.take.ensures.left in
    let grows = c.finish.ensures in
    let facts = slot_taken l x.pool mid c.args.space c.args.block out x.facts in
    let planned = ap (λ (p : Bor Plan). p.now) facts.planned in
    record {
      facts = taken l c.finish.new.self mid c.take.new.self c.args.entry c.args.space c.args.block None grows (ap (λ (e : Event). (after l.plan.now st e).copies) c.requires.event) refl has
          (λ o there. none_some _ o out.here there) facts;
      spare = steady l c.finish.new.self c.take.new.self c.args.entry grows c.requires.legal.1 (ap is_steady c.requires.event)
          (spare_taken l.plan.now st mid c.take.new.self c.args.space c.args.block (others_of l.plan.now mid c.take.new.self c.args.space c.args.block None planned has) has.copies.here
          (spare_kept l.plan.now st x.pool mid (λ s b _. same_copies x.pool mid c.args.space c.args.block None out s b) x.spare));
    }

pub returns-in_err-out-clause-left : goal.returns-in_err-out-clause-left
returns-in_err-out-clause-left g c =
    let x = c.args.self.now in
    let out = c.take_out-out.ensures.left in
    let rest = c.take.ensures.left.rest in
    record {
      here = rest.outs c.args.space c.args.block ∙ out.here;
      others = λ s b is apart. rest.outs s b ∙ out.others s b (pool_place x.ledger x.pool s b x.facts is) apart;
    }

pub returns-clause-left : goal.returns-clause-left
returns-clause-left g c =
    let x = c.args.self.now in
    let out = c.take_out-out.ensures.left in
    let rest = c.take.ensures.left.rest in
    record {
      here = rest.outs c.args.space c.args.block ∙ out.here;
      others = λ s b is apart. rest.outs s b ∙ out.others s b (pool_place x.ledger x.pool s b x.facts is) apart;
    }
