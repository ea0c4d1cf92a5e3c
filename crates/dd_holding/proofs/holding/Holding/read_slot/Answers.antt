-- The slot was taken out, read and put back.
use Rattle.std.proofs.Common.{None, sym, ap, ◌∙◌}
use Rattle.dd_holding.proofs.ChangedLemmas.{same_holding}
use Rattle.dd_holding.proofs.FactsLemmas.{either, no_growth}
use Rattle.dd_holding.proofs.LentLemmas.{read_told, returned_stands, slot_alone, slot_returned, slot_versions_are}
use Rattle.dd_holding.proofs.SlotsLemmas.{same_copies, slot_taken}
use Rattle.dd_holding.proofs.SpareLemmas.{spare_kept}
use Rattle.dd_ledger.specs.Ledgers.{state_now}
use Rattle.dd_pool.specs.declared.copies.Copies.{Copies}
use Rattle.dd_pool.specs.Copies.{held_at}
use Rattle.dd_holding.proofs.holding.Holding.read_slot.Goals as goal

pub put_out-requires-clause-no_copy : goal.put_out-requires-clause-no_copy
put_out-requires-clause-no_copy g c = λ _ _.
    let x = c.args.self.now in
    same_copies x.pool c.take_out.new.self c.args.space c.args.block None c.take_out.ensures.left c.args.space c.args.block
    ∙ slot_alone x.ledger x.pool c.args.space c.args.block c.in-Some.out x.facts c.requires.place (sym c.in-Some.ensures.value)

pub invariant_of-self : goal.invariant_of-self
invariant_of-self g c =
    let x = c.args.self.now in
    let left = c.take_out.ensures.left in
    record {
      facts = slot_taken x.ledger x.pool c.take_out.new.self c.args.space c.args.block left x.facts;
      spare = spare_kept x.ledger.plan.now (state_now x.ledger) x.pool c.take_out.new.self (λ s b _. same_copies x.pool c.take_out.new.self c.args.space c.args.block None left s b) x.spare;
    }

pub invariant_of-self-2 : goal.invariant_of-self-2
invariant_of-self-2 g c =
    let x = c.args.self.now in
    let l = x.ledger in
    let mid = c.take_out.new.self in
    let now = c.put_out.new.self in
    let left = c.take_out.ensures.left in
    let rest = c.put_out.ensures.rest in
    record {
      facts = either c.put_out.result c.put_out.ensures.ok c.put_out.ensures.err
          (λ has. slot_returned l x.pool mid now c.args.space c.args.block c.in-Some.out c.recall.new.self c.requires.place (sym c.in-Some.ensures.value) left has c.in-Ok.ensures.same x.facts)
          (λ same. same_holding l l mid now (no_growth l) rest.plan (λ s b _. ap (λ (k : Copies). held_at k s b) rest.copies) (λ s b _. same s b) (slot_taken l x.pool mid c.args.space c.args.block left x.facts));
      spare = spare_kept l.plan.now (state_now l) x.pool now (λ s b _. ap (λ (k : Copies). held_at k s b) (rest.copies ∙ left.rest.copies)) x.spare;
    }

pub returns-in-Ok-put_out-clause-slots : goal.returns-in-Ok-put_out-clause-slots
returns-in-Ok-put_out-clause-slots g c =
    let x = c.args.self.now in
    returned_stands x.ledger x.pool c.take_out.new.self c.put_out.new.self c.args.space c.args.block c.in-Some.out c.recall.new.self (sym c.in-Some.ensures.value) c.take_out.ensures.left c.in-Ok-put_out.ensures.ok x.facts

pub returns-in-Ok-put_out-clause-versions : goal.returns-in-Ok-put_out-clause-versions
returns-in-Ok-put_out-clause-versions g c =
    let x = c.args.self.now in
    c.in-Ok.ensures.versions ∙ slot_versions_are x.ledger x.pool c.args.space c.args.block c.in-Some.out x.facts c.requires.place (sym c.in-Some.ensures.value)

pub returns-in-Ok-put_out-clause-told : goal.returns-in-Ok-put_out-clause-told
returns-in-Ok-put_out-clause-told g c = λ tells.
    let x = c.args.self.now in
    c.in-Ok.ensures.told ∙ read_told x.ledger x.pool c.args.space c.args.block c.in-Some.out x.facts c.requires.place (sym c.in-Some.ensures.value) tells
