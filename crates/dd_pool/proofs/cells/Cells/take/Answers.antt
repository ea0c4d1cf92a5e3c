use Rattle.std.proofs.Common.{ap, ◌∙◌, sym, None, get_or-set_same}
use Rattle.std.proofs.lemmas.List.{get_or_default}
use Rattle.dd_pool.specs.Keys.{found}
use Rattle.dd_pool.specs.declared.cells.Entry.{Entry}
use Rattle.dd_pool.proofs.CellsLemmas.{take_back, take_others}
use Rattle.dd_pool.proofs.cells.Cells.take.Goals as goal

pub invariant_of-self : goal.invariant_of-self
invariant_of-self g c = record {
  back = take_back (λ (e : Entry _). e.at) c.args.self.now.keys.items c.args.self.now.entries.slots c.try_remove.new.self.slots c.args.at c.in_ok-key.key c.requires.place c.args.self.now.back
      (get_or_default c.args.self.now.keys.items c.args.at None c.index.result.now c.requires.place ∙ sym c.index.ensures ∙ c.in_ok-key.was) c.try_remove.ensures.updates.others;
}

pub returns-in-Some-clause-left : goal.returns-in-Some-clause-left
returns-in-Some-clause-left g c = record {
  here = ap (found (λ (e : Entry _). e.item) c.try_remove.new.self.slots) (get_or-set_same c.args.self.now.keys.items c.args.at None None c.requires.place);
  others = λ i ne. take_others (λ (e : Entry _). e.at) c.args.self.now.keys.items c.args.self.now.entries.slots c.try_remove.new.self.slots (λ (e : Entry _). e.item) c.args.at c.in_ok-key.key i c.args.self.now.back
      (get_or_default c.args.self.now.keys.items c.args.at None c.index.result.now c.requires.place ∙ sym c.index.ensures ∙ c.in_ok-key.was) c.try_remove.ensures.updates.others ne;
}
