use Rattle.std.proofs.Common.{ap, ◌∙◌, Some, None, refl, get_or-set_same}
use Rattle.dd_pool.specs.Keys.{found}
use Rattle.dd_pool.specs.declared.cells.Entry.{Entry}
use Rattle.dd_pool.proofs.CellsLemmas.{put_back, put_others}
use Rattle.dd_pool.proofs.cells.Cells.put.Goals as goal

pub invariant_of-self : goal.invariant_of-self
invariant_of-self g c = record {
  back = put_back (λ (e : Entry _). e.at) c.args.self.now.keys.items c.args.self.now.entries.slots c.insert.new.self.slots c.args.at c.in-Ok.key _ c.requires.place c.args.self.now.back
      c.in-Ok.ensures.was_vacant c.in-Ok.ensures.updates.changed c.in-Ok.ensures.updates.others refl;
}

pub returns-in-Ok-clause-ok : goal.returns-in-Ok-clause-ok
returns-in-Ok-clause-ok g c = record {
  here = ap (found (λ (e : Entry _). e.item) c.insert.new.self.slots) (get_or-set_same c.args.self.now.keys.items c.args.at (Some c.in-Ok.key) None c.requires.place)
      ∙ ap (Rattle.std.specs.Option.option_map (λ (e : Entry _). e.item)) c.in-Ok.ensures.updates.changed;
  others = λ i ne. put_others (λ (e : Entry _). e.at) c.args.self.now.keys.items c.args.self.now.entries.slots c.insert.new.self.slots (λ (e : Entry _). e.item) c.args.at c.in-Ok.key i c.args.self.now.back
      c.in-Ok.ensures.was_vacant c.in-Ok.ensures.updates.others ne;
}
