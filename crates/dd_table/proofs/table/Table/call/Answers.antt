-- Neither of the two entries is a Pick.
use Rattle.std.proofs.Common.{◌∷◌, [], Option, Err, refl, sym, ap, subst}
use Rattle.dd_machine.specs.declared.event.Event.TheVariants.{Call, Come}
use Rattle.dd_store.specs.declared.fault.StoreFault.{StoreFault}
use Rattle.dd_table.specs.declared.fault.RunFault.{RunFault}
use Rattle.dd_table.specs.Causes.{fault_of}
use Rattle.dd_table.specs.Counts.{pick_count}
use Rattle.dd_table.specs.Facts.{IsSettled}
use Rattle.dd_core.specs.Lines.{with_line}
use Rattle.dd_table.proofs.FactsLemmas.{count_after, rose_before, settled_stopped}
use Rattle.dd_table.proofs.GivesLemmas.{disk_of, kept_disk, not_none, partly_none}
use Rattle.dd_table.proofs.table.Table.call.Goals as goal

pub invariant_of-self : goal.invariant_of-self
unfolding pick_count
invariant_of-self g c =
    let t = c.args.self.now in
    record {
      settled = subst (λ (cause : Option RunFault). IsSettled c.come_back.new.holding cause) (sym c.requires.running) c.in-Ok.ensures.settled;
      counted = count_after t c.come_back.new.holding c.come_back.new.store t.cause (with_line c.line-line.result (Call c.args.space c.args.block ∷ Come c.args.space c.args.block ∷ [])) [] c.in-Ok.ensures.ok refl
          c.come_back.ensures.made c.come_back.ensures.later (λ disk. not_none t.cause _ c.requires.running disk);
    }

pub invariant_of-self-in-Err : goal.invariant_of-self-in-Err
unfolding pick_count
invariant_of-self-in-Err g c =
    let t = c.args.self.now in
    let y = c.come_back.new.holding in
    let line = c.line-line.result in
    let partly = c.in-Err.ensures.err in
    record {
      settled = subst (λ (cause : Option RunFault). IsSettled y cause) (sym c.keep.ensures.cause) (settled_stopped y c.keep.result);
      counted = count_after t y c.come_back.new.store c.keep.new.cause (with_line line partly.done) (with_line line partly.rest) partly.holds
          (partly_none t.holding y line (Call c.args.space c.args.block ∷ Come c.args.space c.args.block ∷ []) partly refl) c.come_back.ensures.made c.come_back.ensures.later
          (λ disk. rose_before (g.D.Store.faults t.opening.value) (g.D.Store.faults t.store) (g.D.Store.faults c.come_back.new.store) t.counted.later
          (c.in-Err.ensures.cause (ap (λ (f : StoreFault). Err f) (disk_of c.in-Err.fault (kept_disk c.keep.new.cause c.keep.result (fault_of c.in-Err.fault) c.keep.ensures.cause c.keep.ensures.fault disk)))));
    }
