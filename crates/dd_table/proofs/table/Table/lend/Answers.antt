-- Neither of the two entries is a Pick.
use Rattle.std.proofs.Common.{[], ◌∷◌, length, Option, Err, refl, sym, ap, subst}
use Rattle.dd_holding.specs.Carried.{carries}
use Rattle.dd_machine.specs.declared.event.Event.TheVariants.{Lend}
use Rattle.dd_store.specs.declared.fault.StoreFault.{StoreFault}
use Rattle.dd_table.specs.declared.fault.RunFault.{RunFault}
use Rattle.dd_table.specs.Causes.{fault_of}
use Rattle.dd_table.specs.Counts.{pick_count}
use Rattle.dd_table.specs.Facts.{IsSettled}
use Rattle.dd_core.specs.Lines.{with_line}
use Rattle.dd_table.proofs.FactsLemmas.{core_of, count_after, holds_same, rose_before, settled_stopped}
use Rattle.dd_table.proofs.GivesLemmas.{disk_of, kept_disk, not_disk, not_none, partly_none, stopped}
use Rattle.dd_table.proofs.SpillLemmas.{none_lent}
use Rattle.dd_table.proofs.table.Table.lend.Goals as goal

pub needed-requires-clause-core : goal.needed-requires-clause-core
needed-requires-clause-core g c = core_of c.args.self.now.holding.ledger c.plan.result c.core.result.now c.requires.well c.plan.ensures c.core.ensures

pub returns-in_default : goal.returns-in_default
returns-in_default g c =
    let t = c.args.self.now in
    stopped t _ c.stop.result (holds_same t.holding) refl refl c.stop.ensures.grows c.stop.ensures.cause (not_disk c.stop.result c.stop.ensures.fault) c.requires.running

pub invariant_of-self : goal.invariant_of-self
unfolding pick_count
invariant_of-self g c =
    let t = c.args.self.now in
    let line = c.line-line.result in
    let count = length c.in-Ok.places.list in
    record {
      settled = subst (λ (cause : Option RunFault). IsSettled c.carry_lent.new.holding cause) (sym c.requires.running) c.in-Ok-carry_lent.ensures.settled;
      counted = count_after t c.carry_lent.new.holding c.carry_lent.new.store t.cause
          (with_line line (Lend c.args.task c.args.block c.args.source ∷ carries c.args.task c.args.block c.args.source count ∷ [])) [] c.in-Ok-carry_lent.ensures.ok
          (none_lent line c.args.task c.args.block c.args.source count) c.carry_lent.ensures.made c.carry_lent.ensures.later (λ disk. not_none t.cause _ c.requires.running disk);
    }

pub invariant_of-self-in-Err : goal.invariant_of-self-in-Err
invariant_of-self-in-Err g c =
    let t = c.args.self.now in
    let y = c.carry_lent.new.holding in
    let line = c.line-line.result in
    let count = length c.in-Ok.places.list in
    let partly = c.in-Err.ensures.err in
    record {
      settled = subst (λ (cause : Option RunFault). IsSettled y cause) (sym c.keep.ensures.cause) (settled_stopped y c.keep.result);
      counted = count_after t y c.carry_lent.new.store c.keep.new.cause (with_line line partly.done) (with_line line partly.rest) partly.holds
          (partly_none t.holding y line (Lend c.args.task c.args.block c.args.source ∷ carries c.args.task c.args.block c.args.source count ∷ []) partly
          (none_lent line c.args.task c.args.block c.args.source count)) c.carry_lent.ensures.made c.carry_lent.ensures.later
          (λ disk. rose_before (g.D.Store.faults t.opening.value) (g.D.Store.faults t.store) (g.D.Store.faults c.carry_lent.new.store) t.counted.later
          (c.in-Err.ensures.cause (ap (λ (f : StoreFault). Err f) (disk_of c.in-Err.fault (kept_disk c.keep.new.cause c.keep.result (fault_of c.in-Err.fault) c.keep.ensures.cause c.keep.ensures.fault disk)))));
    }
