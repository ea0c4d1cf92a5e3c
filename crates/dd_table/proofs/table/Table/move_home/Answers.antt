-- A Shift is no Pick; where it was refused no entry was made.
use Rattle.std.proofs.Common.{◌∷◌, [], Option, Err, inr, refl, sym, ap, ◌∙◌, subst}
use Rattle.dd_machine.specs.declared.event.Event.TheVariants.{Shift}
use Rattle.dd_store.specs.declared.fault.StoreFault.{StoreFault}
use Rattle.dd_table.specs.declared.fault.RunFault.{RunFault}
use Rattle.dd_table.specs.Causes.{fault_of}
use Rattle.dd_table.specs.Counts.{pick_count}
use Rattle.dd_table.specs.Facts.{IsSettled}
use Rattle.dd_core.specs.Lines.{with_line}
use Rattle.dd_table.proofs.FactsLemmas.{count_after, rose_before, settled_stopped}
use Rattle.dd_table.proofs.GivesLemmas.{disk_of, kept_disk, not_none}
use Rattle.dd_table.proofs.table.Table.move_home.Goals as goal

pub invariant_of-self : goal.invariant_of-self
unfolding pick_count
invariant_of-self g c =
    let t = c.args.self.now in
    record {
      settled = subst (λ (cause : Option RunFault). IsSettled c.carry_home.new.holding cause) (sym c.requires.running) c.in-Ok.ensures.settled;
      counted = count_after t c.carry_home.new.holding c.carry_home.new.store t.cause (with_line c.line-line.result (Shift c.args.block c.args.space ∷ [])) [] c.in-Ok.ensures.ok refl
          c.carry_home.ensures.made c.carry_home.ensures.later (λ disk. not_none t.cause _ c.requires.running disk);
    }

pub invariant_of-self-in-Err : goal.invariant_of-self-in-Err
unfolding pick_count
invariant_of-self-in-Err g c =
    let t = c.args.self.now in
    let y = c.carry_home.new.holding in
    record {
      settled = subst (λ (cause : Option RunFault). IsSettled y cause) (sym c.keep.ensures.cause) (settled_stopped y c.keep.result);
      counted = count_after t y c.carry_home.new.store c.keep.new.cause [] [] c.in-Err.ensures.err refl c.carry_home.ensures.made c.carry_home.ensures.later
          (λ disk. rose_before (g.D.Store.faults t.opening.value) (g.D.Store.faults t.store) (g.D.Store.faults c.carry_home.new.store) t.counted.later
          (c.in-Err.ensures.cause (ap (λ (f : StoreFault). Err f) (disk_of c.in-Err.fault (kept_disk c.keep.new.cause c.keep.result (fault_of c.in-Err.fault) c.keep.ensures.cause c.keep.ensures.fault disk)))));
    }

pub returns-in-Err : goal.returns-in-Err
returns-in-Err g c =
    let t = c.args.self.now in
    record {
      done = [];
      rest = Shift c.args.block c.args.space ∷ [];
      all = refl;
      grows = record { holds = c.in-Err.ensures.err; opening = refl; faults = c.carry_home.ensures.later };
      cause = c.keep.ensures.cause;
      disk = λ is. inr (c.in-Err.ensures.cause (ap (λ (f : StoreFault). Err f) (disk_of c.in-Err.fault (sym c.keep.ensures.fault ∙ is))));
      kept = λ f some. not_none t.cause f c.requires.running some;
    }
