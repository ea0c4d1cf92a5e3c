-- A slot is made for the Pick, and the Gone follows it or the cause is kept.
use Rattle.std.proofs.Common.{◌≤◌, ℕ, [], ◌∷◌, Option, Err, refl, sym, ap, ◌∙◌, subst, inr, arith}
use Rattle.dd_holding.specs.Holdings.{Holds}
use Rattle.dd_machine.specs.declared.event.Event.TheVariants.{Gone, Pick}
use Rattle.dd_store.specs.declared.fault.StoreFault.{StoreFault}
use Rattle.dd_table.specs.declared.fault.RunFault.{RunFault}
use Rattle.dd_table.specs.Causes.{fault_of}
use Rattle.dd_table.specs.Counts.{pick_count}
use Rattle.dd_table.specs.Facts.{IsSettled}
use Rattle.dd_core.specs.Lines.{with_line}
use Rattle.dd_table.proofs.FactsLemmas.{count_after, holds_then, keeps_same, rose_before, settled_kept, settled_stopped, stand}
use Rattle.dd_table.proofs.GivesLemmas.{disk_of, kept_disk, not_disk, not_none, stopped}
use Rattle.dd_table.proofs.SpillLemmas.{count_picked, few_made, one_picked, one_spilled, rose_as, stopped_later}
use Rattle.dd_table.proofs.table.Table.spill.Goals as goal

pub invariant_of-self : goal.invariant_of-self
invariant_of-self g c =
    let t = c.args.self.now in
    let f = keeps_same t c.reserve.new.self c.reserve.ensures.kept (stand t.holding c.reserve.new.self c.reserve.ensures.slots) in
    record { settled = f.settled; counted = f.counted }

pub returns-then-is_err : goal.returns-then-is_err
returns-then-is_err g c =
    let t = c.args.self.now in
    stopped t (Pick c.args.space c.args.block ∷ Gone c.args.space c.args.block ∷ []) c.stop.result c.reserve.ensures.kept refl refl c.stop.ensures.grows c.stop.ensures.cause
    (not_disk c.stop.result c.stop.ensures.fault) c.requires.running

pub make-requires : goal.make-requires
make-requires g c = few_made c.args.self.now

pub invariant_of-self-in-Err-1 : goal.invariant_of-self-in-Err-1
unfolding pick_count
invariant_of-self-in-Err-1 g c =
    let t = c.args.self.now in
    let y = c.reserve.new.self in
    record {
      settled = settled_kept t.holding y t.cause c.reserve.ensures.kept (stand t.holding y c.reserve.ensures.slots) t.settled;
      counted = count_after t y c.make.new.self t.cause [] [] c.reserve.ensures.kept refl c.in-Err.ensures.none c.make.ensures.later (λ disk. not_none t.cause _ c.requires.running disk);
    }

pub returns-in-Err : goal.returns-in-Err
returns-in-Err g c =
    let t = c.args.self.now in
    stopped_later t (Pick c.args.space c.args.block ∷ Gone c.args.space c.args.block ∷ []) c.stop-in-Err.result c.reserve.ensures.kept refl c.make.ensures.later c.stop-in-Err.ensures.grows
    c.stop-in-Err.ensures.cause
    (λ is. inr (rose_as (g.D.Store.faults t.store) (g.D.Store.faults c.make.new.self) _ (c.in-Err.ensures.cause (ap (λ (f : StoreFault). Err f) (disk_of c.in-Err.fault (sym c.stop-in-Err.ensures.fault ∙ is))))
    (ap g.D.Store.faults (sym c.stop-in-Err.ensures.store))))
    c.requires.running

pub leave-requires-clause-settled : goal.leave-requires-clause-settled
leave-requires-clause-settled g c κs within =
    let t = c.args.self.now in
    let y = c.reserve.new.self in
    subst (λ (cause : Option RunFault). IsSettled y cause) c.requires.running (settled_kept t.holding y t.cause c.reserve.ensures.kept (stand t.holding y c.reserve.ensures.slots) t.settled)

pub invariant_of-self-in-Ok-leave : goal.invariant_of-self-in-Ok-leave
invariant_of-self-in-Ok-leave g c =
    let t = c.args.self.now in
    let y = c.leave.new.holding in
    let line = c.line-line.result in
    let made = c.leave.ensures.made ∙ c.in-Ok.ensures.made in
    let le : g.D.Store.faults t.store ≤ g.D.Store.faults c.leave.new.store = (let first = c.make.ensures.later in let then = c.leave.ensures.later in omega (arith, first, then)) in
    record {
      settled = subst (λ (cause : Option RunFault). IsSettled y cause) (sym c.requires.running) c.in-Ok-leave.ensures.settled;
      counted = count_picked t y c.leave.new.store t.cause (with_line line (Pick c.args.space c.args.block ∷ Gone c.args.space c.args.block ∷ []))
          (holds_then t.holding c.reserve.new.self y [] (with_line line (Pick c.args.space c.args.block ∷ Gone c.args.space c.args.block ∷ [])) c.reserve.ensures.kept c.in-Ok-leave.ensures.ok)
          (one_spilled line c.args.space c.args.block) made le (λ disk. not_none t.cause _ c.requires.running disk);
    }

pub invariant_of-self-in-Err-leave : goal.invariant_of-self-in-Err-leave
invariant_of-self-in-Err-leave g c =
    let t = c.args.self.now in
    let y = c.leave.new.holding in
    let line = c.line-line.result in
    let fault = c.in-Err-leave.fault in
    let made = c.leave.ensures.made ∙ c.in-Ok.ensures.made in
    let le : g.D.Store.faults t.store ≤ g.D.Store.faults c.leave.new.store = (let first = c.make.ensures.later in let then = c.leave.ensures.later in omega (arith, first, then)) in
    record {
      settled = subst (λ (cause : Option RunFault). IsSettled y cause) (sym c.keep.ensures.cause) (settled_stopped y c.keep.result);
      counted = count_picked t y c.leave.new.store c.keep.new.cause (with_line line (Pick c.args.space c.args.block ∷ []))
          (holds_then t.holding c.reserve.new.self y [] (with_line line (Pick c.args.space c.args.block ∷ [])) c.reserve.ensures.kept c.in-Err-leave.ensures.err)
          (one_picked line c.args.space c.args.block) made le
          (λ disk. rose_before (g.D.Store.faults t.opening.value) (g.D.Store.faults t.store) (g.D.Store.faults c.leave.new.store) t.counted.later
          (rose_before (g.D.Store.faults t.store) (g.D.Store.faults c.make.new.self) (g.D.Store.faults c.leave.new.store) c.make.ensures.later
          (c.in-Err-leave.ensures.cause (ap (λ (f : StoreFault). Err f) (disk_of fault (kept_disk c.keep.new.cause c.keep.result (fault_of fault) c.keep.ensures.cause c.keep.ensures.fault disk))))));
    }

pub returns-in-Err-leave : goal.returns-in-Err-leave
returns-in-Err-leave g c =
    let t = c.args.self.now in
    let y = c.leave.new.holding in
    let line = c.line-line.result in
    let fault = c.in-Err-leave.fault in
    let le : g.D.Store.faults t.store ≤ g.D.Store.faults c.leave.new.store = (let first = c.make.ensures.later in let then = c.leave.ensures.later in omega (arith, first, then)) in
    record {
      done = Pick c.args.space c.args.block ∷ [];
      rest = Gone c.args.space c.args.block ∷ [];
      all = refl;
      grows = record {
        holds = subst (λ (n : ℕ). Holds t.holding y (with_line n (Pick c.args.space c.args.block ∷ []))) c.line-line.ensures.line
            (holds_then t.holding c.reserve.new.self y [] (with_line line (Pick c.args.space c.args.block ∷ [])) c.reserve.ensures.kept c.in-Err-leave.ensures.err);
        opening = refl;
        faults = le;
      };
      cause = c.keep.ensures.cause;
      disk = λ is. inr (rose_before (g.D.Store.faults t.store) (g.D.Store.faults c.make.new.self) (g.D.Store.faults c.leave.new.store) c.make.ensures.later
          (c.in-Err-leave.ensures.cause (ap (λ (f : StoreFault). Err f) (disk_of fault (sym c.keep.ensures.fault ∙ is)))));
      kept = λ f some. not_none t.cause f c.requires.running some;
    }
