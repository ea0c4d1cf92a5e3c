use Rattle.std.proofs.Common.{◌≡◌, ◌≢◌, ◌-◌, ℕ, ℤ, not, Bor, List, sym, ap, ◌∙◌, refl, subst, rules}
use Rattle.std.proofs.Math.Logic.{∥∥₁_elim, ∥∥₁_prop}
use Rattle.std.specs.Prelude.{nat_eq}
use Rattle.std.specs.List.{filter}
use Rattle.std.specs.Vec.{with_items}
use Rattle.std.proofs.lemmas.Fn.{filter_same}
use Rattle.dd_blocks.specs.declared.plan.Plan.{Plan}
use Rattle.dd_blocks.specs.declared.task_row.TaskRow.{TaskRow}
use Rattle.dd_blocks.specs.Numbered.{task_row}
use Rattle.dd_blocks.specs.Tasks.{shapes_in}
use Rattle.dd_meaning.specs.Lists.{lists_of}
use Rattle.dd_stamps.specs.declared.work.Stage.TheVariants.{Begun, Collecting}
use Rattle.dd_stamps.specs.Found.{HaveFound}
use Rattle.dd_stamps.proofs.CellsLemmas.{both_true, same_true}
use Rattle.dd_stamps.proofs.FoundLemmas.{all_collected, are_views, collected_in, have_lengths, have_shapes, kept_sizes}
use Rattle.dd_stamps.proofs.OutputsLemmas.{as_many, length_at}
use Rattle.dd_stamps.proofs.work.Work.collect.Goals as goal

pub returns-clause-left : goal.returns-clause-left
returns-clause-left c = filter_same _ _ _ (λ x b f k. search rules) _ _ c.retain.ensures.filtered

pub returns-clause-bufs : goal.returns-clause-bufs
returns-clause-bufs c =
    collected_in c.args.copy.now.plan.now c.args.self.now.plan.now c.args.copy.now.block c.args.copy.now.values.items _ (task_row c.args.self.now.plan.now c.args.self.now.task).accesses c.args.self.now.args.bufs c.deref_mut.result.now c.gather_all.new.bufs
    (ap (λ (r : Bor Plan). r.now) c.requires.plan) (c.as_slice.ensures ∙ ap (λ (r : TaskRow). r.accesses) c.task_row-row.ensures) c.deref_mut.ensures.value (c.gather_all.auto.bufs ∙ c.deref_mut.ensures.len) c.gather_all.ensures

pub invariant_of-self-clause-filled : goal.invariant_of-self-clause-filled
invariant_of-self-clause-filled c = λ no.
    let plan = c.args.self.now.plan.now in
    let task : ℕ = c.args.self.now.task in
    let bufs : List (List ℤ) = lists_of c.args.self.now.args.bufs.items in
    let sizes = c.args.self.now.filled no in
    let long = have_lengths (task_row plan task).accesses bufs (are_views plan task c.requires.well c.args.self.now.known) (have_shapes (shapes_in (task_row plan task).accesses) bufs sizes) in
    let collected = collected_in c.args.copy.now.plan.now c.args.self.now.plan.now c.args.copy.now.block c.args.copy.now.values.items _ (task_row c.args.self.now.plan.now c.args.self.now.task).accesses c.args.self.now.args.bufs c.deref_mut.result.now c.gather_all.new.bufs
    (ap (λ (r : Bor Plan). r.now) c.requires.plan) (c.as_slice.ensures ∙ ap (λ (r : TaskRow). r.accesses) c.task_row-row.ensures) c.deref_mut.ensures.value (c.gather_all.auto.bufs ∙ c.deref_mut.ensures.len) c.gather_all.ensures in
    kept_sizes plan c.args.copy.now.block c.args.copy.now.values.items (task_row plan task).accesses bufs _ (as_many (task_row plan task).accesses bufs long) collected ∙ sizes

pub invariant_of-self-clause-found : goal.invariant_of-self-clause-found
invariant_of-self-clause-found c =
    let plan = c.args.self.now.plan.now in
    let task : ℕ = c.args.self.now.task in
    let same = ap (λ (r : Bor Plan). r.now) c.requires.plan in
    let bufs : List (List ℤ) = lists_of c.args.self.now.args.bufs.items in
    let no : c.args.self.now.stage ≢ Begun = λ (e : c.args.self.now.stage ≡ Begun). let clash : Collecting ≡ Begun = sym c.requires.stage ∙ e in absurd (cc) in
    let long = have_lengths (task_row plan task).accesses bufs (are_views plan task c.requires.well c.args.self.now.known) (have_shapes (shapes_in (task_row plan task).accesses) bufs (c.args.self.now.filled no)) in
    let collected = collected_in c.args.copy.now.plan.now c.args.self.now.plan.now c.args.copy.now.block c.args.copy.now.values.items _ (task_row c.args.self.now.plan.now c.args.self.now.task).accesses c.args.self.now.args.bufs c.deref_mut.result.now c.gather_all.new.bufs
    same (c.as_slice.ensures ∙ ap (λ (r : TaskRow). r.accesses) c.task_row-row.ensures) c.deref_mut.ensures.value (c.gather_all.auto.bufs ∙ c.deref_mut.ensures.len) c.gather_all.ensures in
    let left : c.retain.new.self.items ≡ filter (λ b. not (nat_eq b c.args.copy.now.block)) c.args.self.now.left.items = filter_same _ _ _ (λ x b f k. search rules) _ _ c.retain.ensures.filtered in
    ∥∥₁_elim c.args.self.now.found ∥∥₁_prop (λ found.
    ∣ (λ told stage.
    let marks = both_true c.args.self.now.told.mark c.args.copy.now.told.mark (sym c.both.ensures ∙ told) in
    let cells = same_true c.args.copy.now.plan.now c.args.self.now.plan.now c.args.copy.now.block c.args.copy.now.block c.args.copy.now.versions.list c.args.copy.now.values.items same refl (c.args.copy.now.cells marks.1) in
    subst (λ (bs : List ℕ). HaveFound c.args.self.now.plan.now (c.args.self.now.task - 1) bs (task_row c.args.self.now.plan.now c.args.self.now.task).accesses (lists_of (with_items c.args.self.now.args.bufs c.gather_all.new.bufs).items)) (sym left)
    (all_collected plan task c.args.copy.now.block c.args.self.now.left.items c.args.copy.now.versions.list c.args.copy.now.values.items bufs _ c.requires.well c.args.self.now.known
    (λ k d lt. length_at (task_row plan task).accesses bufs k d long lt) c.requires.needed cells (found marks.0 c.requires.stage) collected)) ∣₁)
