use Rattle.std.proofs.Common.{◌≡◌, ◌-◌, ℕ, ℤ, List, sym, ap, ◌∙◌, subst}
use Rattle.std.proofs.Math.Logic.{∥∥₁_elim, ∥∥₁_prop}
use Rattle.std.specs.Global.{Vec}
use Rattle.dd_kernels.specs.Signatures.{modes_of}
use Rattle.dd_kernels.specs.declared.args.Args.{Args}
use Rattle.dd_kernels.specs.Agreement.{AgreeWhereRead}
use Rattle.dd_kernels.specs.Shapes.{HaveShapes}
use Rattle.dd_blocks.specs.declared.task_row.TaskRow.{TaskRow}
use Rattle.dd_blocks.specs.Numbered.{task_row}
use Rattle.dd_blocks.specs.Tasks.{shapes_in}
use Rattle.dd_meaning.specs.Lists.{lists_of}
use Rattle.dd_meaning.specs.Values.{inputs_of}
use Rattle.dd_stamps.specs.declared.work.Stage.TheVariants.{Begun, Collecting}
use Rattle.dd_stamps.specs.Found.{HaveFound}
use Rattle.dd_stamps.proofs.FoundLemmas.{agree_found, are_views, have_lengths, have_shapes}
use Rattle.dd_stamps.proofs.work.Work.begin.Goals as goal

pub invariant_of-self-clause-inputs : goal.invariant_of-self-clause-inputs
invariant_of-self-clause-inputs c =
    let plan = c.args.self.now.plan.now in
    let task : ℕ = c.args.self.now.task in
    let row : TaskRow = task_row plan task in
    let modes = (c.requires.well.tasks task c.args.self.now.known).kernel.modes in
    let bufs : List (List ℤ) = lists_of c.args.self.now.args.bufs.items in
    let shapes = have_shapes (shapes_in row.accesses) bufs (c.args.self.now.filled (λ (e : c.args.self.now.stage ≡ Begun). let clash : Collecting ≡ Begun = sym c.requires.stage ∙ e in absurd (cc))) in
    let long = have_lengths row.accesses bufs (are_views plan task c.requires.well c.args.self.now.known) shapes in
    ∥∥₁_elim c.args.self.now.found ∥∥₁_prop (λ found.
    ∣ (λ told begun.
    let some = found told c.requires.stage in
    let all = subst (λ (left : List ℕ). HaveFound c.args.self.now.plan.now (c.args.self.now.task - 1) left (task_row c.args.self.now.plan.now c.args.self.now.task).accesses (lists_of c.args.self.now.args.bufs.items)) c.requires.all some in
    let agree = agree_found plan (task - 1) (modes_of row.kernel) row.accesses bufs modes long all in
    subst (λ (v : Vec (Vec ℤ)). AgreeWhereRead (task_row c.args.self.now.plan.now c.args.self.now.task).kernel (lists_of v.items) (inputs_of c.args.self.now.plan.now c.args.self.now.task)) (sym c.of.ensures) agree) ∣₁)

pub returns-clause-shapes : goal.returns-clause-shapes
returns-clause-shapes c = ap (λ (a : Args). a.shapes.items) c.replace.ensures.value ∙ c.args.self.now.shaped c.requires.stage

pub returns-clause-filled : goal.returns-clause-filled
returns-clause-filled c =
    subst (λ (a : Args). HaveShapes (shapes_in (task_row c.args.self.now.plan.now c.args.self.now.task).accesses) (lists_of a.bufs.items)) (sym c.replace.ensures.value)
    (have_shapes (shapes_in (task_row c.args.self.now.plan.now c.args.self.now.task).accesses) (lists_of c.args.self.now.args.bufs.items)
    (c.args.self.now.filled (λ (e : c.args.self.now.stage ≡ Begun). let clash : Collecting ≡ Begun = sym c.requires.stage ∙ e in absurd (cc))))
