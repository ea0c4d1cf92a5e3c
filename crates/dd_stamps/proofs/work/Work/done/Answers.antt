use Rattle.std.proofs.Common.{ℕ, ◌∙◌}
use Rattle.std.proofs.Math.Logic.{∥∥₁_elim}
use Rattle.std.specs.Coded.{Coded-set, coded_list, coded_ℤ}
use Rattle.dd_kernels.proofs.AgreementLemmas.{written_free}
use Rattle.dd_blocks.specs.declared.task_row.TaskRow.{TaskRow}
use Rattle.dd_blocks.specs.Numbered.{task_row}
use Rattle.dd_blocks.specs.Tasks.{shapes_in}
use Rattle.dd_meaning.specs.Lists.{lists_of}
use Rattle.dd_meaning.specs.Values.{inputs_of, outputs_of}
use Rattle.dd_stamps.proofs.FoundLemmas.{are_sizes}
use Rattle.dd_stamps.proofs.work.Work.done.Goals as goal

pub invariant_of-self-clause-filled : goal.invariant_of-self-clause-filled
invariant_of-self-clause-filled c = λ _. are_sizes (shapes_in (task_row c.args.self.now.plan.now c.args.self.now.task).accesses) (lists_of c.args.args.bufs.items) c.requires.filled

pub invariant_of-self-clause-outputs : goal.invariant_of-self-clause-outputs
invariant_of-self-clause-outputs c = λ told ran.
    let plan = c.args.self.now.plan.now in
    let task : ℕ = c.args.self.now.task in
    let row : TaskRow = task_row plan task in
    let fit = (c.requires.well.tasks task c.args.self.now.known).kernel.shapes in
    ∥∥₁_elim c.args.self.now.inputs (Coded-set (coded_list (coded_list coded_ℤ)) (lists_of c.args.args.bufs.items) (outputs_of plan task))
    (λ inputs. c.requires.results
    ∙ written_free row.kernel row.scalar (shapes_in row.accesses) (lists_of c.args.self.now.given.value.items) (inputs_of plan task) fit (inputs told c.requires.begun))
