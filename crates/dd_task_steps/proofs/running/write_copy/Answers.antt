use Rattle.std.proofs.Common.{ap, ◌∙◌, Option}
use Rattle.dd_copies.specs.CopyTables.{seen}
use Rattle.dd_machine.specs.Effects.{copy_where}
use Rattle.dd_machine.specs.States.{Copy}
use Rattle.dd_machine.specs.Words.{element, writes}
use Rattle.dd_tables.specs.Tables.{state_of}
use Rattle.dd_task_steps.proofs.CopiesLemmas.{put_back}
use Rattle.dd_task_steps.proofs.running.write_copy.Goals as goal

pub returns-clause-value : goal.returns-clause-value
returns-clause-value c =
    let plan = c.args.plan.now in
    put_back (state_of plan c.args.tables.now) (state_of plan c.take_copy.new.tables) (state_of plan c.set_copy.new.tables) c.args.space c.args.block (seen c.written-cell.result) _
    c.take_copy.ensures.value c.set_copy.ensures.value
    (c.written-cell.ensures ∙ ap (λ (x : Option Copy). copy_where (λ i. writes plan c.args.task (element plan c.args.block i)) (λ i. c.args.task) x) c.take_copy.ensures.copy)
