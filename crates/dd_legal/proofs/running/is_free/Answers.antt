use Rattle.std.proofs.Common.{refl, ap, ◌∙◌, arith}
use Rattle.dd_machine.specs.Tests.{is_active}
use Rattle.dd_machine.specs.Words.{proc_of}
use Rattle.dd_tables.specs.Tables.{tasks_of}
use Rattle.dd_tables.proofs.WorkLemmas.{worker_of}
use Rattle.dd_legal.proofs.running.is_free.Goals as goal

pub returns : goal.returns
returns c =
    let plan = c.args.plan.now in
    let states = tasks_of c.args.tables.now.tasks.items in
    let at_work = c.args.tables.now.at_work.items in (
      (λ _ t is runs.
          let at = worker_of plan states at_work t c.requires.sized.at_work (ap is_active runs) in
          let end = c.loop-i-test.false in
          let len = c.len-i-end.ensures in
          let high = at.1 in
          let low = is.0 in
          let same = at.0 in
          c.loop-i.invariant (proc_of plan t) (omega (arith, end, len, high)) (λ z. omega (arith, z, same, low)) (ap states same ∙ runs)),
      (λ _. refl),
    )
