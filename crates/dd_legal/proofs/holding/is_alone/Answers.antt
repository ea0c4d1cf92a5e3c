use Rattle.std.proofs.Common.{◌≡◌, sym, ap, ◌∙◌}
use Rattle.std.proofs.lemmas.Bool.{eq-eqb, eqb-true}
use Rattle.dd_machine.specs.Words.{proc_of}
use Rattle.dd_tables.specs.Shares.{worker_at}
use Rattle.dd_tables.specs.Tables.{tasks_of}
use Rattle.dd_tables.proofs.WorkLemmas.{nobody_at}
use Rattle.dd_legal.proofs.holding.is_alone.Goals as goal

pub returns : goal.returns
returns c =
    let plan = c.args.plan.now in
    let at_work = c.args.tables.now.at_work.items in
    let none = nobody_at plan (tasks_of c.args.tables.now.tasks.items) at_work (proc_of plan c.args.task) c.requires.sized.at_work in
    let is : c.worker.result ≡ worker_at at_work (proc_of plan c.args.task) = c.worker.ensures.value ∙ ap (worker_at at_work) c.proc_of.ensures in (
      (λ t. none.0 (sym is ∙ eqb-true c.worker.result 0 t)),
      (λ idle. eq-eqb c.worker.result 0 (is ∙ none.1 idle)),
    )
