-- A task that neither waits nor is Held stands.
use Rattle.std.proofs.Common.{sym, ◌∙◌}
use Rattle.dd_table.specs.Tables.{state_now}
use Rattle.dd_table.proofs.PreparesLemmas.{task_of}
use Rattle.dd_table.proofs.RoundsLemmas.{stays_same}
use Rattle.dd_table.proofs.ServesLemmas.{stands_other}
use Rattle.dd_table.proofs.table.Table.lead.Goals as goal

pub lead_waiting-requires-clause-waiting : goal.lead_waiting-requires-clause-waiting
lead_waiting-requires-clause-waiting g c = λ _ _. task_of c.args.self.now.holding.ledger c.core.result.now c.args.task c.task.result c.core.ensures c.task.ensures ∙ c.in-Waiting.is

pub lead_held-requires-clause-held : goal.lead_held-requires-clause-held
lead_held-requires-clause-held g c = λ _ _. task_of c.args.self.now.holding.ledger c.core.result.now c.args.task c.task.result c.core.ensures c.task.ensures ∙ c.in-Held.is

pub returns-in_default : goal.returns-in_default
returns-in_default g c =
    let t = c.args.self.now in
    let is = task_of t.holding.ledger c.core.result.now c.args.task c.task.result c.core.ensures c.task.ensures in (
      stays_same t c.requires.lead.running,
      stands_other t.holding.ledger.plan.now (state_now t) c.args.task (λ held. c.in_default.not-Held (sym is ∙ held)) (λ waits. c.in_default.not-Waiting (sym is ∙ waits)),
    )
