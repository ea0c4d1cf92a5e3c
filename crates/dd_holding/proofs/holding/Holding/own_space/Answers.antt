-- For 0 it is the home.
use Rattle.std.proofs.Common.{Bool, if◌then◌else◌, sym, ap, ◌∙◌}
use Rattle.std.proofs.lemmas.Bool.{eq-eqb}
use Rattle.dd_core.specs.Cores.{core_state}
use Rattle.dd_ledger.specs.Ledgers.{state_now}
use Rattle.dd_machine.specs.Words.{place}
use Rattle.dd_tables.specs.declared.tables.Tables.{Tables}
use Rattle.dd_holding.proofs.holding.Holding.own_space.Goals as goal

pub returns-then-task-eq0 : goal.returns-then-task-eq0
returns-then-task-eq0 g c =
    let l = c.args.self.now.ledger in
    c.home.ensures l.plan.now ∙ ap (λ (k : Tables). (core_state l.plan.now k).homes c.args.block) c.core.ensures
    ∙ sym (ap (λ (t : Bool). if t then (state_now l).homes c.args.block else place l.plan.now c.args.task) (eq-eqb c.args.task 0 c.if-task-eq0.true))
