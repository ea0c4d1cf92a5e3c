-- The tasks of the region are those that may run, and each is counted once.
use Rattle.std.proofs.Common.{◌≤◌, true, false, Bor, sym, ◌∙◌, subst, arith}
use Rattle.dd_blocks.specs.declared.plan.Plan.{Plan}
use Rattle.dd_holding.proofs.HereLemmas.{sound_now}
use Rattle.dd_machine.specs.Words.{tasks}
use Rattle.dd_table.specs.Tables.{state_now}
use Rattle.dd_table.proofs.RunsLemmas.{runs_few, runs_first, runs_last, runs_more, stand_by}
use Rattle.dd_table.proofs.table.Table.running.Goals.{then-runs, else-runs}
use Rattle.dd_table.proofs.table.Table.running.Goals as goal

pub loop-i-init : goal.loop-i-init
loop-i-init g c =
    let l = c.args.self.now.holding.ledger in
    let before = c.tasks_of-before.result.0 in
    let last = c.tasks_of-before.result.1 in
    sym (runs_first l.plan.now (state_now c.args.self.now) c.args.region before last (sound_now l c.requires.well) c.requires.open (stand_by l c.plan.result c.args.region before last c.plan.ensures c.tasks_of-before.ensures.tasks))

pub overflow_add-running : goal.overflow_add-running
overflow_add-running g c =
    let few = runs_few (state_now c.args.self.now) c.loop-i.i in
    let is = c.loop-i.invariant in
    omega (arith, few, is)

pub loop-i-preserved : goal.loop-i-preserved
loop-i-preserved g c =
    let st = state_now c.args.self.now in
    let i = c.loop-i.i in
    let was = c.loop-i.invariant in
    elim c.if-runs.branch [
      | then-runs w ↦ (let is = w.running-is in let more = runs_more st i true (sym c.runs.ensures ∙ w.if-runs.true) in omega (arith, was, is, more))
      | else-runs w ↦ (let is = w.running-is in let more = runs_more st i false (sym c.runs.ensures ∙ w.if-runs.false) in omega (arith, was, is, more))
    ]

pub returns : goal.returns
returns g c =
    let l = c.args.self.now.holding.ledger in
    let before = c.tasks_of-before.result.0 in
    let last = c.tasks_of-before.result.1 in
    let within = subst (λ (p : Bor Plan). last ≤ tasks p.now) c.plan.ensures c.tasks_of-before.ensures.within in
    c.loop-i.invariant
    ∙ runs_last l.plan.now (state_now c.args.self.now) c.args.region before last c.loop-i.i (sound_now l c.requires.well) c.requires.open (stand_by l c.plan.result c.args.region before last c.plan.ensures c.tasks_of-before.ensures.tasks) within
    c.loop-i-test.false
