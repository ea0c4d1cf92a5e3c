-- A task that runs is of the open region, and the loop goes through its tasks.
use Rattle.std.proofs.Common.{◌∙◌, refl, arith}
use Rattle.dd_holding.proofs.HereLemmas.{sound_now}
use Rattle.dd_table.specs.Tables.{state_now}
use Rattle.dd_table.proofs.RunsLemmas.{none_of, none_runs, nothing_none, region_of, stand_by}
use Rattle.dd_table.proofs.table.Table.has_out.Goals as goal

pub returns-in_default : goal.returns-in_default
returns-in_default g c =
    let l = c.args.self.now.holding.ledger in
    let st = state_now c.args.self.now in
    let closed = region_of l c.core.result.now c.region.result c.core.ensures c.region.ensures ∙ c.in_default.is in
    (λ _. nothing_none st c.args.worker (none_runs l.plan.now st (sound_now l c.requires.well) closed), λ _. refl)

pub returns : goal.returns
returns g c =
    let l = c.args.self.now.holding.ledger in
    let st = state_now c.args.self.now in
    let region = c.in-Some.region in
    let before = c.tasks_of-before.result.0 in
    let last = c.tasks_of-before.result.1 in
    let open_in = region_of l c.core.result.now c.region.result c.core.ensures c.region.ensures ∙ c.in-Some.is in (
      λ _. none_of l.plan.now st region before last c.args.worker (sound_now l c.requires.well) open_in (stand_by l c.plan.result region before last c.plan.ensures c.tasks_of-before.ensures.tasks)
          (λ t above within. c.loop-i.invariant t above (let all = c.loop-i-test.false in omega (arith, within, all))),
      λ _. refl,
    )
