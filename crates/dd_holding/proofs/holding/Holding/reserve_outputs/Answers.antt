-- The blocks that the task touches.
use Rattle.std.proofs.Common.{◌≤◌, Bor, ap, ◌∙◌}
use Rattle.std.specs.Prelude.{IsSomeAnd}
use Rattle.dd_blocks.specs.declared.plan.Plan.{Plan}
use Rattle.dd_blocks.specs.Numbered.{task_row}
use Rattle.dd_holding.proofs.ClaimLemmas.{its_room}
use Rattle.dd_holding.specs.Users.{most_wanted}
use Rattle.dd_machine.specs.Words.{place}
use Rattle.dd_pool.specs.Pools.{copy_at}
use Rattle.dd_stamps.specs.declared.stamped.Stamped.{Stamped}
use Rattle.dd_holding.proofs.holding.Holding.reserve_outputs.Goals as goal

pub returns-clause-ok : goal.returns-clause-ok
returns-clause-ok g c =
    let l = c.args.self.now.ledger in
    its_room c.reserve_all.result l.plan.now c.args.task c.place-space.result _
    (λ s b. IsSomeAnd (copy_at c.reserve_all.new.self.pool s b) (λ (c' : Stamped). most_wanted l.plan.now b ≤ c'.versions.spare))
    (c.place-space.ensures.value ∙ ap (λ (p : Bor Plan). place p.now c.args.task) c.plan-plan.ensures)
    (c.as_slice.ensures ∙ ap (λ r. r.blocks) c.task_row.ensures ∙ ap (λ (p : Bor Plan). (task_row p.now c.args.task).blocks) c.plan-plan.ensures) c.reserve_all.ensures.ok
