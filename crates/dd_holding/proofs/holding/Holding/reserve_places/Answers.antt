-- The most that is wanted is enough.
use Rattle.std.proofs.Common.{◌≡◌, Bor, ap, ◌∙◌, arith}
use Rattle.dd_blocks.specs.declared.plan.Plan.{Plan}
use Rattle.dd_holding.proofs.HereLemmas.{sound_now}
use Rattle.dd_holding.proofs.MoreLemmas.{less_spare}
use Rattle.dd_holding.proofs.SpareLemmas.{most_enough}
use Rattle.dd_holding.specs.Users.{most_wanted}
use Rattle.dd_ledger.specs.Ledgers.{state_now}
use Rattle.dd_holding.proofs.holding.Holding.reserve_places.Goals as goal

pub returns-clause-ok : goal.returns-clause-ok
returns-clause-ok g c =
    let l = c.args.self.now.ledger in
    let enough = most_enough l.plan.now (state_now l) c.args.space c.args.block c.requires.well (sound_now l c.requires.well) in
    let most : c.most_wanted.result ≡ most_wanted l.plan.now c.args.block = c.most_wanted.ensures.value ∙ ap (λ (p : Bor Plan). most_wanted p.now c.args.block) c.plan.ensures in
    let count = c.len.ensures in
    less_spare c.reserve_runs.result _ _ _ (omega (arith, enough, most, count)) c.reserve_runs.ensures.ok
