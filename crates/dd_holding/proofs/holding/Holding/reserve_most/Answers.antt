-- So many runs are asked for.
use Rattle.std.proofs.Common.{◌≡◌, Bor, ap, ◌∙◌, arith}
use Rattle.dd_blocks.specs.declared.plan.Plan.{Plan}
use Rattle.dd_holding.proofs.MoreLemmas.{less_spare}
use Rattle.dd_holding.specs.Users.{most_wanted}
use Rattle.dd_holding.proofs.holding.Holding.reserve_most.Goals as goal

pub returns-clause-ok : goal.returns-clause-ok
returns-clause-ok g c =
    let l = c.args.self.now.ledger in
    let most : c.most_wanted-most.result ≡ most_wanted l.plan.now c.args.block = c.most_wanted-most.ensures.value ∙ ap (λ (p : Bor Plan). most_wanted p.now c.args.block) c.plan.ensures in
    less_spare c.reserve_runs.result _ _ _ (omega (arith, most)) c.reserve_runs.ensures.ok
