use Rattle.std.proofs.Common.{◌≡◌, ℕ, ◌+◌, ◌-◌, take, drop, ap, sym, ◌∙◌, arith, rules}
use Rattle.dd_plain.proofs.WalkLemmas.{elements_run}
use Rattle.dd_plain.proofs.gathering.gather_run.Goals as goal

pub returns : goal.returns
returns c =
    let values = c.args.values.now in
    let first : ℕ = c.args.first in
    let same : c.args.first + c.args.count - c.args.first ≡ c.args.count = omega arith in
    let run = elements_run values first c.args.count c.requires ∙ ap (λ (n : ℕ). take n (drop first values)) (sym same) in
    rw run (search rules)
