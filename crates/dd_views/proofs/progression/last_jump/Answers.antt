use Rattle.std.proofs.Common.{◌<◌, ◌≤◌, ◌*◌, ◌/◌, ◌^◌, rules, arith}
use Rattle.dd_views.proofs.SignedLemmas.{size_pos}
use Rattle.dd_views.proofs.ProgressionLemmas.{quotient}
use Rattle.dd_views.proofs.progression.last_jump.Goals as goal

pub returns-clause-before : goal.returns-clause-before
returns-clause-before c = rw (c.distance.ensures, c.stride.ensures) ((quotient _ _ (size_pos _ c.requires)).0)

pub returns-clause-behind : goal.returns-clause-behind
returns-clause-behind c = rw (c.distance.ensures, c.stride.ensures) ((quotient _ _ (size_pos _ c.requires)).1)

pub returns-clause-fits : goal.returns-clause-fits
returns-clause-fits c =
    let distance : c.distance.result < 2 ^ 64 = search rules in
    let before : c.distance.result / c.stride.result * c.stride.result ≤ c.distance.result = (quotient c.distance.result c.stride.result (rw c.stride.ensures (size_pos _ c.requires))).0 in
    rw (← c.stride.ensures) (omega (arith, before, distance))
