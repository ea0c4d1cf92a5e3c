-- The numbers of a run from one on.
use Rattle.std.proofs.Common.{ℕ, ◌+◌, ◌-◌, ◌≤◌, arith}
use Rattle.dd_alias.specs.Congruence.{IsOnWay}
use Rattle.dd_alias.proofs.CongruenceLemmas.{Completes}

-- a number that isn't below another one stands as far beyond what completes the way to that one
pub way_from : (first stride low up x : ℕ) → first ≤ low → Completes stride (low - first) up → low ≤ x → IsOnWay first stride x → IsOnWay (low + up) stride x
way_from first stride low up x below completes above way =
    let rest = (completes (x - low)).0 (way.0, omega (arith, way.1)) in
    (rest.0, omega (arith, rest.1))

pub from_way : (first stride low up x : ℕ) → first ≤ low → Completes stride (low - first) up → IsOnWay (low + up) stride x → IsOnWay first stride x
from_way first stride low up x below completes way =
    let all = (completes (x - low)).1 (way.0, omega (arith, way.1)) in
    (all.0, omega (arith, all.1, way.1))
