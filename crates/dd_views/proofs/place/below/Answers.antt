use Rattle.std.proofs.Common.{◌≡◌, ◌-◌, suc, ap, arith}
use Rattle.dd_views.specs.Triangle.{triangle}
use Rattle.dd_views.proofs.place.below.Goals as goal

pub returns-clause-index : goal.returns-clause-index
returns-clause-index c =
    let left : c.args.order - (c.args.order - 1 - c.corner_from_end-corner.result.col) ≡ suc c.corner_from_end-corner.result.col = omega arith in
    rw left (omega (arith, ap triangle c.saturating_sub.ensures))
