use Rattle.std.proofs.Common.{◌≡◌, ◌+◌, ◌-◌, suc, arith}
use Rattle.dd_views.proofs.place.in_lower.Goals as goal

pub returns-clause-index : goal.returns-clause-index
returns-clause-index c =
    let left : c.args.order + 1 - (c.args.order - c.corner_from_end-corner.result.col) ≡ suc c.corner_from_end-corner.result.col = omega arith in
    rw left (omega arith)
