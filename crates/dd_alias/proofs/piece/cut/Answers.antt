use Rattle.std.proofs.Common.{◌≤◌, List, arith}
use Rattle.dd_alias.specs.declared.extent.Extent.{Extent}
use Rattle.dd_alias.proofs.PieceLemmas.{joined_more}
use Rattle.dd_alias.proofs.piece.cut.Goals as goal

pub loop-first-preserved : goal.loop-first-preserved
loop-first-preserved c =
    let piece : List Extent = c.in_ok-piece_of.field-0 in
    let end : c.loop-first.first ≤ c.min-end.result = omega (arith, c.min-end.ensures, c.saturating_add.ensures) in
    rw c.in_ok-push.ensures.items (joined_more c.args.extents.now c.loop-first.first c.min-end.result c.loop-first.pieces.items piece end c.loop-first.invariant c.in_ok-piece_of.ensures)
