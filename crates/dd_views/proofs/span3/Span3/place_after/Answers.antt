use Rattle.std.proofs.Common.{arith}
use Rattle.dd_views.proofs.WayLemmas.{only_place, place_found}
use Rattle.dd_views.proofs.span3.Span3.place_after.Goals as goal
use Rattle.dd_views.proofs.span3.Span3.place_after.Goals.{else-jumps-stride-via-then-jumps-stride+else-jumps-from, else-jumps-stride-via-else-jumps-stride}

pub returns-then-jumps-from : goal.returns-then-jumps-from
returns-then-jumps-from c = (
  omega arith,
  omega arith,
  place_found _ _ _ _ c.stride-stride.ensures c.requires.span c.requires.way c.if-jumps-stride.true,
  λ k low high here. (only_place _ _ _ k _ c.stride-stride.ensures c.requires.span c.requires.way low high here).0,
)

pub returns-else-jumps-stride : goal.returns-else-jumps-stride
returns-else-jumps-stride c = λ k low high here.
    let only = only_place _ _ _ k _ c.stride-stride.ensures c.requires.span c.requires.way low high here in
    elim c.else-jumps-stride.branch [
      | else-jumps-stride-via-then-jumps-stride+else-jumps-from w ↦ omega (arith, only.0, w.if-jumps-from.false, w.from.ensures)
      | else-jumps-stride-via-else-jumps-stride w ↦ w.if-jumps-stride.false only.1
    ]
