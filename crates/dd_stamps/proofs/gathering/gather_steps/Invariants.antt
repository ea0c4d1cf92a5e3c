use Rattle.std.proofs.Common.{◌+◌, pos}
use Rattle.dd_kernels.specs.Lists.{element}
use Rattle.dd_stamps.specs.Columns.{place_at}
use Rattle.dd_stamps.specs.Placed.{HasPlaced}
use Rattle.dd_stamps.proofs.gathering.gather_steps.Given as goal

abbrev pub invariant-loop-i : goal.invariant-loop-i
invariant-loop-i l = HasPlaced (pos 0) l.piece.from l.i (λ k. l.at + k) (λ k. element l.values (place_at l.column l.piece k)) l.initial.into l.into
