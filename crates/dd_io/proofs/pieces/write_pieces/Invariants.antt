use Rattle.std.proofs.Common.{◌≡◌, drop}
use Rattle.std.specs.List.{flat_map}
use Rattle.dd_causes.specs.Appended.{AppendsAllBut}
use Rattle.dd_io.proofs.pieces.write_pieces.Given as goal

abbrev pub invariant-loop-piece : goal.invariant-loop-piece
invariant-loop-piece g l =
    AppendsAllBut (g.K.Sink.taken l.initial.out) (g.K.Sink.taken l.out) (flat_map (λ p. p.now) (drop l.piece-index l.pieces)) (flat_map (λ p. p.now) l.pieces)
    × (g.K.Sink.faults l.out ≡ g.K.Sink.faults l.initial.out)
