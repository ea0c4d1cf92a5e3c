use Rattle.std.proofs.Common.{take}
use Rattle.dd_script.specs.declared.pair.Pair.{Pair}
use Rattle.dd_script.specs.Pieces.{only, pair_piece, gathered}
use Rattle.dd_script.specs.PieceFaults.{Adds}
use Rattle.dd_script.proofs.pieces.add_pairs.Given as goal

abbrev pub invariant-loop-pair : goal.invariant-loop-pair
invariant-loop-pair l =
    Adds (gathered (λ (q : Pair). only (pair_piece l.view q.access q.part)) (take l.pair-index l.pairs)) l.fn.pieces l.pieces
