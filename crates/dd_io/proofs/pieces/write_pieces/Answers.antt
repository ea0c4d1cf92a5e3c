use Rattle.std.proofs.Common.{arith}
use Rattle.std.specs.List.{flat_map}
use Rattle.std.proofs.lemmas.List.{at_drop_more}
use Rattle.dd_causes.proofs.CountsLemmas.{anyway_on_err}
use Rattle.dd_causes.proofs.AppendedLemmas.{all_but_more, front_in_piece}
use Rattle.dd_io.proofs.pieces.write_pieces.Goals as goal

pub loop-piece-preserved : goal.loop-piece-preserved
loop-piece-preserved g c =
    let next = at_drop_more (flat_map (λ p. p.now)) c.args.pieces.now c.loop-piece.piece-index _ (omega arith) in
    (all_but_more c.loop-piece.invariant.0 _ _ next c.in_ok-write_all.ensures.all, omega (arith, c.loop-piece.invariant.1, c.in_ok-write_all.ensures.kept))

pub returns-in_err-write_all-clause-front : goal.returns-in_err-write_all-clause-front
returns-in_err-write_all-clause-front g c =
    let next = at_drop_more (flat_map (λ p. p.now)) c.args.pieces.now c.loop-piece.piece-index _ (omega arith) in
    anyway_on_err _ (front_in_piece c.loop-piece.invariant.0 _ _ next c.in_err-write_all.ensures.front)
