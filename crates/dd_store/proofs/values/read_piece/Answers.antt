-- The bytes of the piece are those of the values behind the ones that were read.
use Rattle.std.proofs.Common.{length, vec_len, take, drop, arith}
use Rattle.std.specs.Int.{w64}
use Rattle.std.specs.Int.RustNames.{FitsSigned}
use Rattle.std.proofs.lemmas.List.Elements.{All-drop, All-take}
use Rattle.dd_store.proofs.EncodedLemmas.{joined_pieces, piece_of}
use Rattle.dd_store.proofs.values.read_piece.Goals as goal

pub returns-clause-values : goal.returns-clause-values
returns-clause-values g c = λ tells xs is fit before.
    let i = vec_len c.args.values.now in
    let n = length c.args.numbers.now in
    let bytes = piece_of _ _ xs _ i n _ is (omega arith) (omega arith) (c.in_ok-read.ensures.filled tells) in
    let back = c.decode.ensures.back (take n (drop i xs)) bytes (All-take (FitsSigned w64) n (drop i xs) (All-drop (FitsSigned w64) i xs fit)) in
    joined_pieces xs _ _ _ i n _ before back c.in_ok-extend_from_slice.ensures.items (omega (arith, c.in_ok-extend_from_slice.ensures.len))
