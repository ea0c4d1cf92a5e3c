use Rattle.std.proofs.Common.{take}
use Rattle.dd_script.specs.Pieces.{gathered, pieces_of}
use Rattle.dd_script.specs.PieceFaults.{Adds}
use Rattle.dd_script.proofs.pieces.add_arguments.Given as goal

abbrev pub invariant-loop-argument : goal.invariant-loop-argument
invariant-loop-argument l = Adds (gathered pieces_of (take l.argument-index l.arguments)) l.fn.pieces l.pieces
