use Rattle.std.specs.List.{AllWithin}
use Rattle.dd_script.specs.declared.piece.Piece.{Piece}
use Rattle.dd_check.specs.Drafts.{above_of}
use Rattle.dd_check.specs.Seen.{SaysBadRange}
use Rattle.dd_check.proofs.accesses.has_bad_range.Given as goal

abbrev pub invariant-loop-piece : goal.invariant-loop-piece
invariant-loop-piece l = AllWithin (λ (p : Piece). ¬ SaysBadRange (above_of l.draft) p) l.pieces 0 l.piece-index
