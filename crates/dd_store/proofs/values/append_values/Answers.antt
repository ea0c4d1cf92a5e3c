use Rattle.std.proofs.Common.{rules, sym, subst, ℤ, List}
use Rattle.std.specs.Int.{w64}
use Rattle.std.specs.Int.RustNames.{FitsSigned}
use Rattle.std.specs.List.{All}
use Rattle.std.proofs.lemmas.List.Elements.{All-append}
use Rattle.dd_store.proofs.EncodedLemmas.{appended_more}
use Rattle.dd_store.proofs.values.append_values.Goals as goal

pub loop-left-preserved : goal.loop-left-preserved
loop-left-preserved g c =
    let parts = c.split_at.ensures.by_index.0 in
    let piece = c.in_ok-append_piece.ensures in
    record {
      added = λ tells. appended_more _ _ _ _ _ _ parts (piece.added tells) (c.loop-left.invariant.added tells);
      fit = λ rest. c.loop-left.invariant.fit (subst (λ (l : List ℤ). All (FitsSigned w64) l) (sym parts) (All-append (FitsSigned w64) _ _ piece.fit rest));
      faults = search rules;
    }
