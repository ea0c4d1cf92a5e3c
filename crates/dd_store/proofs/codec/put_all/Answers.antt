use Rattle.std.proofs.Common.{◌≡◌, ap, ◌+◌, ◌++◌, ◌∙◌, drop, List, ℕ, ◌<◌, arith, ⊎_elim, subst, sym, get_or, pos}
use Rattle.dd_store.specs.Encoded.{encoded}
use Rattle.dd_store.proofs.EncodedLemmas.{below_or_at, encoded_more}
use Rattle.std.specs.Int.{w64}
use Rattle.std.specs.Int.RustNames.{FitsSigned}
use Rattle.std.proofs.lemmas.List.{get_or_default}
use Rattle.dd_store.proofs.codec.put_all.Goals as goal

pub loop-value-preserved : goal.loop-value-preserved
loop-value-preserved c = record {
  fit = λ k d h. ⊎_elim
      (λ (l : k < c.loop-value.value-index). c.loop-value.invariant.fit k d l)
      (λ (e : k ≡ c.loop-value.value-index). subst (λ (i : ℕ). FitsSigned w64 (get_or c.args.values.now i d)) (sym e) (subst (FitsSigned w64) (get_or_default c.args.values.now c.loop-value.value-index (pos 0) d (omega arith)) c.put.ensures.fits))
      (below_or_at k c.loop-value.value-index h);
  added =
      ap (λ (l : List ℕ). l ++ encoded (drop (c.loop-value.value-index + 1) c.args.values.now)) c.put.ensures.added
      ∙ encoded_more c.loop-value.bytes.items c.args.values.now c.loop-value.value-index (omega arith)
      ∙ c.loop-value.invariant.added;
  room = omega arith;
}
