use Rattle.std.proofs.Common.{◌≡◌, ◌≢◌, ℕ, to_z, of_z, ◌<◌, pos, get_or, length, arith, get_or-set_other, get_or-set_same, below_more, subst, sym, ap, ◌∙◌}
use Rattle.std.specs.Int.{w64}
use Rattle.std.specs.Int.RustNames.{FitsSigned}
use Rattle.std.proofs.lemmas.Int.{to_z-of_z}
use Rattle.std.proofs.lemmas.List.{ext_get_or}
use Rattle.std.proofs.lemmas.List.Elements.{All-get_or}
use Rattle.dd_store.proofs.EncodedLemmas.{length_encoded, piece_is}
use Rattle.dd_store.proofs.codec.decode.Goals as goal

pub loop-i-preserved : goal.loop-i-preserved
loop-i-preserved c = λ xs is fits.
    let many : length c.loop-i.values ≡ length xs = omega (arith, length_encoded xs, ap length is) in
    let lt : c.loop-i.i < length xs = omega arith in
    let one = All-get_or (FitsSigned w64) xs c.loop-i.i (pos 0) lt fits in
    let v = c.value_of.ensures (get_or xs c.loop-i.i (pos 0)) (piece_is c.args.bytes.now xs c.loop-i.i is lt) one in
    below_more (λ (k : ℕ). get_or (Rattle.std.specs.Prelude.slice_set c.loop-i.values c.loop-i.i (to_z w64 (of_z w64 c.value_of.result))) k (pos 0) ≡ get_or xs k (pos 0)) c.loop-i.i
    (λ k h. let ne : k ≢ c.loop-i.i = omega arith in rw get_or-set_other (c.loop-i.invariant xs is fits k h))
    (let here : c.loop-i.i < length c.loop-i.values = omega arith in rw get_or-set_same (to_z-of_z w64 c.value_of.result (subst (FitsSigned w64) (sym v) one) ∙ v))

pub returns : goal.returns
returns c = record {
  back = λ xs is fits.
      let many : length c.loop-i.values ≡ length xs = omega (arith, length_encoded xs, ap length is) in
      ext_get_or (pos 0) c.loop-i.values xs many (λ k lt. c.loop-i.invariant xs is fits k (omega arith));
}
