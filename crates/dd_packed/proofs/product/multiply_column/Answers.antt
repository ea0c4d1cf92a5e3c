use Rattle.std.proofs.Common.{◌≡◌, ◌+ℤ◌, ◌*ℤ◌, ◌∷◌, List, ℤ, length, drop, set, ◌-◌, ap, ◌∙◌, rules, arith}
use Rattle.std.specs.Int.{w64, cast_signed, cast_unsigned, int_wrapping_mul}
use Rattle.std.specs.Int.RustNames.{FitsSigned}
use Rattle.std.specs.List.{between}
use Rattle.std.proofs.lemmas.Int.{to_z-of_z, wrapping_mul_is}
use Rattle.std.proofs.lemmas.Slice.{between_to_end}
use Rattle.dd_kernels.specs.Lists.{wrapped, element, zip_with}
use Rattle.dd_kernels.proofs.ListsLemmas.{ap2}
use Rattle.dd_packed.proofs.PartsLemmas.{put_tail}
use Rattle.dd_packed.proofs.product.multiply_column.Goals as goal

pub returns : goal.returns
returns c =
    let x = c.args.x.now in
    let column = c.args.column.now in
    let op : ℤ → ℤ → ℤ → ℤ = λ k a b. wrapped (a +ℤ k *ℤ b) in
    let fits : FitsSigned w64 (element x 0) = search rules in
    let fits_column : FitsSigned w64 (element column 0) = search rules in
    let rest : between 1 (length x) x ≡ drop 1 x = between_to_end x 1 (length x) (omega arith) in
    let rest_column : between 1 (length column) column ≡ drop 1 column = between_to_end column 1 (length column) (omega arith) in
    let new = c.axpy.ensures ∙ (ap2 (λ (u v : List ℤ). zip_with (op (cast_signed w64 (cast_unsigned w64 (element x 0)))) u v) rest rest_column ∙ ap (λ (k : ℤ). zip_with (op k) (drop 1 x) (drop 1 column)) (to_z-of_z w64 (element x 0) fits)) in
    ap (λ (l : List ℤ). set l 0 (int_wrapping_mul w64 (element x 0) (element column 0))) (put_tail (length x - 1) x c.axpy.new.x (omega arith) (omega arith)) ∙ ap2 (λ (v : ℤ) (l : List ℤ). v ∷ l) (wrapping_mul_is w64 (element x 0) (element column 0) fits fits_column) new
