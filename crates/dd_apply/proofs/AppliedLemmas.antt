-- What the modes of a kernel say of its results.
use Rattle.std.proofs.Common.{◌≡◌, ℤ, List, sym, subst, ◌∙◌}
use Rattle.dd_kernels.specs.declared.kernel.Kernel.{Kernel}
use Rattle.dd_kernels.specs.declared.shape.Shape.{Shape}
use Rattle.dd_kernels.specs.Agreement.{AgreeWhereOnlyRead, AgreeWhereRead}
use Rattle.dd_kernels.specs.Shapes.{HaveShapes, ShapesFit}
use Rattle.dd_kernels.specs.Table.{results}
use Rattle.dd_kernels.proofs.AgreementLemmas.{read_stays, written_free}

pub applied_stays : (k : Kernel) (scalar : ℤ) (shapes : List Shape) (old new : List (List ℤ)) → ShapesFit k shapes → HaveShapes shapes old → new ≡ results k scalar shapes old → AgreeWhereOnlyRead k old new
applied_stays k scalar shapes old new fit have made = subst (λ (xs : List (List ℤ)). AgreeWhereOnlyRead k old xs) (sym made) (read_stays k scalar shapes old fit have)

pub applied_over : (k : Kernel) (scalar : ℤ) (shapes : List Shape) (old new others : List (List ℤ)) → ShapesFit k shapes → new ≡ results k scalar shapes old → AgreeWhereRead k old others → new ≡ results k scalar shapes others
applied_over k scalar shapes old new others fit made agree = made ∙ written_free k scalar shapes old others fit agree
