-- Shapes of buffers, told apart by their numbers.
use Rattle.std.specs.Prelude.{◌≡◌, ℕ, List, [], ◌∷◌, slice_index}
use Rattle.std.specs.Coded.{Coded, coded_ℕ, coded_list}
use Rattle.std.proofs.Common.{ap}
use base.Stored.{coded_via}
use Rattle.dd_kernels.specs.declared.shape.Shape.{Shape}

-- the rows and the columns tell two shapes apart
pub same_shape : (a b : Shape) → a.rows ∷ a.cols ∷ [] ≡ b.rows ∷ b.cols ∷ [] → a ≡ b
same_shape a b e =
    let rows : a.rows ≡ b.rows = ap (λ (l : List ℕ). slice_index l 0) e in
    let cols : a.cols ≡ b.cols = ap (λ (l : List ℕ). slice_index l 1) e in
    λ i. record { rows = rows i; cols = cols i }

abbrev pub shape_code : Coded Shape
shape_code = coded_via (coded_list coded_ℕ) (λ s. s.rows ∷ s.cols ∷ []) same_shape
