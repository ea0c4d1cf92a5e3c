-- The equations of the kernels on packed triangles, at values worked by hand.
use Rattle.std.proofs.Common.{◌≡◌, ℕ, pos, negsuc, [], ◌∷◌, refl}
use Rattle.std.specs.Int.{int_wrap}
use Rattle.dd_kernels.specs.declared.kernel.Kernel.TheVariants.{Trmv, TrsvUnit, TrsmUnit, Mirror, SyrkPacked}
use Rattle.dd_kernels.specs.declared.shape.Shape.{Shape}
use Rattle.dd_kernels.specs.Table.{results}

abbrev by : ℕ → ℕ → Shape
by rows cols = record { rows = rows; cols = cols }

-- the lower triangle 1, 2 4 times a column of ones
product : results Trmv (pos 0) (by 2 1 ∷ by 3 1 ∷ []) ((pos 1 ∷ pos 1 ∷ []) ∷ (pos 1 ∷ pos 2 ∷ pos 4 ∷ []) ∷ []) ≡ (pos 1 ∷ pos 6 ∷ []) ∷ (pos 1 ∷ pos 2 ∷ pos 4 ∷ []) ∷ []
unfolding int_wrap
product = refl

-- one column, and two
one_column : results TrsvUnit (pos 0) (by 2 1 ∷ by 1 1 ∷ []) ((pos 1 ∷ pos 1 ∷ []) ∷ (pos 2 ∷ []) ∷ []) ≡ (pos 1 ∷ negsuc 0 ∷ []) ∷ (pos 2 ∷ []) ∷ []
unfolding int_wrap
one_column = refl

two_columns : results TrsmUnit (pos 0) (by 2 2 ∷ by 1 1 ∷ []) ((pos 1 ∷ pos 1 ∷ pos 2 ∷ pos 5 ∷ []) ∷ (pos 2 ∷ []) ∷ []) ≡ (pos 1 ∷ negsuc 0 ∷ pos 2 ∷ pos 1 ∷ []) ∷ (pos 2 ∷ []) ∷ []
unfolding int_wrap
two_columns = refl

-- the pairs below the diagonal of order 4, rows as columns
mirror : results Mirror (pos 0) (by 6 1 ∷ by 6 1 ∷ []) ((pos 21 ∷ pos 31 ∷ pos 41 ∷ pos 32 ∷ pos 42 ∷ pos 43 ∷ []) ∷ (pos 0 ∷ pos 0 ∷ pos 0 ∷ pos 0 ∷ pos 0 ∷ pos 0 ∷ []) ∷ []) ≡ (pos 21 ∷ pos 31 ∷ pos 41 ∷ pos 32 ∷ pos 42 ∷ pos 43 ∷ []) ∷ (pos 21 ∷ pos 31 ∷ pos 32 ∷ pos 41 ∷ pos 42 ∷ pos 43 ∷ []) ∷ []
mirror = refl

square : results SyrkPacked (pos 0) (by 3 1 ∷ by 2 1 ∷ []) ((pos 0 ∷ pos 0 ∷ pos 0 ∷ []) ∷ (pos 2 ∷ pos 3 ∷ []) ∷ []) ≡ (pos 4 ∷ pos 6 ∷ pos 9 ∷ []) ∷ (pos 2 ∷ pos 3 ∷ []) ∷ []
unfolding int_wrap
square = refl
