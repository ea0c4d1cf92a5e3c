-- The kernel table: the lists of all accesses after a kernel, from those before it and their shapes.
-- A list that the kernel only reads stays, and a list that it only writes counts for nothing before it. These are
-- the clauses `stays` and `overwritten` of each call that runs a kernel (dd_apply).
use Rattle.std.specs.Prelude.{ℤ, pos, ◌+ℤ◌, ◌-ℤ◌, ◌*ℤ◌, List, [], ◌∷◌, map, reverse, replicate, length}
use Rattle.std.specs.Int.{w64, int_bit_xor, int_min, int_max}
use Rattle.dd_kernels.specs.declared.kernel.Kernel.{Kernel}
use Rattle.dd_kernels.specs.declared.kernel.Kernel.TheVariants.{Fill, Addk, Scale, Copy, Copyt, Add, Sub, Mul, Axpy, Xor, Min, Max, Neg, Rev, Rot, Sort, Scan, Sum, Dot, Swap, Iota, Gemm, Gemv, Stencil5, Trmv, TrsvUnit, TrsmUnit, Mirror, SyrkPacked}
use Rattle.dd_kernels.specs.declared.shape.Shape.{Shape}
use Rattle.dd_kernels.specs.Packed.{triangle_product, solution, solutions, mirrored, plus_square}
use Rattle.dd_kernels.specs.Shapes.{size_of}
use Rattle.dd_kernels.specs.Lists.{wrapped, wrapping_sum, wrapping_difference, wrapping_product, element, zip_with, tabulate, sum_below, sums, rotated, rising}
use Rattle.dd_kernels.specs.Matrices.{transposed, plus_product, plus_column_product, stencil}

-- the one list becomes what `f` makes of its shape and itself
abbrev pub into_one : (Shape → List ℤ → List ℤ) → List Shape → List (List ℤ) → List (List ℤ)
into_one f (s ∷ ss) (x ∷ rest) = f s x ∷ rest
into_one f _ lists = lists

-- the first of two lists becomes what `f` makes of their shapes and them
abbrev pub into_first : (Shape → Shape → List ℤ → List ℤ → List ℤ) → List Shape → List (List ℤ) → List (List ℤ)
into_first f (s ∷ t ∷ ss) (x ∷ y ∷ rest) = f s t x y ∷ y ∷ rest
into_first f _ lists = lists

-- the first of three lists becomes what `f` makes of their shapes and them
abbrev pub into_first_of_three : (Shape → Shape → Shape → List ℤ → List ℤ → List ℤ → List ℤ) → List Shape → List (List ℤ) → List (List ℤ)
into_first_of_three f (s ∷ t ∷ u ∷ ss) (x ∷ y ∷ z ∷ rest) = f s t u x y z ∷ y ∷ z ∷ rest
into_first_of_three f _ lists = lists

-- two lists change places
abbrev pub exchanged : List (List ℤ) → List (List ℤ)
exchanged (x ∷ y ∷ rest) = y ∷ x ∷ rest
exchanged lists = lists

-- the second list becomes what `f` makes of the first
abbrev pub into_second : (List ℤ → List ℤ) → List (List ℤ) → List (List ℤ)
into_second f (x ∷ y ∷ rest) = x ∷ f x ∷ rest
into_second f lists = lists

abbrev pub results : Kernel → ℤ → List Shape → List (List ℤ) → List (List ℤ)
-- x' = k
results Fill k = into_one (λ s _. replicate (size_of s) k)
-- x' = x + k
results Addk k = into_one (λ _ x. map (λ a. wrapping_sum a k) x)
-- x' = x * k
results Scale k = into_one (λ _ x. map (λ a. wrapping_product a k) x)
-- x' = y
results Copy k = into_first (λ _ _ _ y. y)
-- X'(i, j) = Y(j, i)
results Copyt k = into_first (λ _ t _ y. transposed t y)
-- x' = x + y
results Add k = into_first (λ _ _ x y. zip_with wrapping_sum x y)
-- x' = x - y
results Sub k = into_first (λ _ _ x y. zip_with wrapping_difference x y)
-- x' = x * y
results Mul k = into_first (λ _ _ x y. zip_with wrapping_product x y)
-- x' = x + k * y
results Axpy k = into_first (λ _ _ x y. zip_with (λ a b. wrapped (a +ℤ k *ℤ b)) x y)
-- bit by bit
results Xor k = into_first (λ _ _ x y. zip_with (int_bit_xor w64) x y)
-- the lesser, and the greater
results Min k = into_first (λ _ _ x y. zip_with int_min x y)
results Max k = into_first (λ _ _ x y. zip_with int_max x y)
-- x' = 0 - x
results Neg k = into_one (λ _ x. map (λ a. wrapped (pos 0 -ℤ a)) x)
-- the last comes first
results Rev k = into_one (λ _ x. reverse x)
-- the element k places further on
results Rot k = into_one (λ _ x. rotated k x)
-- rising
results Sort k = into_one (λ _ x. rising x)
-- the sum up to each place
results Scan k = into_one (λ _ x. sums x)
-- the sum of y, which is 0 where there is none
results Sum k = into_first (λ _ _ _ y. wrapped (sum_below (length y) (element y)) ∷ [])
-- the sum of y * z
results Dot k = into_first_of_three (λ _ _ _ _ y z. wrapped (sum_below (length y) (λ i. element y i *ℤ element z i)) ∷ [])
-- x' = y and y' = x
results Swap k = λ _. exchanged
-- k, k + 1, and so on
results Iota k = into_one (λ s _. tabulate (size_of s) (λ i. wrapped (k +ℤ pos i)))
-- C'(i, j) = C(i, j) + sum over q of A(i, q) * B(q, j)
results Gemm k = into_first_of_three plus_product
-- y' = y + sum over q of A(i, q) * x_q
results Gemv k = into_first_of_three (λ _ t _ y a x. plus_column_product t y a x)
-- X'(i, j) = Y(i - 1, j) + Y(i + 1, j) + Y(i, j - 1) + Y(i, j + 1) - 4 * Y(i, j), with 0 outside Y
results Stencil5 k = into_first (λ _ t _ y. stencil t y)
-- x' = sum over j at most i of L(i, j) * x_j
results Trmv k = into_first (λ _ _ x l. triangle_product x l)
-- x' = x - sum over j below i of P(i, j) * x_j'
results TrsvUnit k = into_first (λ _ _ x p. solution x p)
-- each column as a solution
results TrsmUnit k = into_first (λ s _ x p. solutions s x p)
-- Q'(i, j) = P(j, i)
results Mirror k = λ _. into_second mirrored
-- L'(i, j) = L(i, j) + sum over q of A(i, q) * A(j, q)
results SyrkPacked k = into_first (λ _ t l a. plus_square t l a)

-- the kernels that go without packed triangles
abbrev pub IsPlain : Kernel → Type 0
IsPlain Trmv = ⊥
IsPlain TrsvUnit = ⊥
IsPlain TrsmUnit = ⊥
IsPlain Mirror = ⊥
IsPlain SyrkPacked = ⊥
IsPlain _ = Unit {0}
