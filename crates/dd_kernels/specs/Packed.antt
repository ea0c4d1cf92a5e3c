-- Packed triangles of a matrix of order n: their places as pairs of row and column, from 0, column by
-- column and within a column by row.
use Rattle.std.specs.Prelude.{ℕ, suc, zero, ◌+◌, ◌-◌, ◌*◌, ◌==◌, ◌&&◌, nat_le, if◌then◌else◌, ℤ, pos, ◌+ℤ◌, ◌-ℤ◌, ◌*ℤ◌, List, [], ◌∷◌, ◌++◌, map, length, count_by}
use Rattle.std.specs.List.{flat_map, range_with_len}
use Rattle.dd_kernels.specs.declared.shape.Shape.{Shape}
use Rattle.dd_kernels.specs.Lists.{wrapped, element, tabulate, sum_below}
use Rattle.dd_kernels.specs.Matrices.{entry, matrix}

-- the pairs (i, j) with i at least j, those with i above j, and those with i below j
abbrev pub lower_pairs : ℕ → List (ℕ × ℕ)
lower_pairs n = flat_map (λ j. map (λ i. (i, j)) (range_with_len j (n - j))) (range_with_len 0 n)

abbrev pub strictly_lower_pairs : ℕ → List (ℕ × ℕ)
strictly_lower_pairs n = flat_map (λ j. map (λ i. (i, j)) (range_with_len (j + 1) (n - (j + 1)))) (range_with_len 0 n)

abbrev pub strictly_upper_pairs : ℕ → List (ℕ × ℕ)
strictly_upper_pairs n = flat_map (λ j. map (λ i. (i, j)) (range_with_len 0 j)) (range_with_len 0 n)

-- the element that a packed list has for row i of column j
abbrev pub packed : List (ℕ × ℕ) → List ℤ → ℕ → ℕ → ℤ
packed [] xs i j = pos 0
packed (p ∷ ps) [] i j = pos 0
packed (p ∷ ps) (x ∷ xs) i j = if (p.0 == i) && (p.1 == j) then x else packed ps xs i j

-- the order n, of at least 1, of a triangle of n (n - 1) / 2 elements: the only one, as a law says
abbrev pub strict_order : ℕ → ℕ
strict_order len = 1 + count_by (λ k. nat_le ((k + 1) * (k + 2)) (2 * len)) (range_with_len 0 len)

-- x_i' = sum over j at most i of L(i, j) * x_j
abbrev pub triangle_product : List ℤ → List ℤ → List ℤ
triangle_product x l = tabulate (length x) (λ i. wrapped (sum_below (i + 1) (λ j. packed (lower_pairs (length x)) l i j *ℤ element x j)))

-- the first i elements of a solution: x_i' = x_i - sum over j below i of P(i, j) * x_j'
abbrev pub solved : (ℕ → ℕ → ℤ) → (ℕ → ℤ) → ℕ → List ℤ
solved p x zero = []
solved p x (suc i) = solved p x i ++ wrapped (x i -ℤ sum_below i (λ j. p i j *ℤ element (solved p x i) j)) ∷ []

abbrev pub solution : List ℤ → List ℤ → List ℤ
solution x p = solved (packed (strictly_lower_pairs (length x)) p) (element x) (length x)

-- each column of X as a solution
abbrev pub solutions : Shape → List ℤ → List ℤ → List ℤ
solutions s x p = matrix s.rows s.cols (λ i j. element (solved (packed (strictly_lower_pairs s.rows) p) (λ r. entry s x r j) s.rows) i)

-- Q'(i, j) = P(j, i)
abbrev pub mirrored : List ℤ → List ℤ
mirrored p =
    let n = strict_order (length p) in
    map (λ at. packed (strictly_lower_pairs n) p at.1 at.0) (strictly_upper_pairs n)

-- L'(i, j) = L(i, j) + sum over q of A(i, q) * A(j, q)
abbrev pub plus_square : Shape → List ℤ → List ℤ → List ℤ
plus_square s l a =
    map (λ at. wrapped (packed (lower_pairs s.rows) l at.0 at.1 +ℤ sum_below s.cols (λ q. entry s a at.0 q *ℤ entry s a at.1 q))) (lower_pairs s.rows)
