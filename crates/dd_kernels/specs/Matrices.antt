-- Lists as matrices: one column after another, rows and columns counted from 0.
use Rattle.std.specs.Prelude.{ℕ, suc, zero, ◌+◌, ◌-◌, ◌*◌, nat_lt, nat_le, ◌&&◌, if◌then◌else◌, ℤ, pos, ◌+ℤ◌, ◌-ℤ◌, ◌*ℤ◌, List, [], ◌++◌, length}
use Rattle.dd_kernels.specs.declared.shape.Shape.{Shape}
use Rattle.dd_kernels.specs.Lists.{wrapped, element, tabulate, sum_below}

-- the element in row i of column j
abbrev pub entry : Shape → List ℤ → ℕ → ℕ → ℤ
entry s xs i j = element xs (j * s.rows + i)

-- the matrix that has f i j in row i of column j
abbrev pub matrix : ℕ → ℕ → (ℕ → ℕ → ℤ) → List ℤ
matrix rows zero f = []
matrix rows (suc cols) f = matrix rows cols f ++ tabulate rows (λ i. f i cols)

-- rows as columns
abbrev pub transposed : Shape → List ℤ → List ℤ
transposed s xs = matrix s.cols s.rows (λ i j. entry s xs j i)

-- a matrix with the product of two others added
abbrev pub plus_product : Shape → Shape → Shape → List ℤ → List ℤ → List ℤ → List ℤ
plus_product sc sa sb c a b = matrix sc.rows sc.cols (λ i j. wrapped (entry sc c i j +ℤ sum_below sa.cols (λ q. entry sa a i q *ℤ entry sb b q j)))

-- a column with the product of a matrix and another column added
abbrev pub plus_column_product : Shape → List ℤ → List ℤ → List ℤ → List ℤ
plus_column_product sa y a x = tabulate (length y) (λ i. wrapped (element y i +ℤ sum_below sa.cols (λ q. entry sa a i q *ℤ element x q)))

-- rows and columns counted from 1, with zeros all round
abbrev pub bordered : Shape → List ℤ → ℕ → ℕ → ℤ
bordered s xs i j = if nat_lt 0 i && nat_le i s.rows && nat_lt 0 j && nat_le j s.cols then entry s xs (i - 1) (j - 1) else pos 0

-- the sum of a place's neighbours, less four times itself
abbrev pub weighed : ℤ → ℤ → ℤ → ℤ → ℤ → ℤ
weighed above below left right here = wrapped ((((above +ℤ below) +ℤ left) +ℤ right) -ℤ (pos 4 *ℤ here))

-- each place gets the sum of its four neighbours, less four times itself
abbrev pub stencil : Shape → List ℤ → List ℤ
stencil s y = matrix s.rows s.cols (λ i j. weighed (bordered s y i (j + 1)) (bordered s y (i + 2) (j + 1)) (bordered s y (i + 1) j) (bordered s y (i + 1) (j + 2)) (bordered s y (i + 1) (j + 1)))

-- the element before a place, 0 before the first
abbrev pub element_before : List ℤ → ℕ → ℤ
element_before xs zero = pos 0
element_before xs (suc i) = element xs i

-- that sum at a place of a column between two others; a column that isn't there is empty
abbrev pub cross : List ℤ → List ℤ → List ℤ → ℕ → ℤ
cross left here right i = weighed (element_before here i) (element here (i + 1)) (element left i) (element right i) (element here i)
