-- Shapes, and which shapes the accesses of a kernel have.
use Rattle.std.specs.Prelude.{◌≡◌, ℕ, ◌+◌, ◌*◌, ◌<◌, ℤ, List, [], ◌∷◌, length}
use Rattle.dd_kernels.specs.declared.kernel.Kernel.{Kernel}
use Rattle.dd_kernels.specs.declared.kernel.Kernel.TheVariants.{Fill, Addk, Scale, Copy, Copyt, Add, Sub, Mul, Axpy, Xor, Min, Max, Neg, Rev, Rot, Sort, Scan, Sum, Dot, Swap, Iota, Gemm, Gemv, Stencil5, Trmv, TrsvUnit, TrsmUnit, Mirror, SyrkPacked}
use Rattle.dd_kernels.specs.declared.shape.Shape.{Shape}

-- how many elements a shape has
abbrev pub size_of : Shape → ℕ
size_of s = s.rows * s.cols

-- a place of its own, for one number
abbrev pub IsSingle : Shape → Type 0
IsSingle s = (s.rows ≡ 1) × (s.cols ≡ 1)

-- equal rows and columns
abbrev pub AreSame : Shape → Shape → Type 0
AreSame x y = (x.rows ≡ y.rows) × (x.cols ≡ y.cols)

-- the rows of one are the columns of the other
abbrev pub AreTransposed : Shape → Shape → Type 0
AreTransposed x y = (x.rows ≡ y.cols) × (x.cols ≡ y.rows)

-- m by n, m by p and p by n
abbrev pub Multiply : Shape → Shape → Shape → Type 0
Multiply c a b = (c.rows ≡ a.rows) × (a.cols ≡ b.rows) × (c.cols ≡ b.cols)

-- one column of n (n + 1) / 2 elements: a packed triangle of order n with its diagonal
abbrev pub IsTriangle : ℕ → Shape → Type 0
IsTriangle n s = (2 * s.rows ≡ n * (n + 1)) × (s.cols ≡ 1)

-- one column of n (n - 1) / 2 elements: a packed triangle of order n without its diagonal
abbrev pub IsStrictTriangle : ℕ → Shape → Type 0
IsStrictTriangle n s = (2 * s.rows + n ≡ n * n) × (s.cols ≡ 1)

-- two strict triangles of one order, which is at least 1
abbrev pub AreStrictTriangles : Shape → Shape → Type 0
AreStrictTriangles x y = (n : ℕ) × (0 < n) × IsStrictTriangle n x × IsStrictTriangle n y

-- what is asked of the one shape, of the two, and of the three, where there are so many
abbrev pub OfOne : (Shape → Type 0) → List Shape → Type 0
OfOne F (x ∷ []) = F x
OfOne F _ = ⊥

abbrev pub OfTwo : (Shape → Shape → Type 0) → List Shape → Type 0
OfTwo F (x ∷ y ∷ []) = F x y
OfTwo F _ = ⊥

abbrev pub OfThree : (Shape → Shape → Shape → Type 0) → List Shape → Type 0
OfThree F (x ∷ y ∷ z ∷ []) = F x y z
OfThree F _ = ⊥

-- the shapes that a kernel's accesses may have
abbrev pub ShapesFit : Kernel → List Shape → Type 0
ShapesFit Fill = OfOne (λ x. Unit {0})
ShapesFit Addk = OfOne (λ x. Unit {0})
ShapesFit Scale = OfOne (λ x. Unit {0})
ShapesFit Copy = OfTwo AreSame
ShapesFit Copyt = OfTwo AreTransposed
ShapesFit Add = OfTwo AreSame
ShapesFit Sub = OfTwo AreSame
ShapesFit Mul = OfTwo AreSame
ShapesFit Axpy = OfTwo AreSame
ShapesFit Xor = OfTwo AreSame
ShapesFit Min = OfTwo AreSame
ShapesFit Max = OfTwo AreSame
ShapesFit Neg = OfOne (λ x. Unit {0})
ShapesFit Rev = OfOne (λ x. Unit {0})
ShapesFit Rot = OfOne (λ x. Unit {0})
ShapesFit Sort = OfOne (λ x. Unit {0})
ShapesFit Scan = OfOne (λ x. Unit {0})
ShapesFit Sum = OfTwo (λ x y. IsSingle x)
ShapesFit Dot = OfThree (λ x y z. IsSingle x × AreSame y z)
ShapesFit Swap = OfTwo AreSame
ShapesFit Iota = OfOne (λ x. Unit {0})
ShapesFit Gemm = OfThree Multiply
ShapesFit Gemv = OfThree (λ x y z. Multiply x y z × (x.cols ≡ 1))
ShapesFit Stencil5 = OfTwo AreSame
ShapesFit Trmv = OfTwo (λ x y. (x.cols ≡ 1) × IsTriangle x.rows y)
ShapesFit TrsvUnit = OfTwo (λ x y. (x.cols ≡ 1) × IsStrictTriangle x.rows y)
ShapesFit TrsmUnit = OfTwo (λ x y. IsStrictTriangle x.rows y)
ShapesFit Mirror = OfTwo AreStrictTriangles
ShapesFit SyrkPacked = OfTwo (λ x y. IsTriangle y.rows x)

-- each list has the length of its shape
abbrev pub HaveShapes : List Shape → List (List ℤ) → Type 0
HaveShapes [] [] = Unit {0}
HaveShapes [] (x ∷ xs) = ⊥
HaveShapes (s ∷ ss) [] = ⊥
HaveShapes (s ∷ ss) (x ∷ xs) = (length x ≡ size_of s) × HaveShapes ss xs
