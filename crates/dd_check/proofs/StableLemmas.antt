-- What a kernel takes is decided: it holds where it can't fail to.
use Rattle.std.proofs.Common.{◌≡◌, ◌≢◌, ℕ, zero, suc, ◌+◌, ◌*◌, ◌<◌, ◌≤◌, List, [], ◌∷◌, subst, ⊎_elim, arith}
use Rattle.std.specs.List.{AllZip}
use Rattle.std.proofs.lemmas.Bool.{cases_eq, cases_lt}
use Rattle.dd_kernels.specs.declared.kernel.Kernel.{Kernel}
use Rattle.dd_kernels.specs.declared.kernel.Kernel.TheVariants.{Fill, Addk, Scale, Copy, Copyt, Add, Sub, Mul, Axpy, Xor, Min, Max, Neg, Rev, Rot, Sort, Scan, Sum, Dot, Swap, Iota, Gemm, Gemv, Stencil5, Trmv, TrsvUnit, TrsmUnit, Mirror, SyrkPacked}
use Rattle.dd_kernels.specs.declared.shape.Shape.{Shape}
use Rattle.dd_kernels.specs.declared.signature.Mode.{Mode}
use Rattle.dd_kernels.specs.declared.signature.Mode.TheVariants.{Read, Write, Both}
use Rattle.dd_kernels.specs.Shapes.{AreSame, AreStrictTriangles, AreTransposed, IsSingle, IsStrictTriangle, IsTriangle, Multiply, OfOne, OfThree, OfTwo, ShapesFit}
use Rattle.dd_kernels.proofs.ShapesLemmas.{order_from_root}
use Rattle.dd_blocks.specs.Tasks.{MayBe}

abbrev pub IsStable : Type 0 → Type 0
IsStable A = ((A → ⊥) → ⊥) → A

always : IsStable (Unit {0})
always h = tt

never : IsStable ⊥
never h = h (λ x. x)

equal : (a b : ℕ) → IsStable (a ≡ b)
equal a b h = ⊎_elim (λ (same : a ≡ b). same) (λ (other : a ≢ b). absurd (h other)) (cases_eq a b)

below : (a b : ℕ) → IsStable (a < b)
below a b h = ⊎_elim (λ (lt : a < b). lt) (λ (ge : b ≤ a). absurd (h (λ lt. absurd (omega arith)))) (cases_lt a b)

both : {A B : Type 0} → IsStable A → IsStable B → IsStable (A × B)
both a b h = (a (λ no_a. h (λ p. no_a p.0)), b (λ no_b. h (λ p. no_b p.1)))

three : {A B C : Type 0} → IsStable A → IsStable B → IsStable C → IsStable (A × B × C)
three a b c h = (a (λ no_a. h (λ p. no_a p.0)), b (λ no_b. h (λ p. no_b p.1)), c (λ no_c. h (λ p. no_c p.2)))

of_one : (F : Shape → Type 0) → ((x : Shape) → IsStable (F x)) → (shapes : List Shape) → IsStable (OfOne F shapes)
of_one F each [] = never
of_one F each (x ∷ []) = each x
of_one F each (x ∷ y ∷ rest) = never

of_two : (F : Shape → Shape → Type 0) → ((x y : Shape) → IsStable (F x y)) → (shapes : List Shape) → IsStable (OfTwo F shapes)
of_two F each [] = never
of_two F each (x ∷ []) = never
of_two F each (x ∷ y ∷ []) = each x y
of_two F each (x ∷ y ∷ z ∷ rest) = never

of_three : (F : Shape → Shape → Shape → Type 0) → ((x y z : Shape) → IsStable (F x y z)) → (shapes : List Shape) → IsStable (OfThree F shapes)
of_three F each [] = never
of_three F each (x ∷ []) = never
of_three F each (x ∷ y ∷ []) = never
of_three F each (x ∷ y ∷ z ∷ []) = each x y z
of_three F each (x ∷ y ∷ z ∷ w ∷ rest) = never

same_stable : (x y : Shape) → IsStable (AreSame x y)
same_stable x y = both (equal x.rows y.rows) (equal x.cols y.cols)

single_stable : (x : Shape) → IsStable (IsSingle x)
single_stable x = both (equal x.rows 1) (equal x.cols 1)

multiply_stable : (x y z : Shape) → IsStable (Multiply x y z)
multiply_stable x y z = three (equal x.rows y.rows) (equal y.cols z.rows) (equal x.cols z.cols)

triangle_stable : (n : ℕ) (s : Shape) → IsStable (IsTriangle n s)
triangle_stable n s = both (equal (2 * s.rows) (n * (n + 1))) (equal s.cols 1)

strict_stable : (n : ℕ) (s : Shape) → IsStable (IsStrictTriangle n s)
strict_stable n s = both (equal (2 * s.rows + n) (n * n)) (equal s.cols 1)

-- the root of a number, rounded down
root : (t : ℕ) → (r : ℕ) × (r * r ≤ t) × (t < (r + 1) * (r + 1))
root zero = (0, omega arith, omega arith)
root (suc t) =
    let r : (r : ℕ) × (r * r ≤ t) × (t < (r + 1) * (r + 1)) = root t in
    ⊎_elim
    (λ (lt : suc t < (r.0 + 1) * (r.0 + 1)). (r.0, omega (arith, r.1), lt))
    (λ (ge : (r.0 + 1) * (r.0 + 1) ≤ suc t). (r.0 + 1, ge, omega (arith, r.2)))
    (cases_lt (suc t) ((r.0 + 1) * (r.0 + 1)))

triangles_stable : (x y : Shape) → IsStable (AreStrictTriangles x y)
triangles_stable x y h =
    let r : (r : ℕ) × (r * r ≤ 2 * x.rows) × (2 * x.rows < (r + 1) * (r + 1)) = root (2 * x.rows) in
    let order : AreStrictTriangles x y → (0 < r.0 + 1) × IsStrictTriangle (r.0 + 1) x × IsStrictTriangle (r.0 + 1) y = λ t.
    let is : t.0 ≡ r.0 + 1 = order_from_root t.0 (2 * x.rows) r.0 t.1 t.2.0 r.1 r.2 in
    subst (λ (n : ℕ). (0 < n) × IsStrictTriangle n x × IsStrictTriangle n y) is (t.1, t.2, t.3) in
    let found : (0 < r.0 + 1) × IsStrictTriangle (r.0 + 1) x × IsStrictTriangle (r.0 + 1) y = three (below 0 (r.0 + 1)) (strict_stable (r.0 + 1) x) (strict_stable (r.0 + 1) y) (λ none. h (λ t. none (order t))) in
    (r.0 + 1, found.0, found.1, found.2)

pub shapes_stable : (k : Kernel) (shapes : List Shape) → IsStable (ShapesFit k shapes)
shapes_stable Fill = of_one (λ x. Unit {0}) (λ x. always)
shapes_stable Addk = of_one (λ x. Unit {0}) (λ x. always)
shapes_stable Scale = of_one (λ x. Unit {0}) (λ x. always)
shapes_stable Copy = of_two AreSame same_stable
shapes_stable Copyt = of_two AreTransposed (λ x y. both (equal x.rows y.cols) (equal x.cols y.rows))
shapes_stable Add = of_two AreSame same_stable
shapes_stable Sub = of_two AreSame same_stable
shapes_stable Mul = of_two AreSame same_stable
shapes_stable Axpy = of_two AreSame same_stable
shapes_stable Xor = of_two AreSame same_stable
shapes_stable Min = of_two AreSame same_stable
shapes_stable Max = of_two AreSame same_stable
shapes_stable Neg = of_one (λ x. Unit {0}) (λ x. always)
shapes_stable Rev = of_one (λ x. Unit {0}) (λ x. always)
shapes_stable Rot = of_one (λ x. Unit {0}) (λ x. always)
shapes_stable Sort = of_one (λ x. Unit {0}) (λ x. always)
shapes_stable Scan = of_one (λ x. Unit {0}) (λ x. always)
shapes_stable Sum = of_two (λ x y. IsSingle x) (λ x y. single_stable x)
shapes_stable Dot = of_three (λ x y z. IsSingle x × AreSame y z) (λ x y z. both (single_stable x) (same_stable y z))
shapes_stable Swap = of_two AreSame same_stable
shapes_stable Iota = of_one (λ x. Unit {0}) (λ x. always)
shapes_stable Gemm = of_three Multiply multiply_stable
shapes_stable Gemv = of_three (λ x y z. Multiply x y z × (x.cols ≡ 1)) (λ x y z. both (multiply_stable x y z) (equal x.cols 1))
shapes_stable Stencil5 = of_two AreSame same_stable
shapes_stable Trmv = of_two (λ x y. (x.cols ≡ 1) × IsTriangle x.rows y) (λ x y. both (equal x.cols 1) (triangle_stable x.rows y))
shapes_stable TrsvUnit = of_two (λ x y. (x.cols ≡ 1) × IsStrictTriangle x.rows y) (λ x y. both (equal x.cols 1) (strict_stable x.rows y))
shapes_stable TrsmUnit = of_two (λ x y. IsStrictTriangle x.rows y) (λ x y. strict_stable x.rows y)
shapes_stable Mirror = of_two AreStrictTriangles triangles_stable
shapes_stable SyrkPacked = of_two (λ x y. IsTriangle y.rows x) (λ x y. triangle_stable y.rows x)

may_be_stable : (want have : Mode) → IsStable (MayBe want have)
may_be_stable Read Read = always
may_be_stable Read Write = never
may_be_stable Read Both = never
may_be_stable Write Read = never
may_be_stable Write Write = always
may_be_stable Write Both = always
may_be_stable Both Read = never
may_be_stable Both Write = never
may_be_stable Both Both = always

pub modes_stable : (wanted given : List Mode) → IsStable (AllZip MayBe wanted given)
modes_stable [] [] = always
modes_stable [] (y ∷ ys) = never
modes_stable (x ∷ xs) [] = never
modes_stable (x ∷ xs) (y ∷ ys) = both (may_be_stable x y) (modes_stable xs ys)
