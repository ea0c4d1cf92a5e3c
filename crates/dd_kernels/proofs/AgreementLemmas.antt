-- Lists that agree where a kernel reads them, by the number of its accesses.
use Rattle.std.proofs.Common.{◌≡◌, ℤ, List, [], ◌∷◌, refl, ap, ◌∙◌}
use Rattle.dd_kernels.specs.declared.kernel.Kernel.{Kernel}
use Rattle.dd_kernels.specs.declared.kernel.Kernel.TheVariants.{Fill, Addk, Scale, Copy, Copyt, Neg, Rev, Rot, Sort, Scan, Sum, Dot, Swap, Iota, Gemm, Gemv, Stencil5, Mirror}
use Rattle.dd_kernels.specs.declared.shape.Shape.{Shape}
use Rattle.dd_kernels.specs.declared.signature.Mode.{Mode}
use Rattle.dd_kernels.specs.declared.signature.Mode.TheVariants.{Read, Write, Both}
use Rattle.dd_kernels.specs.Agreement.{AtEach, SameIfRead, AgreeWhereRead, AgreeWhereOnlyRead}
use Rattle.dd_kernels.specs.Shapes.{OfOne, OfTwo, OfThree, ShapesFit, HaveShapes}
use Rattle.dd_kernels.specs.Signatures.{modes_of}
use Rattle.dd_kernels.specs.Table.{results, into_one, into_first, into_first_of_three, into_second}
use Rattle.dd_kernels.proofs.ListsLemmas.{ap2}

-- each access is read
abbrev AllRead : List Mode → Type 0
AllRead [] = Unit {0}
AllRead (Write ∷ ms) = ⊥
AllRead (Read ∷ ms) = AllRead ms
AllRead (Both ∷ ms) = AllRead ms

same : (ms : List Mode) (xs ys : List (List ℤ)) → AllRead ms → AtEach SameIfRead ms xs ys → xs ≡ ys
same [] [] [] read agree = refl
same [] [] (y ∷ ys) read agree = absurd agree
same [] (x ∷ xs) ys read agree = absurd agree
same (m ∷ ms) [] ys read agree = absurd agree
same (m ∷ ms) (x ∷ xs) [] read agree = absurd agree
same (Write ∷ ms) (x ∷ xs) (y ∷ ys) read agree = absurd read
same (Read ∷ ms) (x ∷ xs) (y ∷ ys) read agree = ap2 ◌∷◌ agree.0 (same ms xs ys read agree.1)
same (Both ∷ ms) (x ∷ xs) (y ∷ ys) read agree = ap2 ◌∷◌ agree.0 (same ms xs ys read agree.1)

-- the first list is only written, and those behind it are the same
behind : (f : List (List ℤ) → List (List ℤ)) (ms : List Mode) (xs ys : List (List ℤ)) → AllRead ms → AtEach SameIfRead (Write ∷ ms) xs ys → ((x y : List ℤ) (rest : List (List ℤ)) → AtEach SameIfRead ms rest rest → f (x ∷ rest) ≡ f (y ∷ rest)) → f xs ≡ f ys
behind f ms [] ys read agree free = absurd agree
behind f ms (x ∷ xs) [] read agree free = absurd agree
behind f ms (x ∷ xs) (y ∷ ys) read agree free =
    let is = same ms xs ys read agree.1 in
    ap (λ (rest : List (List ℤ)). f (x ∷ rest)) is ∙ free x y ys (rw is at agree.1)

written_one : (g : Shape → List ℤ) (F : Shape → Type 0) (shapes : List Shape) (xs ys : List (List ℤ)) → OfOne F shapes → AtEach SameIfRead (Write ∷ []) xs ys → into_one (λ s _. g s) shapes xs ≡ into_one (λ s _. g s) shapes ys
written_one g F [] xs ys fit agree = absurd fit
written_one g F (s ∷ []) xs ys fit agree =
    behind (into_one (λ s _. g s) (s ∷ [])) [] xs ys tt agree (λ x y rest _. refl)
written_one g F (s ∷ t ∷ ss) xs ys fit agree = absurd fit

first_free : (g : Shape → Shape → List ℤ → List ℤ) (s t : Shape) (x y : List ℤ) (rest : List (List ℤ)) → AtEach SameIfRead (Read ∷ []) rest rest → into_first (λ s t _ z. g s t z) (s ∷ t ∷ []) (x ∷ rest) ≡ into_first (λ s t _ z. g s t z) (s ∷ t ∷ []) (y ∷ rest)
first_free g s t x y [] some = absurd some
first_free g s t x y (z ∷ rest) some = refl

written_first : (g : Shape → Shape → List ℤ → List ℤ) (F : Shape → Shape → Type 0) (shapes : List Shape) (xs ys : List (List ℤ)) → OfTwo F shapes → AtEach SameIfRead (Write ∷ Read ∷ []) xs ys → into_first (λ s t _ z. g s t z) shapes xs ≡ into_first (λ s t _ z. g s t z) shapes ys
written_first g F [] xs ys fit agree = absurd fit
written_first g F (s ∷ []) xs ys fit agree = absurd fit
written_first g F (s ∷ t ∷ []) xs ys fit agree =
    behind (into_first (λ s t _ z. g s t z) (s ∷ t ∷ [])) (Read ∷ []) xs ys tt agree (first_free g s t)
written_first g F (s ∷ t ∷ u ∷ ss) xs ys fit agree = absurd fit

first_of_three_free : (g : List ℤ → List ℤ → List ℤ) (s t u : Shape) (x y : List ℤ) (rest : List (List ℤ)) → AtEach SameIfRead (Read ∷ Read ∷ []) rest rest → into_first_of_three (λ _ _ _ _ v w. g v w) (s ∷ t ∷ u ∷ []) (x ∷ rest) ≡ into_first_of_three (λ _ _ _ _ v w. g v w) (s ∷ t ∷ u ∷ []) (y ∷ rest)
first_of_three_free g s t u x y [] some = absurd some
first_of_three_free g s t u x y (v ∷ []) some = absurd some.1
first_of_three_free g s t u x y (v ∷ w ∷ rest) some = refl

written_first_of_three : (g : List ℤ → List ℤ → List ℤ) (F : Shape → Shape → Shape → Type 0) (shapes : List Shape) (xs ys : List (List ℤ)) → OfThree F shapes → AtEach SameIfRead (Write ∷ Read ∷ Read ∷ []) xs ys → into_first_of_three (λ _ _ _ _ v w. g v w) shapes xs ≡ into_first_of_three (λ _ _ _ _ v w. g v w) shapes ys
written_first_of_three g F [] xs ys fit agree = absurd fit
written_first_of_three g F (s ∷ []) xs ys fit agree = absurd fit
written_first_of_three g F (s ∷ t ∷ []) xs ys fit agree = absurd fit
written_first_of_three g F (s ∷ t ∷ u ∷ []) xs ys fit agree =
    behind (into_first_of_three (λ _ _ _ _ v w. g v w) (s ∷ t ∷ u ∷ [])) (Read ∷ Read ∷ []) xs ys tt agree (first_of_three_free g s t u)
written_first_of_three g F (s ∷ t ∷ u ∷ v ∷ ss) xs ys fit agree = absurd fit

written_second : (f : List ℤ → List ℤ) (xs ys : List (List ℤ)) → AtEach SameIfRead (Read ∷ Write ∷ []) xs ys → into_second f xs ≡ into_second f ys
written_second f [] ys agree = absurd agree
written_second f (x ∷ xs) [] agree = absurd agree
written_second f (x ∷ xs) (y ∷ ys) agree =
    behind (λ rest. into_second f (x ∷ rest)) [] xs ys tt agree.1 (λ v w rest _. refl) ∙ ap (λ (z : List ℤ). into_second f (z ∷ ys)) agree.0

-- the results are the same, whatever stands in a list that is only written
pub written_free : (k : Kernel) (scalar : ℤ) (shapes : List Shape) (xs ys : List (List ℤ)) → ShapesFit k shapes → AgreeWhereRead k xs ys → results k scalar shapes xs ≡ results k scalar shapes ys
written_free Fill scalar shapes xs ys fit agree = written_one _ _ shapes xs ys fit agree
written_free Iota scalar shapes xs ys fit agree = written_one _ _ shapes xs ys fit agree
written_free Copy scalar shapes xs ys fit agree = written_first _ _ shapes xs ys fit agree
written_free Copyt scalar shapes xs ys fit agree = written_first _ _ shapes xs ys fit agree
written_free Sum scalar shapes xs ys fit agree = written_first _ _ shapes xs ys fit agree
written_free Stencil5 scalar shapes xs ys fit agree = written_first _ _ shapes xs ys fit agree
written_free Dot scalar shapes xs ys fit agree = written_first_of_three _ _ shapes xs ys fit agree
written_free Mirror scalar shapes xs ys fit agree = written_second _ xs ys agree
written_free k scalar shapes xs ys fit agree = ap (results k scalar shapes) (same (modes_of k) xs ys tt agree)

-- what holds of one shape and one list, of two, and of three, holds of shapes that fit and their lists
of_one : (P : List Shape → List (List ℤ) → Type 0) (F : Shape → Type 0) (shapes : List Shape) (xs : List (List ℤ)) → OfOne F shapes → HaveShapes shapes xs → ((s : Shape) (x : List ℤ) → P (s ∷ []) (x ∷ [])) → P shapes xs
of_one P F [] xs fit have each = absurd fit
of_one P F (s ∷ []) [] fit have each = absurd have
of_one P F (s ∷ []) (x ∷ []) fit have each = each s x
of_one P F (s ∷ []) (x ∷ y ∷ xs) fit have each = absurd have.1
of_one P F (s ∷ t ∷ ss) xs fit have each = absurd fit

of_two : (P : List Shape → List (List ℤ) → Type 0) (F : Shape → Shape → Type 0) (shapes : List Shape) (xs : List (List ℤ)) → OfTwo F shapes → HaveShapes shapes xs → ((s t : Shape) (x y : List ℤ) → P (s ∷ t ∷ []) (x ∷ y ∷ [])) → P shapes xs
of_two P F [] xs fit have each = absurd fit
of_two P F (s ∷ []) xs fit have each = absurd fit
of_two P F (s ∷ t ∷ []) [] fit have each = absurd have
of_two P F (s ∷ t ∷ []) (x ∷ []) fit have each = absurd have.1
of_two P F (s ∷ t ∷ []) (x ∷ y ∷ []) fit have each = each s t x y
of_two P F (s ∷ t ∷ []) (x ∷ y ∷ z ∷ xs) fit have each = absurd have.1.1
of_two P F (s ∷ t ∷ u ∷ ss) xs fit have each = absurd fit

of_three : (P : List Shape → List (List ℤ) → Type 0) (F : Shape → Shape → Shape → Type 0) (shapes : List Shape) (xs : List (List ℤ)) → OfThree F shapes → HaveShapes shapes xs → ((s t u : Shape) (x y z : List ℤ) → P (s ∷ t ∷ u ∷ []) (x ∷ y ∷ z ∷ [])) → P shapes xs
of_three P F [] xs fit have each = absurd fit
of_three P F (s ∷ []) xs fit have each = absurd fit
of_three P F (s ∷ t ∷ []) xs fit have each = absurd fit
of_three P F (s ∷ t ∷ u ∷ []) [] fit have each = absurd have
of_three P F (s ∷ t ∷ u ∷ []) (x ∷ []) fit have each = absurd have.1
of_three P F (s ∷ t ∷ u ∷ []) (x ∷ y ∷ []) fit have each = absurd have.1.1
of_three P F (s ∷ t ∷ u ∷ []) (x ∷ y ∷ z ∷ []) fit have each = each s t u x y z
of_three P F (s ∷ t ∷ u ∷ []) (x ∷ y ∷ z ∷ w ∷ xs) fit have each = absurd have.1.1.1
of_three P F (s ∷ t ∷ u ∷ v ∷ ss) xs fit have each = absurd fit

-- the results have what is only read as it was given
abbrev Stays : Kernel → ℤ → List Shape → List (List ℤ) → Type 0
Stays k scalar shapes xs = AgreeWhereOnlyRead k xs (results k scalar shapes xs)

pub read_stays : (k : Kernel) (scalar : ℤ) (shapes : List Shape) (xs : List (List ℤ)) → ShapesFit k shapes → HaveShapes shapes xs → AgreeWhereOnlyRead k xs (results k scalar shapes xs)
read_stays Fill scalar shapes xs fit have = of_one (Stays Fill scalar) _ shapes xs fit have (λ s x. (tt, tt))
read_stays Addk scalar shapes xs fit have = of_one (Stays Addk scalar) _ shapes xs fit have (λ s x. (tt, tt))
read_stays Scale scalar shapes xs fit have = of_one (Stays Scale scalar) _ shapes xs fit have (λ s x. (tt, tt))
read_stays Neg scalar shapes xs fit have = of_one (Stays Neg scalar) _ shapes xs fit have (λ s x. (tt, tt))
read_stays Rev scalar shapes xs fit have = of_one (Stays Rev scalar) _ shapes xs fit have (λ s x. (tt, tt))
read_stays Rot scalar shapes xs fit have = of_one (Stays Rot scalar) _ shapes xs fit have (λ s x. (tt, tt))
read_stays Sort scalar shapes xs fit have = of_one (Stays Sort scalar) _ shapes xs fit have (λ s x. (tt, tt))
read_stays Scan scalar shapes xs fit have = of_one (Stays Scan scalar) _ shapes xs fit have (λ s x. (tt, tt))
read_stays Iota scalar shapes xs fit have = of_one (Stays Iota scalar) _ shapes xs fit have (λ s x. (tt, tt))
read_stays Swap scalar shapes xs fit have = of_two (Stays Swap scalar) _ shapes xs fit have (λ s t x y. (tt, (tt, tt)))
read_stays Mirror scalar shapes xs fit have = of_two (Stays Mirror scalar) _ shapes xs fit have (λ s t x y. (refl, (tt, tt)))
read_stays Dot scalar shapes xs fit have = of_three (Stays Dot scalar) _ shapes xs fit have (λ s t u x y z. (tt, (refl, (refl, tt))))
read_stays Gemm scalar shapes xs fit have = of_three (Stays Gemm scalar) _ shapes xs fit have (λ s t u x y z. (tt, (refl, (refl, tt))))
read_stays Gemv scalar shapes xs fit have = of_three (Stays Gemv scalar) _ shapes xs fit have (λ s t u x y z. (tt, (refl, (refl, tt))))
read_stays k scalar shapes xs fit have = of_two (Stays k scalar) _ shapes xs fit have (λ s t x y. (tt, (refl, tt)))
