-- The pieces of a task say one list of accesses.
use Rattle.std.proofs.Common.{◌≡◌, ℕ, zero, suc, ℤ, pos, List, [], ◌∷◌, Option, refl, sym, subst, ◌∙◌, ⊎_elim, arith, length, lit≤, ◌≤◌}
use Rattle.std.proofs.lemmas.Bool.{cases_lt}
use Rattle.std.proofs.lemmas.Option.{same_Some}
use Rattle.std.proofs.lemmas.Slice.Zip.{AllZip-long}
use Rattle.dd_kernels.specs.declared.kernel.Kernel.{Kernel}
use Rattle.dd_kernels.specs.declared.kernel.Kernel.TheVariants.{Fill, Addk, Scale, Copy, Copyt, Add, Sub, Mul, Axpy, Xor, Min, Max, Neg, Rev, Rot, Sort, Scan, Sum, Dot, Swap, Iota, Gemm, Gemv, Stencil5, Trmv, TrsvUnit, TrsmUnit, Mirror, SyrkPacked}
use Rattle.dd_kernels.specs.Names.{name_of}
use Rattle.dd_kernels.specs.Shapes.{ShapesFit}
use Rattle.dd_kernels.specs.Signatures.{modes_of}
use Rattle.dd_kernels.proofs.NamesLemmas.{one_name}
use Rattle.dd_views.specs.declared.bounds.Bounds.{Bounds}
use Rattle.dd_views.specs.declared.part.Part.{Part}
use Rattle.dd_views.specs.declared.range.Range.{Range}
use Rattle.dd_views.specs.declared.shape.Shape.{Shape}
use Rattle.dd_views.specs.declared.span3.Span3.{Span3}
use Rattle.dd_views.specs.declared.view.View.{View}
use Rattle.dd_views.specs.Progression.{ListsCount}
use Rattle.dd_views.specs.Span.{IsKeptAs, IsSpanOf}
use Rattle.dd_views.specs.Views.{Shows}
use Rattle.dd_blocks.specs.declared.access_row.AccessRow.{AccessRow}
use Rattle.dd_blocks.specs.Tasks.{shapes_in}
use Rattle.dd_script.specs.declared.piece.Piece.{Piece}
use Rattle.dd_script.specs.declared.statement.Statement.TheVariants.{Task}
use Rattle.dd_check.specs.Above.{Above}
use Rattle.dd_check.specs.Kinds.{HasMismatch}
use Rattle.dd_check.specs.Rows.{AreAccesses, IsAccess}

one_count : (b : Bounds) (m n : ℕ) → ListsCount b m → ListsCount b n → m ≡ n
one_count b m n p q =
    ⊎_elim (λ lt. absurd (q.listed m lt p.ended))
    (λ le. ⊎_elim (λ lt. absurd (p.listed n lt q.ended)) (λ le'. omega arith) (cases_lt n m))
    (cases_lt m n)

one_kept : (b : Bounds) (n : ℕ) (s t : Span3) → IsKeptAs b n s → IsKeptAs b n t → (s.first ≡ t.first) × (s.step ≡ t.step)
one_kept b zero s t p q = (p.0 ∙ sym q.0, p.1 ∙ sym q.1)
one_kept b (suc zero) s t p q = let h : pos s.first ≡ pos t.first = p.0 ∙ sym q.0 in (cc, p.1 ∙ sym q.1)
one_kept b (suc (suc n)) s t p q = let h : pos s.first ≡ pos t.first = p.0 ∙ sym q.0 in (cc, p.1 ∙ sym q.1)

one_span : (b : Bounds) (s t : Span3) → IsSpanOf b s → IsSpanOf b t → s ≡ t
one_span b s t p q =
    let counts : s.count ≡ t.count = one_count b s.count t.count p.counted q.counted in
    let kept : IsKeptAs b s.count t = subst (λ (m : ℕ). IsKeptAs b m t) (sym counts) q.kept in
    let same = one_kept b s.count s t p.kept kept in
    let first : s.first ≡ t.first = same.0 in
    let step : s.step ≡ t.step = same.1 in
    let whole : ◌≡◌ {A = Span3} (record { first = s.first; step = s.step; count = s.count }) (record { first = t.first; step = t.step; count = t.count }) = cc in
    whole

one_view : (array : ℕ) (shape : Shape) (rows cols : Range) (part : Part) (v w : View) → Shows array shape rows cols part v → Shows array shape rows cols part w → v ≡ w
one_view array shape rows cols part v w p q =
    let same_array : v.array ≡ w.array = p.array ∙ sym q.array in
    let same_height : v.height ≡ w.height = p.height ∙ sym q.height in
    let same_rows : v.rows ≡ w.rows = one_span _ v.rows w.rows p.rows q.rows in
    let same_cols : v.cols ≡ w.cols = one_span _ v.cols w.cols p.cols q.cols in
    let same_part : v.part ≡ w.part = p.part ∙ sym q.part in
    let whole : ◌≡◌ {A = View} (record { array = v.array; height = v.height; rows = v.rows; cols = v.cols; part = v.part }) (record { array = w.array; height = w.height; rows = w.rows; cols = w.cols; part = w.part }) = cc in
    whole

one_access : (s : Above) (piece : Piece) (a b : AccessRow) → IsAccess s piece a → IsAccess s piece b → a ≡ b
one_access s piece a b p q =
    let view : a.view ≡ b.view = one_view _ _ _ _ _ a.view b.view p.view q.view in
    let mode : a.mode ≡ b.mode = p.mode ∙ sym q.mode in
    let whole : ◌≡◌ {A = AccessRow} (record { view = a.view; mode = a.mode }) (record { view = b.view; mode = b.mode }) = cc in
    whole

pub one_accesses : (s : Above) (pieces : List Piece) (xs ys : List AccessRow) → AreAccesses s pieces xs → AreAccesses s pieces ys → xs ≡ ys
one_accesses s [] [] [] p q = refl
one_accesses s [] [] (y ∷ ys) p q = absurd q
one_accesses s [] (x ∷ xs) ys p q = absurd p
one_accesses s (piece ∷ pieces) [] ys p q = absurd p
one_accesses s (piece ∷ pieces) (x ∷ xs) [] p q = absurd q
one_accesses s (piece ∷ pieces) (x ∷ xs) (y ∷ ys) p q =
    let head : x ≡ y = one_access s piece x y p.0 q.0 in
    let rest : xs ≡ ys = one_accesses s pieces xs ys p.1 q.1 in
    cc

-- so their shapes fit each other or don't
pub no_mismatch : (s : Above) (word : List ℕ) (scalar : Option ℤ) (pieces : List Piece) (k : Kernel) (accesses : List AccessRow) → word ≡ name_of k → AreAccesses s pieces accesses → ShapesFit k (shapes_in accesses) → ¬ HasMismatch s (Task word scalar pieces)
no_mismatch s word scalar pieces k accesses is are fit h =
    let same_kernel : k ≡ h.0 = same_Some _ _ (one_name k h.0 (sym is ∙ h.2)) in
    let same_accesses : accesses ≡ h.1 = one_accesses s pieces accesses h.1 are h.3 in
    let fit_kernel : ShapesFit h.0 (shapes_in accesses) = subst (λ (j : Kernel). ShapesFit j (shapes_in accesses)) same_kernel fit in
    h.4 (subst (λ (xs : List AccessRow). ShapesFit h.0 (shapes_in xs)) same_accesses fit_kernel)

-- no kernel takes more than three accesses
few_modes : (k : Kernel) → length (modes_of k) ≤ 3
few_modes Fill = lit≤ tt
few_modes Addk = lit≤ tt
few_modes Scale = lit≤ tt
few_modes Copy = lit≤ tt
few_modes Copyt = lit≤ tt
few_modes Add = lit≤ tt
few_modes Sub = lit≤ tt
few_modes Mul = lit≤ tt
few_modes Axpy = lit≤ tt
few_modes Xor = lit≤ tt
few_modes Min = lit≤ tt
few_modes Max = lit≤ tt
few_modes Neg = lit≤ tt
few_modes Rev = lit≤ tt
few_modes Rot = lit≤ tt
few_modes Sort = lit≤ tt
few_modes Scan = lit≤ tt
few_modes Sum = lit≤ tt
few_modes Dot = lit≤ tt
few_modes Swap = lit≤ tt
few_modes Iota = lit≤ tt
few_modes Gemm = lit≤ tt
few_modes Gemv = lit≤ tt
few_modes Stencil5 = lit≤ tt
few_modes Trmv = lit≤ tt
few_modes TrsvUnit = lit≤ tt
few_modes TrsmUnit = lit≤ tt
few_modes Mirror = lit≤ tt
few_modes SyrkPacked = lit≤ tt

pub few_accesses : (s : Above) (pieces : List Piece) (k : Kernel) (accesses : List AccessRow) → length pieces ≡ length (modes_of k) → AreAccesses s pieces accesses → length accesses ≤ 3
few_accesses s pieces k accesses count are = omega (arith, AllZip-long (IsAccess s) pieces accesses are, count, few_modes k)
