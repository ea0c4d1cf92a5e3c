-- Each word names at most one kernel, and the table has each kernel at its place.
use Rattle.std.proofs.Common.{◌≡◌, ◌↔◌, ℕ, ◌<◌, ◌≤◌, cond, nat_eq, List, [], ◌∷◌, Option, Some, None, refl, ap, sym, ◌∙◌, get_or, arith}
use Rattle.std.specs.Cmp.Lexicographic.{pointwise}
use Rattle.dd_kernels.specs.declared.kernel.Kernel.{Kernel}
use Rattle.dd_kernels.specs.declared.kernel.Kernel.TheVariants.{Fill, Addk, Scale, Copy, Copyt, Add, Sub, Mul, Axpy, Xor, Min, Max, Neg, Rev, Rot, Sort, Scan, Sum, Dot, Swap, Iota, Gemm, Gemv, Stencil5, Trmv, TrsvUnit, TrsmUnit, Mirror, SyrkPacked}
use Rattle.dd_kernels.specs.Names.{name_of}

-- the first of some kernels that has the word for its name
named : List Kernel → List ℕ → Option Kernel
named [] word = None
named (k ∷ ks) word = cond (pointwise nat_eq word (name_of k)) (Some k) (named ks word)

abbrev pub table : List Kernel
table = Fill ∷ Addk ∷ Scale ∷ Copy ∷ Copyt ∷ Add ∷ Sub ∷ Mul ∷ Axpy ∷ Xor ∷ Min ∷ Max ∷ Neg ∷ Rev ∷ Rot ∷ Sort ∷ Scan ∷ Sum ∷ Dot ∷ Swap ∷ Iota ∷ Gemm ∷ Gemv ∷ Stencil5 ∷ Trmv ∷ TrsvUnit ∷ TrsmUnit ∷ Mirror ∷ SyrkPacked ∷ []

named_itself : (k : Kernel) → named table (name_of k) ≡ Some k
unfolding named
named_itself Fill = refl
named_itself Addk = refl
named_itself Scale = refl
named_itself Copy = refl
named_itself Copyt = refl
named_itself Add = refl
named_itself Sub = refl
named_itself Mul = refl
named_itself Axpy = refl
named_itself Xor = refl
named_itself Min = refl
named_itself Max = refl
named_itself Neg = refl
named_itself Rev = refl
named_itself Rot = refl
named_itself Sort = refl
named_itself Scan = refl
named_itself Sum = refl
named_itself Dot = refl
named_itself Swap = refl
named_itself Iota = refl
named_itself Gemm = refl
named_itself Gemv = refl
named_itself Stencil5 = refl
named_itself Trmv = refl
named_itself TrsvUnit = refl
named_itself TrsmUnit = refl
named_itself Mirror = refl
named_itself SyrkPacked = refl

pub one_name : (j k : Kernel) → name_of j ≡ name_of k → Some j ≡ Some k
one_name j k same = sym (named_itself j) ∙ (ap (named table) same ∙ named_itself k)

-- the answer is this kernel exactly where the word is its name
pub names_it : (j k : Kernel) (word : List ℕ) → name_of j ≡ word → (Some j ≡ Some k) ↔ (word ≡ name_of k)
names_it j k word is = (λ same. cc, λ named_k. one_name j k (is ∙ named_k))

-- each kernel has a place in the table
placed : (k : Kernel) → (i : ℕ) × (i < 29) × (get_or table i Fill ≡ k)
placed Fill = (0, omega arith, refl)
placed Addk = (1, omega arith, refl)
placed Scale = (2, omega arith, refl)
placed Copy = (3, omega arith, refl)
placed Copyt = (4, omega arith, refl)
placed Add = (5, omega arith, refl)
placed Sub = (6, omega arith, refl)
placed Mul = (7, omega arith, refl)
placed Axpy = (8, omega arith, refl)
placed Xor = (9, omega arith, refl)
placed Min = (10, omega arith, refl)
placed Max = (11, omega arith, refl)
placed Neg = (12, omega arith, refl)
placed Rev = (13, omega arith, refl)
placed Rot = (14, omega arith, refl)
placed Sort = (15, omega arith, refl)
placed Scan = (16, omega arith, refl)
placed Sum = (17, omega arith, refl)
placed Dot = (18, omega arith, refl)
placed Swap = (19, omega arith, refl)
placed Iota = (20, omega arith, refl)
placed Gemm = (21, omega arith, refl)
placed Gemv = (22, omega arith, refl)
placed Stencil5 = (23, omega arith, refl)
placed Trmv = (24, omega arith, refl)
placed TrsvUnit = (25, omega arith, refl)
placed TrsmUnit = (26, omega arith, refl)
placed Mirror = (27, omega arith, refl)
placed SyrkPacked = (28, omega arith, refl)

-- a word that names no kernel of the table names none
pub names_none : (word : List ℕ) (n : ℕ) → 29 ≤ n → ((i : ℕ) → i < n → word ≡ name_of (get_or table i Fill) → ⊥) → (k : Kernel) → (None ≡ Some k) ↔ (word ≡ name_of k)
names_none word n all differ k =
    let at = placed k in
    (λ same. cc, λ named_k. absurd (differ at.0 (omega (arith, at.1)) (named_k ∙ sym (ap (λ (j : Kernel). name_of j) at.2))))
