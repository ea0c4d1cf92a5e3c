-- The kinds of fault on a kernel and its arguments, where the word names the kernel.
use Rattle.std.proofs.Common.{◌≡◌, ℕ, ◌+◌, ℤ, List, length, Option, sym, ap, subst, ◌∙◌}
use Rattle.std.proofs.lemmas.Option.{same_Some}
use Rattle.dd_kernels.specs.declared.kernel.Kernel.{Kernel}
use Rattle.dd_kernels.specs.Names.{name_of}
use Rattle.dd_kernels.specs.Signatures.{modes_of}
use Rattle.dd_kernels.proofs.NamesLemmas.{one_name}
use Rattle.dd_script.specs.declared.piece.Piece.{Piece}
use Rattle.dd_script.specs.declared.statement.Statement.TheVariants.{Task}
use Rattle.dd_check.specs.Kinds.{HasArgCount, HasBadAccess, HasUnknownKernel, TakesGiven, Wants, one_where}
use Rattle.dd_check.proofs.ModesLemmas.{AllMayBe}

one_kernel : (word : List ℕ) (j k : Kernel) → word ≡ name_of j → word ≡ name_of k → j ≡ k
one_kernel word j k first second = same_Some j k (one_name j k (sym first ∙ second))

pub right_word : (word : List ℕ) (scalar : Option ℤ) (pieces : List Piece) (k : Kernel) → word ≡ name_of k → ¬ HasUnknownKernel (Task word scalar pieces)
right_word word scalar pieces k is h = h k is

pub right_count : (word : List ℕ) (scalar : Option ℤ) (pieces : List Piece) (k : Kernel) → word ≡ name_of k → TakesGiven k scalar → length pieces ≡ length (modes_of k) → (a b : ℕ) → HasArgCount (Task word scalar pieces) a b → ⊥
right_count word scalar pieces k is taken long a b h =
    let whole = h.is in
    let same_word : word ≡ name_of h.kernel = cc in
    let same_scalar : scalar ≡ h.scalar = cc in
    let same_pieces : pieces ≡ h.pieces = cc in
    let same_kernel : k ≡ h.kernel = one_kernel word k h.kernel is same_word in
    h.differs
    (subst (λ (j : Kernel). TakesGiven j h.scalar) same_kernel (subst (λ (o : Option ℤ). TakesGiven k o) same_scalar taken))
    (sym (ap (λ (ps : List Piece). length ps) same_pieces) ∙ (long ∙ ap (λ (j : Kernel). length (modes_of j)) same_kernel))

pub wrong_count : (word : List ℕ) (scalar : Option ℤ) (pieces : List Piece) (k : Kernel) (given wanted : ℕ) → word ≡ name_of k → ¬ (TakesGiven k scalar × (length pieces ≡ length (modes_of k))) → given ≡ one_where scalar + length pieces → Wants k wanted → HasArgCount (Task word scalar pieces) given wanted
wrong_count word scalar pieces k given wanted is not given_is wanted_is = record {
  kernel = k;
  scalar = scalar;
  pieces = pieces;
  is = ap (λ (w : List ℕ). Task w scalar pieces) is;
  differs = λ taken long. not (taken, long);
  given_is = given_is;
  wanted_is = wanted_is;
}

pub right_modes : (word : List ℕ) (scalar : Option ℤ) (pieces : List Piece) (k : Kernel) → word ≡ name_of k → AllMayBe (modes_of k) pieces → ¬ HasBadAccess (Task word scalar pieces)
right_modes word scalar pieces k is all h =
    h.2 (subst (λ (j : Kernel). AllMayBe (modes_of j) pieces) (one_kernel word k h.0 is h.1) all)

pub wrong_modes : (word : List ℕ) (scalar : Option ℤ) (pieces : List Piece) (k : Kernel) → word ≡ name_of k → ¬ AllMayBe (modes_of k) pieces → HasBadAccess (Task word scalar pieces)
wrong_modes word scalar pieces k is not = (k, is, not)
