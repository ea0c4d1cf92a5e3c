-- A statement has one first fault, and none where no kind holds.
use Rattle.std.proofs.Common.{◌≡◌, ℕ, ◌+◌, ◌*◌, ℤ, inl, inr, ⊎_elim, List, [], ◌∷◌, length, Option, sym, ap, subst, ◌∙◌}
use Rattle.std.proofs.lemmas.Bool.{cases_eq}
use Rattle.std.proofs.lemmas.Option.{same_Some}
use Rattle.dd_kernels.specs.declared.kernel.Kernel.{Kernel}
use Rattle.dd_kernels.specs.Signatures.{TakesScalar}
use Rattle.dd_kernels.proofs.NamesLemmas.{one_name}
use Rattle.dd_blocks.specs.declared.block_row.BlockRow.{BlockRow}
use Rattle.dd_blocks.specs.declared.task_row.TaskRow.{TaskRow}
use Rattle.dd_blocks.specs.Numbered.{space_row}
use Rattle.dd_blocks.specs.Tasks.{limit_at}
use Rattle.dd_script.specs.declared.piece.Piece.{Piece}
use Rattle.dd_script.specs.declared.statement.Statement.{Statement}
use Rattle.dd_script.specs.declared.statement.Statement.TheVariants.{Space, Proc, PolicyIs, PlaceIs, Array, Same, Drop, MoveTo, Region, Task, End, Print, Sum, Moved}
use Rattle.dd_check.specs.declared.fault.Fault.{Fault}
use Rattle.dd_check.specs.declared.kind.Kind.{Kind}
use Rattle.dd_check.specs.declared.kind.Kind.TheVariants.{UnknownName, NameTaken, LateMachine, NoProc, BadShape, UnknownKernel, ArgCount, BadAccess, BadRange, NotSquare, ShapeMismatch, WrongPlace, TooMany, BlockTooLarge, TaskTooLarge}
use Rattle.dd_check.specs.Above.{Above}
use Rattle.dd_check.specs.Faults.{AreClear, Holds, IsFirstOf, Plain}
use Rattle.dd_check.specs.Kinds.{AreAmounts, HasArgCount, HasLargeBlock, HasLargeTask, HasTooMany, Wants, amounts_of_task, limit_passed, one_where}
use Rattle.dd_check.specs.Rows.{IsTask}
use Rattle.dd_check.proofs.OneTaskLemmas.{one_task}

abbrev SameNumbers : ℕ → ℕ → ℕ → ℕ → Type 0
SameNumbers a b c d = (a ≡ c) × (b ≡ d)

one_plain : (F : Type 0) (a b c d : ℕ) → Plain a b F → Plain c d F → SameNumbers a b c d
one_plain F a b c d h g = (h.1 ∙ sym g.1, h.2 ∙ sym g.2)

one_wanted : (k : Kernel) (m n : ℕ) → Wants k m → Wants k n → m ≡ n
one_wanted k m n h g = ⊎_elim
    (λ (same : m ≡ n). same)
    (λ (other : m ≡ n → ⊥).
    let none : ¬ TakesScalar k = λ takes. other (h.with_scalar takes ∙ sym (g.with_scalar takes)) in
    absurd (other (h.without none ∙ sym (g.without none))))
    (cases_eq m n)

-- the parts of a task
record SameTask (word other : List ℕ) (scalar k : Option ℤ) (pieces more : List Piece) : Type 0 where
  word_is : word ≡ other
  scalar_is : scalar ≡ k
  pieces_are : pieces ≡ more

same_task : (word other : List ℕ) (scalar k : Option ℤ) (pieces more : List Piece) (x : Statement) → x ≡ Task word scalar pieces → x ≡ Task other k more → SameTask word other scalar k pieces more
same_task word other scalar k pieces more x h g = record { word_is = cc; scalar_is = cc; pieces_are = cc }

one_arg_count : (x : Statement) (a b c d : ℕ) → HasArgCount x a b → HasArgCount x c d → SameNumbers a b c d
one_arg_count x a b c d h g =
    let same = same_task _ _ h.scalar g.scalar h.pieces g.pieces x h.is g.is in
    let kernel : h.kernel ≡ g.kernel = same_Some _ _ (one_name h.kernel g.kernel same.word_is) in
    let given : one_where h.scalar + length h.pieces ≡ one_where g.scalar + length g.pieces = λ i. one_where (same.scalar_is i) + length (same.pieces_are i) in
    (h.given_is ∙ given ∙ sym g.given_is, one_wanted g.kernel b d (subst (λ (k : Kernel). Wants k b) kernel h.wanted_is) g.wanted_is)

one_amounts : (n : ℕ) (s : Above) (x : Statement) (p q : List (ℕ × ℕ)) → AreAmounts n s x p → AreAmounts n s x q → p ≡ q
one_amounts n s (Task kernel scalar pieces) p q h g = h.2 ∙ ap (amounts_of_task s) (one_task n s kernel scalar pieces h.0 g.0 h.1 g.1) ∙ sym g.2
one_amounts n s (Space name limit) p q h g = h ∙ sym g
one_amounts n s (Proc name space) p q h g = h ∙ sym g
one_amounts n s (PolicyIs policy) p q h g = h ∙ sym g
one_amounts n s (PlaceIs rule) p q h g = h ∙ sym g
one_amounts n s (Array name rows cols brows bcols fill) p q h g = h ∙ sym g
one_amounts n s (Same name old) p q h g = h ∙ sym g
one_amounts n s (Drop name) p q h g = h ∙ sym g
one_amounts n s (MoveTo name space) p q h g = h ∙ sym g
one_amounts n s Region p q h g = h ∙ sym g
one_amounts n s End p q h g = h ∙ sym g
one_amounts n s (Print name) p q h g = h ∙ sym g
one_amounts n s (Sum name) p q h g = h ∙ sym g
one_amounts n s Moved p q h g = h ∙ sym g

one_too_many : (n : ℕ) (s : Above) (x : Statement) (a c : ℕ) → HasTooMany n s x a → HasTooMany n s x c → a ≡ c
one_too_many n s x a c h g = same_Some a c (sym h.passed ∙ ap limit_passed (one_amounts n s x h.amounts g.amounts h.are g.are) ∙ g.passed)

one_large_block : (s : Above) (x : Statement) (a b c d : ℕ) → HasLargeBlock s x a b → HasLargeBlock s x c d → SameNumbers a b c d
one_large_block s x a b c d h g =
    let same : h.block ≡ g.block = same_Some _ _ (sym h.first ∙ g.first) in (
      h.needed_is ∙ ap (λ (block : BlockRow). 16 * block.size) same ∙ sym g.needed_is,
      h.limit_is ∙ ap (λ (block : BlockRow). (space_row s.plan block.home).limit) same ∙ sym g.limit_is,
    )

one_large_task : (n : ℕ) (s : Above) (x : Statement) (a b c d : ℕ) → HasLargeTask n s x a b → HasLargeTask n s x c d → SameNumbers a b c d
one_large_task n s x a b c d h g =
    let same = same_task _ _ h.scalar g.scalar h.pieces g.pieces x h.is g.is in
    let row : IsTask n s g.kernel g.scalar g.pieces h.task = subst (λ (p : List Piece). IsTask n s g.kernel g.scalar p h.task) same.pieces_are
    (subst (λ (k : Option ℤ). IsTask n s g.kernel k h.pieces h.task) same.scalar_is
    (subst (λ (w : List ℕ). IsTask n s w h.scalar h.pieces h.task) same.word_is h.row)) in
    let task : h.task ≡ g.task = one_task n s g.kernel g.scalar g.pieces h.task g.task row g.row in
    (h.charge_is ∙ ap (λ (t : TaskRow). t.charge) task ∙ sym g.charge_is, h.limit_is ∙ ap (limit_at s.plan) task ∙ sym g.limit_is)

-- the numbers of a kind
one_holds : (kind : Kind) (n : ℕ) (s : Above) (x : Statement) (a b c d : ℕ) → Holds kind n s x a b → Holds kind n s x c d → SameNumbers a b c d
one_holds UnknownName n s x a b c d h g = one_plain _ a b c d h g
one_holds NameTaken n s x a b c d h g = one_plain _ a b c d h g
one_holds LateMachine n s x a b c d h g = one_plain _ a b c d h g
one_holds NoProc n s x a b c d h g = one_plain _ a b c d h g
one_holds BadShape n s x a b c d h g = one_plain _ a b c d h g
one_holds UnknownKernel n s x a b c d h g = one_plain _ a b c d h g
one_holds ArgCount n s x a b c d h g = one_arg_count x a b c d h g
one_holds BadAccess n s x a b c d h g = one_plain _ a b c d h g
one_holds BadRange n s x a b c d h g = one_plain _ a b c d h g
one_holds NotSquare n s x a b c d h g = one_plain _ a b c d h g
one_holds ShapeMismatch n s x a b c d h g = one_plain _ a b c d h g
one_holds WrongPlace n s x a b c d h g = one_plain _ a b c d h g
one_holds TooMany n s x a b c d h g = (one_too_many n s x a c h.0 g.0, h.1 ∙ sym g.1)
one_holds BlockTooLarge n s x a b c d h g = one_large_block s x a b c d h g
one_holds TaskTooLarge n s x a b c d h g = one_large_task n s x a b c d h g
one_holds _ n s x a b c d h g = absurd h

-- a fault by its parts
pub same_fault : (f g : Fault) → f.line ≡ g.line → f.kind ≡ g.kind → f.a ≡ g.a → f.b ≡ g.b → f ≡ g
same_fault f g lines kinds first second = λ i. record { line = lines i; kind = kinds i; a = first i; b = second i }

one_first : (n : ℕ) (s : Above) (x : Statement) (kind : Kind) (more : List Kind) (f g : Fault) → f.line ≡ g.line → (IsFirstOf n s x more f → IsFirstOf n s x more g → f ≡ g) → IsFirstOf n s x (kind ∷ more) f → IsFirstOf n s x (kind ∷ more) g → f ≡ g
one_first n s x kind more f g line later (inl p) (inl q) = let same = one_holds kind n s x f.a f.b g.a g.b p.1 q.1 in same_fault f g line (p.0 ∙ sym q.0) same.0 same.1
one_first n s x kind more f g line later (inl p) (inr q) = absurd (q.0 f.a f.b p.1)
one_first n s x kind more f g line later (inr p) (inl q) = absurd (p.0 g.a g.b q.1)
one_first n s x kind more f g line later (inr p) (inr q) = later p.1 q.1

pub one_found : (n : ℕ) (s : Above) (x : Statement) (asked : List Kind) (f g : Fault) → f.line ≡ g.line → IsFirstOf n s x asked f → IsFirstOf n s x asked g → f ≡ g
one_found n s x [] f g line h j = absurd h
one_found n s x (kind ∷ more) f g line h j = one_first n s x kind more f g line (λ p q. one_found n s x more f g line p q) h j

pub found_not_clear : (n : ℕ) (s : Above) (x : Statement) (asked : List Kind) (f : Fault) → IsFirstOf n s x asked f → AreClear n s x asked → ⊥
found_not_clear n s x [] f h clear = h
found_not_clear n s x (kind ∷ more) f h clear = ⊎_elim (λ here. clear.0 f.a f.b here.1) (λ later. found_not_clear n s x more f later.1 clear.1) h
