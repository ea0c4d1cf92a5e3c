-- What is known of a statement of which no kind of fault holds.
use Rattle.std.proofs.Common.{◌≡◌, ◌≢◌, ℕ, ◌≤◌, Bool, true, false, List, [], ◌∷◌, length, Option, None, Some, refl, ◌∙◌, ⊎_elim, arith}
use Rattle.std.specs.List.{All}
use Rattle.std.specs.Prelude.{is_some, nat_lt, unwrap_or}
use Rattle.std.proofs.lemmas.Bool.{cases_Bool, false≢true, true≢false, ltb-false}
use Rattle.std.proofs.lemmas.List.Elements.{All-cons, All-nil}
use Rattle.dd_script.specs.declared.statement.Statement.{Statement}
use Rattle.dd_check.specs.Above.{Above, OpenRegion}
use Rattle.dd_check.specs.Faults.{AreClear, kinds}
use Rattle.dd_check.specs.Kinds.{HasUnknownName, HasTakenName, IsLate, HasNoProc, HasBadShape, HasUnknownKernel, HasArgCount, HasBadAccess, HasRangeFault, HasNoSquare, HasMismatch, IsMisplaced, HasTooMany, HasLargeBlock, HasLargeTask, limit_passed}

pub record Clear (n : ℕ) (s : Above) (x : Statement) : Type 0 where
  pub unknown : HasUnknownName s x → ⊥
  pub taken : HasTakenName s x → ⊥
  pub late : IsLate s x → ⊥
  pub no_proc : HasNoProc s x → ⊥
  pub shape : HasBadShape x → ⊥
  pub kernel : HasUnknownKernel x → ⊥
  pub count : (a b : ℕ) → HasArgCount x a b → ⊥
  pub access : HasBadAccess x → ⊥
  pub range : HasRangeFault s x → ⊥
  pub square : HasNoSquare s x → ⊥
  pub mismatch : HasMismatch s x → ⊥
  pub place : IsMisplaced s x → ⊥
  pub many : (limit : ℕ) → HasTooMany n s x limit → ⊥
  pub block : (a b : ℕ) → HasLargeBlock s x a b → ⊥
  pub task : (a b : ℕ) → HasLargeTask n s x a b → ⊥

pub clear_of : (n : ℕ) (s : Above) (x : Statement) → AreClear n s x kinds → Clear n s x
clear_of n s x clear = record {
  unknown = λ h. clear.0 0 0 (h, refl, refl);
  taken = λ h. clear.1.0 0 0 (h, refl, refl);
  late = λ h. clear.1.1.0 0 0 (h, refl, refl);
  no_proc = λ h. clear.1.1.1.0 0 0 (h, refl, refl);
  shape = λ h. clear.1.1.1.1.0 0 0 (h, refl, refl);
  kernel = λ h. clear.1.1.1.1.1.0 0 0 (h, refl, refl);
  count = λ a b h. clear.1.1.1.1.1.1.0 a b h;
  access = λ h. clear.1.1.1.1.1.1.1.0 0 0 (h, refl, refl);
  range = λ h. clear.1.1.1.1.1.1.1.1.0 0 0 (h, refl, refl);
  square = λ h. clear.1.1.1.1.1.1.1.1.1.0 0 0 (h, refl, refl);
  mismatch = λ h. clear.1.1.1.1.1.1.1.1.1.1.0 0 0 (h, refl, refl);
  place = λ h. clear.1.1.1.1.1.1.1.1.1.1.1.0 0 0 (h, refl, refl);
  many = λ limit h. clear.1.1.1.1.1.1.1.1.1.1.1.1.0 limit 0 (h, refl);
  block = λ a b h. clear.1.1.1.1.1.1.1.1.1.1.1.1.1.0 a b h;
  task = λ a b h. clear.1.1.1.1.1.1.1.1.1.1.1.1.1.1.0 a b h;
}

-- a name that is there, and one that isn't
pub named : (o : Option ℕ) → (o ≡ None → ⊥) → o ≡ Some (unwrap_or o 0)
named None some = absurd (some refl)
named (Some n) some = refl

pub unnamed : (o : Option ℕ) → (o ≢ None → ⊥) → o ≡ None
unnamed None none = refl
unnamed (Some n) none = absurd (none (λ same. absurd (cc)))

-- no limit is passed
pub within_limits : (amounts : List (ℕ × ℕ)) → ((limit : ℕ) → limit_passed amounts ≡ Some limit → ⊥) → All (λ (amount : ℕ × ℕ). amount.0 ≤ amount.1) amounts
within_limits [] none = All-nil (λ (amount : ℕ × ℕ). amount.0 ≤ amount.1)
within_limits (amount ∷ more) none = ⊎_elim
    (λ (yes : nat_lt amount.1 amount.0 ≡ true). absurd (none amount.1 (rw yes refl)))
    (λ (no : nat_lt amount.1 amount.0 ≡ false). All-cons (λ (a : ℕ × ℕ). a.0 ≤ a.1) amount more (ltb-false amount.1 amount.0 no) (within_limits more (λ limit passed. none limit (rw no passed))))
    (cases_Bool (nat_lt amount.1 amount.0))

-- where a statement stands
pub closed_for : (o : Option OpenRegion) (inside : Bool) → inside ≡ false → (is_some o ≢ inside → ⊥) → o ≡ None
closed_for None inside out place = refl
closed_for (Some region) inside out place = absurd (place (λ same. true≢false (same ∙ out)))

pub open_for : (o : Option OpenRegion) (inside : Bool) → inside ≡ true → (is_some o ≢ inside → ⊥) → (region : OpenRegion) × (o ≡ Some region)
open_for (Some region) inside within place = (region, refl)
open_for None inside within place = absurd (place (λ same. false≢true (same ∙ within)))

pub some_rows : {Row : Type 0} (rows : List Row) → (rows ≡ [] → ⊥) → 1 ≤ length rows
some_rows [] some = absurd (some refl)
some_rows (row ∷ rows) some = omega arith

pub some_row : {Row : Type 0} (rows : List Row) → 1 ≤ length rows → rows ≢ []
some_row [] some none = absurd (omega arith)
some_row (row ∷ rows) some none = absurd (cc)
