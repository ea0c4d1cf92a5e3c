-- The kinds of fault in groups, asked one after another: what a test tells of a kind.
use Rattle.std.proofs.Common.{◌↔◌, ℕ, false, IsTrue, refl}
use Rattle.dd_check.specs.Faults.{Plain}

-- a kind without numbers is clear, and holds
pub no : {F : Type 0} → ¬ F → (a b : ℕ) → Plain a b F → ⊥
no not a b h = not h.0

pub yes : {F : Type 0} → F → Plain 0 0 F
yes h = (h, refl, refl)

-- what a test told that failed
pub untrue : {P : Type 0} → (IsTrue false ↔ P) → ¬ P
untrue told h = let said : IsTrue false = told.1 h in cc
