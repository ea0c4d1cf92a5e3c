-- True cells, by equal parts.
use Rattle.std.proofs.Common.{◌≡◌, ℕ, ℤ, List, subst}
use Rattle.dd_blocks.specs.declared.plan.Plan.{Plan}
use Rattle.dd_stamps.specs.Cells.{AreTrue}
use Rattle.dd_stamps.proofs.CellsLemmas.{same_true}

pub true_by : (p q : Plan) (a b : ℕ) (vs ws : List ℕ) (xs ys : List ℤ) → p ≡ q → a ≡ b → vs ≡ ws → xs ≡ ys → AreTrue p a vs xs → AreTrue q b ws ys
true_by p q a b vs ws xs ys ep eb ev ex cells = subst (λ (l : List ℤ). AreTrue q b ws l) ex (subst (λ (l : List ℕ). AreTrue q b l xs) ev (same_true p q a b vs xs ep eb cells))
