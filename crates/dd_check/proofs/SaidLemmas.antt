-- What a view's fault says of its piece.
use Rattle.std.proofs.Common.{◌≡◌, ◌≢◌, ◌↔◌, false, IsTrue, Result, Err}
use Rattle.dd_views.specs.declared.fault.ViewFault.{ViewFault}
use Rattle.dd_views.specs.declared.view.View.{View}

-- a fault that isn't there
pub not_said : {P : Type 0} (r : Result View ViewFault) (fault : ViewFault) → r ≢ Err fault → ((r ≡ Err fault) ↔ P) → IsTrue false ↔ P
not_said r fault other says = (λ t. absurd (cc), λ h. absurd (other (says.1 h)))

-- a fault that comes after another one, which isn't there
pub not_said_after : {B P : Type 0} (r : Result View ViewFault) (fault : ViewFault) → r ≢ Err fault → ¬ B → ((r ≡ Err fault) ↔ ((¬ B) × P)) → IsTrue false ↔ P
not_said_after r fault other before says = (λ t. absurd (cc), λ h. absurd (other (says.1 (before, h))))
