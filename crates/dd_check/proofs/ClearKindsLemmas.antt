-- What is known of a statement where the kinds on names, the machine and edges are clear.
use Rattle.std.proofs.Common.{◌≡◌, ◌≢◌, ℕ, ℤ, Bool, true, false, ◌&&◌, List, None, refl, inl, ◌⊎◌, ⊎_elim, Option, get_or}
use Rattle.std.specs.List.{All}
use Rattle.std.proofs.lemmas.List.{get_or_default}
use Rattle.dd_blocks.specs.declared.fill.Fill.{Fill}
use Rattle.dd_script.specs.declared.piece.Piece.{Piece}
use Rattle.dd_script.specs.declared.statement.Statement.{Statement}
use Rattle.dd_script.specs.declared.statement.Statement.TheVariants.{Array, MoveTo, Print, Sum, Task}
use Rattle.dd_check.specs.Above.{Above, array_named}
use Rattle.dd_check.specs.Chain.{name_kinds}
use Rattle.dd_check.specs.Faults.{AreClear}
use Rattle.dd_check.specs.Kinds.{HasBadShape, HasUnknownName, is_edge}
use Rattle.dd_check.specs.Seen.{IsKnown}
use Rattle.dd_check.proofs.GroupLemmas.{yes}

pub names_known : (n : ℕ) (s : Above) (x : Statement) → AreClear n s x name_kinds → ¬ HasUnknownName s x
names_known n s x clear h = clear.0 0 0 (yes h)

pub shape_right : (n : ℕ) (s : Above) (x : Statement) → AreClear n s x name_kinds → ¬ HasBadShape x
shape_right n s x clear h = clear.1.1.1.1.0 0 0 (yes h)

-- each of four edges
pub record AreEdges (rows cols brows bcols : ℤ) : Type 0 where
  pub rows_right : is_edge rows ≡ true
  pub cols_right : is_edge cols ≡ true
  pub brows_right : is_edge brows ≡ true
  pub bcols_right : is_edge bcols ≡ true

all_true : (a b c d : Bool) → ¬ ((a && b && c && d) ≡ false) → (a ≡ true) × (b ≡ true) × (c ≡ true) × (d ≡ true)
all_true true true true true not = (refl, refl, refl, refl)
all_true true true true false not = absurd (not refl)
all_true true true false d not = absurd (not refl)
all_true true false c d not = absurd (not refl)
all_true false b c d not = absurd (not refl)

pub edges_right : (n : ℕ) (s : Above) (x : Statement) (name : List ℕ) (rows cols brows bcols : ℤ) (fill : Fill) → AreClear n s x name_kinds → x ≡ Array name rows cols brows bcols fill → AreEdges rows cols brows bcols
edges_right n s x name rows cols brows bcols fill clear is =
    let h = all_true (is_edge rows) (is_edge cols) (is_edge brows) (is_edge bcols) (rw is at (shape_right n s x clear)) in
    record { rows_right = h.0; cols_right = h.1; brows_right = h.2; bcols_right = h.3 }

-- the array that is gone through block by block
pub name_known : (n : ℕ) (s : Above) (x : Statement) (name : List ℕ) → AreClear n s x name_kinds → ((space : List ℕ) × (x ≡ MoveTo name space)) ⊎ ((x ≡ Print name) ⊎ (x ≡ Sum name)) → array_named s name ≢ None
name_known n s x name clear said = λ none.
    ⊎_elim (λ m. (rw m.1 at (names_known n s x clear)) (inl none))
    (λ others. ⊎_elim (λ e. (rw e at (names_known n s x clear)) none) (λ e. (rw e at (names_known n s x clear)) none) others)
    said

-- the arrays that the pieces of a task name
pub pieces_known : (n : ℕ) (s : Above) (word : List ℕ) (scalar : Option ℤ) (pieces : List Piece) → AreClear n s (Task word scalar pieces) name_kinds → All (IsKnown s) pieces
pieces_known n s word scalar pieces clear = λ k d within none.
    names_known n s (Task word scalar pieces) clear (k, get_or pieces k d, within, get_or_default pieces k (get_or pieces k d) d within, none)
