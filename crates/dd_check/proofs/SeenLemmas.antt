-- Accesses that pieces say, and the views that they show.
use Rattle.std.proofs.Common.{◌≡◌, ◌↔◌, ℕ, ◌+◌, ◌<◌, ◌≤◌, List, [], ◌∷◌, ◌++◌, length, take, get_or, Result, Err, refl, sym, subst, arith}
use Rattle.std.specs.List.{AllZip}
use Rattle.std.proofs.lemmas.List.{take_more}
use Rattle.dd_views.specs.declared.fault.ViewFault.{ViewFault}
use Rattle.dd_views.specs.declared.fault.ViewFault.TheVariants.{BadRange, NotSquare}
use Rattle.dd_views.specs.declared.view.View.{View}
use Rattle.dd_views.specs.IndexList.{index_list}
use Rattle.dd_views.specs.Views.{IsViewOf, Shows}
use Rattle.dd_views.proofs.ViewLemmas.{length_view, view_few}
use Rattle.dd_blocks.specs.declared.access_row.AccessRow.{AccessRow}
use Rattle.dd_blocks.specs.declared.plan.Plan.{Plan}
use Rattle.dd_blocks.specs.Grids.{element_count}
use Rattle.dd_blocks.specs.Layout.{elements_in}
use Rattle.dd_blocks.specs.Limits.{elements_limit}
use Rattle.dd_blocks.specs.Numbered.{array_row}
use Rattle.dd_blocks.specs.Tasks.{IsShown}
use Rattle.dd_script.specs.declared.piece.Piece.{Piece}
use Rattle.dd_check.specs.Above.{Above}
use Rattle.dd_check.specs.Rows.{array_of, shape_of_array}
use Rattle.dd_check.specs.Seen.{IsSeen, IsSmallView}
use Rattle.dd_check.proofs.KnownLemmas.{few_elements}

-- a view is refused for its range or for its part alone
pub no_fault : {B Q : Type 0} (r : Result View ViewFault) (fault : ViewFault) → r ≡ Err fault → ¬ B → ¬ Q → ((r ≡ Err BadRange) ↔ B) → ((r ≡ Err NotSquare) ↔ ((¬ B) × Q)) → ⊥
no_fault r BadRange e range square bad not = range (bad.0 e)
no_fault r NotSquare e range square bad not = square (not.0 e).1

-- the view of a piece is shown in its array
pub piece_shown : (s : Above) (p : Piece) (v : View) → Shows (array_of s p) (shape_of_array s p) p.rows p.cols p.part v → IsViewOf (shape_of_array s p) v → IsShown (array_row s.plan v.array) v
piece_shown s p v shows view =
    let at : IsShown (array_row s.plan (array_of s p)) v = record {
      rows = p.rows;
      cols = p.cols;
      shows = record { array = refl; height = shows.height; rows = shows.rows; cols = shows.cols; part = refl };
      view = view;
    } in
    subst (λ (a : ℕ). IsShown (array_row s.plan a) v) (sym shows.array) at

-- a view that is seen has few elements
pub seen_few : (plan : Plan) (a : AccessRow) → elements_in plan.arrays ≤ elements_limit → IsSeen plan a → length (index_list a.view) ≤ elements_limit
seen_few plan a few seen =
    let inside : element_count (array_row plan a.view.array).grid ≤ elements_limit = few_elements plan a.view.array few seen.0 in
    let listed = length_view a.view (_, seen.1.view) in
    let within = view_few _ a.view seen.1.view in
    omega (arith, listed, within, inside)

pub seen_small : (plan : Plan) (a : AccessRow) → elements_in plan.arrays ≤ elements_limit → IsSeen plan a → IsSmallView a.view
seen_small plan a few seen = record {
  view = (_, seen.1.view);
  few = λ part. let h = seen_few plan a few seen in omega (arith, h);
}

-- one more pair at the end of two lists
zip_push : {A B : Type 0} (R : A → B → Type 0) (xs : List A) (ys : List B) (x : A) (y : B) → AllZip R xs ys → R x y → AllZip R (xs ++ x ∷ []) (ys ++ y ∷ [])
zip_push R [] [] x y all here = (here, tt)
zip_push R [] (b ∷ bs) x y all here = absurd all
zip_push R (a ∷ more) [] x y all here = absurd all
zip_push R (a ∷ more) (b ∷ bs) x y all here = (all.0, zip_push R more bs x y all.1 here)

pub zip_more : {A B : Type 0} (R : A → B → Type 0) (xs : List A) (ys : List B) (i : ℕ) (x : A) (y : B) → i < length xs → x ≡ get_or xs i x → AllZip R (take i xs) ys → R x y → AllZip R (take (i + 1) xs) (ys ++ y ∷ [])
zip_more R xs ys i x y within is all here =
    rw (take_more xs i x within, ← is) (zip_push R (take i xs) ys x y all here)
