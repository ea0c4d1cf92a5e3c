-- The positions of a view stand within its array.
use Rattle.std.proofs.Common.{◌≡◌, ℕ, ◌+◌, ◌*◌, ◌/◌, ◌%◌, ◌<◌, List, get_or, ap, arith}
use Rattle.std.specs.List.{All, Contains}
use Rattle.std.proofs.lemmas.List.Elements.{All-contains_itself}
use Rattle.std.proofs.lemmas.Nat.{div-add-mod', mul-add-lt}
use Rattle.dd_views.specs.declared.shape.Shape.{Shape}
use Rattle.dd_views.specs.declared.view.View.{View}
use Rattle.dd_views.specs.IndexList.{index_list, position}
use Rattle.dd_views.specs.Views.{IsViewOf}
use Rattle.dd_views.proofs.ElementsLemmas.{found, number_low, numbers}

pub element_within : (shape : Shape) (v : View) (pos : ℕ) → IsViewOf shape v → Contains (index_list v) pos → pos < shape.rows * shape.cols
element_within shape v pos view there =
    let e = found (position v) v.part v.rows.count v.cols.count pos there in
    let at = numbers v pos e.0 e.1 (shape, view) e.2 in
    let r = number_low shape.rows v.rows e.0 view.rows e.2.row.0 e.2.row.1 in
    let c = number_low shape.cols v.cols e.1 view.cols e.2.col.0 e.2.col.1 in
    let row : pos % v.height < v.height = omega (arith, at.row, r.1, view.height) in
    let col : pos / v.height < shape.cols = omega (arith, at.col, c.1) in
    omega (arith, mul-add-lt (pos / v.height) v.height (pos % v.height) shape.cols col row, div-add-mod' pos v.height, ap (λ (h : ℕ). h * shape.cols) view.height)

pub positions_within : (shape : Shape) (v : View) → IsViewOf shape v → All (λ p. p < shape.rows * shape.cols) (index_list v)
positions_within shape v view k d lt = element_within shape v (get_or (index_list v) k d) view (All-contains_itself (index_list v) k d lt)
