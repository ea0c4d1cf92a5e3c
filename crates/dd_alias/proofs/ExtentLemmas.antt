-- What the rows and columns between which elements stand tell of accesses.
use Rattle.std.proofs.Common.{◌≡◌, ◌≤◌, max, ◌%◌, ◌/◌, ◌+◌, ◌<◌, ℕ, ap, sym, ◌∙◌, subst, arith, unsigned_abs}
use Rattle.std.specs.List.{Contains}
use Rattle.dd_views.specs.declared.part.Part.{Part}
use Rattle.dd_views.specs.declared.shape.Shape.{Shape}
use Rattle.dd_views.specs.declared.span3.Span3.{Span3}
use Rattle.dd_views.specs.declared.view.View.{View}
use Rattle.dd_views.specs.IndexList.{index_list, keeps}
use Rattle.dd_views.specs.Span.{IsSmallSpan}
use Rattle.dd_views.specs.Views.{IsView}
use Rattle.dd_views.proofs.ViewLemmas.{small_cols, small_rows}
use Rattle.dd_alias.specs.declared.extent.Extent.{Extent}
use Rattle.dd_alias.specs.declared.interval.Interval.{Interval}
use Rattle.dd_alias.specs.Clashes.{Clash}
use Rattle.dd_alias.specs.Extents.{Face, IsShown}
use Rattle.dd_alias.specs.Intervals.{IsBound, Meet}
use Rattle.dd_alias.specs.Overlap.{Overlaps}
use Rattle.dd_alias.specs.Patterns.{HasElement, IsSolid, pattern_of}
use Rattle.dd_alias.specs.Places.{IsBetween, IsIn}
use Rattle.dd_alias.proofs.MeetingLemmas.{has_element, meets_shared}
use Rattle.dd_alias.proofs.PlaceLemmas.{between_numbers, solid_in}

-- a view without rows or columns has no elements
pub none_of_rows : (v : View) (x : ℕ) → IsView v → v.rows.count ≡ 0 → Contains (index_list v) x → ⊥
none_of_rows v x view none there =
    let e = has_element v x view there in
    absurd (omega (arith, e.2.row.low, e.2.row.high))

pub none_of_cols : (v : View) (x : ℕ) → IsView v → v.cols.count ≡ 0 → Contains (index_list v) x → ⊥
none_of_cols v x view none there =
    let e = has_element v x view there in
    absurd (omega (arith, e.2.col.low, e.2.col.high))

between_at : (s : Span3) (b : Interval) (x : ℕ) → IsSmallSpan s → IsBound s b → IsIn s x → IsBetween b x
between_at s b x small bound at =
    let n = between_numbers s 1 s.count at.0 small (omega arith) (omega (arith, at.1.low, at.1.high)) (omega arith) at.1.low at.1.high in
    (omega (arith, bound.0, n.0, at.1.number), omega (arith, bound.1, n.1, at.1.number))

solid_at : (s : Span3) (b : Interval) (x : ℕ) → IsSmallSpan s → IsBound s b → 0 < s.count → unsigned_abs s.step ≡ 1 → IsBetween b x → IsIn s x
solid_at s b x small bound some one between =
    solid_in s x small some one (omega (arith, bound.0, between.0)) (omega (arith, bound.1, between.1))

-- an element stands between the rows and columns
element_between : (e : Extent) (r c : ℕ) → IsView e.access.now.view → HasElement (pattern_of e.access.now.view) r c → IsBetween e.rows r × IsBetween e.cols c
element_between e r c view has = (
  between_at e.access.now.view.rows e.rows r (small_rows e.access.now.view view e.small) e.between_rows (has.0, has.2.row),
  between_at e.access.now.view.cols e.cols c (small_cols e.access.now.view view e.high) e.between_cols (has.1, has.2.col),
)

-- a solid one has all elements there
between_element : (e : Extent) (r c : ℕ) → IsView e.access.now.view → IsSolid e.access.now.view → IsBetween e.rows r → IsBetween e.cols c → HasElement (pattern_of e.access.now.view) r c
between_element e r c view solid rows cols =
    let v = e.access.now.view in
    let row = solid_at v.rows e.rows r (small_rows v view e.small) e.between_rows e.some_rows solid.1 rows in
    let col = solid_at v.cols e.cols c (small_cols v view e.high) e.between_cols e.some_cols solid.2 cols in
    (row.0, col.0, record { row = row.1; col = col.1; kept = ap (λ (part : Part). keeps part row.0 col.0) solid.0 })

-- what is in two intervals lets them meet, and where two that have numbers meet, some number is in both
meet_at : (a b : Interval) (x : ℕ) → IsBetween a x → IsBetween b x → Meet a b
meet_at a b x in_a in_b = (omega (arith, in_a.0, in_b.1), omega (arith, in_b.0, in_a.1))

common_of : (s t : Span3) (a b : Interval) → IsBound s a → IsBound t b → Meet a b → (x : ℕ) × IsBetween a x × IsBetween b x
common_of s t a b of_a of_b meet =
    let order_a : a.low ≤ a.high = omega (arith, of_a.0, of_a.1) in
    let order_b : b.low ≤ b.high = omega (arith, of_b.0, of_b.1) in
    (max a.low b.low, (omega arith, omega (arith, meet.1)), (omega arith, omega (arith, meet.0)))

same_heights : (shape_at : ℕ → Shape) (a b : Extent) → IsShown shape_at a → IsShown shape_at b → a.access.now.view.array ≡ b.access.now.view.array → a.access.now.view.height ≡ b.access.now.view.height
same_heights shape_at a b of_a of_b array =
    of_a.height ∙ ap (λ (n : ℕ). (shape_at n).rows) array ∙ sym of_b.height

-- what clashes faces each other
pub clash_faces : (shape_at : ℕ → Shape) (a b : Extent) → IsShown shape_at a → IsShown shape_at b → Clash a.access.now b.access.now → Face a b
clash_faces shape_at a b of_a of_b clash =
    let va = a.access.now.view in
    let vb = b.access.now.view in
    let x = clash.1.1.0 in
    let height = same_heights shape_at a b of_a of_b clash.1.0 in
    let view_a : IsView va = (shape_at va.array, of_a) in
    let view_b : IsView vb = (shape_at vb.array, of_b) in
    let in_a = element_between a (x % va.height + 1) (x / va.height + 1) view_a (has_element va x view_a clash.1.1.1) in
    let in_b = element_between b (x % va.height + 1) (x / va.height + 1) view_b (subst (λ (h : ℕ). HasElement (pattern_of vb) (x % h + 1) (x / h + 1)) (sym height) (has_element vb x view_b clash.1.1.2)) in
    record {
      array = a.of_array ∙ clash.1.0 ∙ sym b.of_array;
      rows = meet_at a.rows b.rows (x % va.height + 1) in_a.0 in_b.0;
      cols = meet_at a.cols b.cols (x / va.height + 1) in_a.1 in_b.1;
    }

-- what is solid and faces each other shares an element
pub face_overlaps : (shape_at : ℕ → Shape) (a b : Extent) → IsShown shape_at a → IsShown shape_at b → IsSolid a.access.now.view → IsSolid b.access.now.view → Face a b → Overlaps a.access.now.view b.access.now.view
face_overlaps shape_at a b of_a of_b solid_a solid_b face =
    let va = a.access.now.view in
    let vb = b.access.now.view in
    let array : va.array ≡ vb.array = sym a.of_array ∙ face.array ∙ b.of_array in
    let height = same_heights shape_at a b of_a of_b array in
    let view_a : IsView va = (shape_at va.array, of_a) in
    let view_b : IsView vb = (shape_at vb.array, of_b) in
    let row = common_of va.rows vb.rows a.rows b.rows a.between_rows b.between_rows face.rows in
    let col = common_of va.cols vb.cols a.cols b.cols a.between_cols b.between_cols face.cols in
    let in_a = between_element a row.0 col.0 view_a solid_a row.1 col.1 in
    let in_b = between_element b row.0 col.0 view_b solid_b row.2 col.2 in
    (array, meets_shared va vb height (col.0, (row.0, in_a, in_b)))
