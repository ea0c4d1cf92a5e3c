-- Views overlap where their patterns meet.
use Rattle.std.proofs.Common.{◌≡◌, ℕ, ◌+◌, ◌*◌, ◌-◌, ◌/◌, ◌%◌, ◌<◌, ◌^◌, ◌↔◌, refl, ap, sym, subst}
use Rattle.std.specs.List.{Contains}
use Rattle.dd_views.specs.declared.view.View.{View}
use Rattle.dd_views.specs.IndexList.{index_list, number_at_place, position}
use Rattle.dd_views.specs.Views.{IsView}
use Rattle.dd_views.proofs.ElementsLemmas.{contained, found, numbers}
use Rattle.dd_views.proofs.ViewLemmas.{small_cols, small_rows}
use Rattle.dd_alias.specs.declared.pattern.Pattern.{Pattern}
use Rattle.dd_alias.specs.Patterns.{HasElement, IsPattern, Meets, pattern_of}

pub meets_flipped : (a b flipped_a flipped_b : Pattern) → ((r c : ℕ) → HasElement flipped_a r c ↔ HasElement a c r) → ((r c : ℕ) → HasElement flipped_b r c ↔ HasElement b c r) → Meets flipped_a flipped_b ↔ Meets a b
meets_flipped a b flipped_a flipped_b of_a of_b = (
  (λ m. (m.1.0, (m.0, (of_a m.1.0 m.0).0 m.1.1, (of_b m.1.0 m.0).0 m.1.2))),
  (λ m. (m.1.0, (m.0, (of_a m.0 m.1.0).1 m.1.1, (of_b m.0 m.1.0).1 m.1.2))),
)

pub is_pattern : (v : View) → IsView v → 0 < v.height → v.height < 2 ^ 63 → IsPattern (pattern_of v)
is_pattern v view high small = record { rows = small_rows v view small; cols = small_cols v view high; square = view.1.square }

pub has_element : (v : View) (x : ℕ) → IsView v → Contains (index_list v) x → HasElement (pattern_of v) (x % v.height + 1) (x / v.height + 1)
has_element v x view there =
    let e = found (position v) v.part v.rows.count v.cols.count x there in
    let n = numbers v x e.0 e.1 view e.2 in (
      e.0,
      e.1,
      record {
        row = record { low = e.2.row.0; high = e.2.row.1; number = n.row };
        col = record { low = e.2.col.0; high = e.2.col.1; number = n.col };
        kept = e.2.kept;
      },
    )

element_in : (v : View) (r c : ℕ) → HasElement (pattern_of v) r c → Contains (index_list v) ((c - 1) * v.height + (r - 1))
element_in v r c e =
    let col : number_at_place v.cols e.1 - 1 ≡ c - 1 = ap (λ (n : ℕ). n - 1) e.2.col.number in
    let row : number_at_place v.rows e.0 - 1 ≡ r - 1 = ap (λ (n : ℕ). n - 1) e.2.row.number in
    contained (position v) v.part v.rows.count v.cols.count ((c - 1) * v.height + (r - 1)) e.0 e.1 (record {
      row = (e.2.row.low, e.2.row.high);
      col = (e.2.col.low, e.2.col.high);
      kept = e.2.kept;
      is = rw (col, row) refl;
    })

pub shared_meets : (a b : View) → IsView a → IsView b → a.height ≡ b.height → ((x : ℕ) × Contains (index_list a) x × Contains (index_list b) x) → Meets (pattern_of a) (pattern_of b)
shared_meets a b is_a is_b height both =
    let x = both.0 in
    (x / a.height + 1, (x % a.height + 1, has_element a x is_a both.1, subst (λ (h : ℕ). HasElement (pattern_of b) (x % h + 1) (x / h + 1)) (sym height) (has_element b x is_b both.2)))

pub meets_shared : (a b : View) → a.height ≡ b.height → Meets (pattern_of a) (pattern_of b) → (x : ℕ) × Contains (index_list a) x × Contains (index_list b) x
meets_shared a b height m =
    let c = m.0 in
    let r = m.1.0 in
    ((c - 1) * a.height + (r - 1), element_in a r c m.1.1, subst (λ (h : ℕ). Contains (index_list b) ((c - 1) * h + (r - 1))) (sym height) (element_in b r c m.1.2))
