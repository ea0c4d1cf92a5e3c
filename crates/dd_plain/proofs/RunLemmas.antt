-- Runs of a list, and of one that is cut in two.
use Rattle.std.proofs.Common.{◌≡◌, ℕ, zero, suc, ◌+◌, ◌-◌, ◌≤◌, ℤ, pos, List, [], ◌∷◌, ◌++◌, length, map, take, drop, get_or, set, refl, sym, ap, ◌∙◌, arith}
use Rattle.std.specs.List.{range_with_len}
use Rattle.std.proofs.lemmas.List.{append_assoc, get_or_append_left, get_or-append-add, drop-drop, length-drop, length-set, length-take-le, set-append_left, set-append_right}
use Rattle.dd_kernels.specs.declared.kernel.Kernel.{Kernel}
use Rattle.dd_kernels.specs.declared.shape.Shape.{Shape}
use Rattle.dd_kernels.specs.Lists.{element}
use Rattle.dd_kernels.specs.Shapes.{HaveShapes}
use Rattle.dd_kernels.specs.Table.{results}
use Rattle.dd_kernels.proofs.ListsLemmas.{ap2}
use Rattle.dd_meaning.specs.Steps.{put_at}
use Rattle.dd_plain.specs.Runs.{Wrote, WroteBoth, all_at, all_put}
use Rattle.dd_lists.proofs.ListsLemmas.{same_map}
use Rattle.dd_plain.proofs.WalkLemmas.{elements_run}
use Rattle.dd_meaning.proofs.WorldLemmas.{length_put, put_run}

-- what a slice of a run holds, and what a write to it leaves
pub run_read : (values : List ℤ) (a n : ℕ) → a + n ≤ length values → take (a + n - a) (drop a values) ≡ map (element values) (range_with_len a n)
run_read values a n within = let same : a + n - a ≡ n = omega arith in rw same (sym (elements_run values a n within))

pub slice_length : (values : List ℤ) (a n : ℕ) → a + n ≤ length values → length (take (a + n - a) (drop a values)) ≡ n
slice_length values a n within = length-take-le (a + n - a) (drop a values) (omega (arith, within, length-drop a values)) ∙ omega arith

pub run_made : (values made : List ℤ) (a n : ℕ) → length made ≡ n → a + n ≤ length values → take a values ++ (made ++ drop (a + n - a) (drop a values)) ≡ put_at (range_with_len a n) made values
run_made values made a n long within =
    let behind : a + (a + n - a) ≡ a + length made = omega (arith, long) in
    ap (λ l. take a values ++ (made ++ l)) (drop-drop (a + n - a) a values ∙ ap (λ (m : ℕ). drop m values) behind)
    ∙ sym (append_assoc (take a values) made (drop (a + length made) values))
    ∙ sym (put_run made values a (omega (arith, long, within)))
    ∙ ap (λ (m : ℕ). put_at (range_with_len a m) made values) long

-- a run of the front, and one of the back
put_front : (a n : ℕ) (vs front back : List ℤ) → a + n ≤ length front → put_at (range_with_len a n) vs (front ++ back) ≡ put_at (range_with_len a n) vs front ++ back
put_front a zero vs front back within = refl
put_front a (suc n) [] front back within = refl
put_front a (suc n) (v ∷ vs) front back within =
    ap (put_at (range_with_len (a + 1) n) vs) (set-append_left front back a v (omega (arith, within)))
    ∙ put_front (a + 1) n vs (set front a v) back (rw length-set (omega (arith, within)))

put_back : (m b n : ℕ) (vs front back : List ℤ) → length front ≡ m → put_at (range_with_len (m + b) n) vs (front ++ back) ≡ front ++ put_at (range_with_len b n) vs back
put_back m b zero vs front back long = refl
put_back m b (suc n) [] front back long = refl
put_back m b (suc n) (v ∷ vs) front back long =
    let place : m + b - m ≡ b = omega arith in
    let next : m + b + 1 ≡ m + (b + 1) = omega arith in
    ap (put_at (range_with_len (m + b + 1) n) vs) (set-append_right front back m (m + b) v long (omega arith) ∙ ap (λ (i : ℕ). front ++ set back i v) place)
    ∙ ap (λ (i : ℕ). put_at (range_with_len i n) vs (front ++ set back b v)) next
    ∙ put_back m (b + 1) n vs front (set back b v) long

-- both, in either order
put_both : (a n m : ℕ) (x y front back : List ℤ) → a + n ≤ length front → put_at (range_with_len (length front) m) y (put_at (range_with_len a n) x (front ++ back)) ≡ put_at (range_with_len a n) x front ++ put_at (range_with_len 0 m) y back
put_both a n m x y front back within =
    let start : length front ≡ length front + 0 = omega arith in
    ap2 (λ (i : ℕ) l. put_at (range_with_len i m) y l) start (put_front a n x front back within)
    ∙ put_back (length front) 0 m y (put_at (range_with_len a n) x front) back (length_put (range_with_len a n) x front)

put_both_back : (a n m : ℕ) (x y front back : List ℤ) → a + n ≤ length front → put_at (range_with_len a n) x (put_at (range_with_len (length front) m) y (front ++ back)) ≡ put_at (range_with_len a n) x front ++ put_at (range_with_len 0 m) y back
put_both_back a n m x y front back within =
    let start : length front ≡ length front + 0 = omega arith in
    ap (put_at (range_with_len a n) x) (ap (λ (i : ℕ). put_at (range_with_len i m) y (front ++ back)) start ∙ put_back (length front) 0 m y front back refl)
    ∙ put_front a n x front (put_at (range_with_len 0 m) y back) within

at_front : (a n : ℕ) (front back : List ℤ) → a + n ≤ length front → map (element front) (range_with_len a n) ≡ map (element (front ++ back)) (range_with_len a n)
at_front a n front back within = same_map (element front) (element (front ++ back)) a a n (λ i lt. sym (get_or_append_left front back (pos 0) (a + i) (omega (arith, lt, within))))

at_back : (m : ℕ) (front back : List ℤ) → map (element back) (range_with_len 0 m) ≡ map (element (front ++ back)) (range_with_len (length front) m)
at_back m front back = same_map (element back) (element (front ++ back)) 0 (length front) m (λ i lt. let none : 0 + i ≡ i = omega arith in rw none (sym (get_or-append-add front back i (pos 0))))

-- three lists
pub three_lists : {x x_new y y_new z z_new : List ℤ} → x ≡ x_new → y ≡ y_new → z ≡ z_new → x ∷ y ∷ z ∷ [] ≡ x_new ∷ y_new ∷ z_new ∷ []
three_lists x_same y_same z_same = ap2 (λ l (r : List (List ℤ)). l ∷ r) x_same (ap2 (λ l r. l ∷ r ∷ []) y_same z_same)

-- the first of two lists and the second
abbrev first_of : (l : List (List ℤ)) → List ℤ
first_of l = get_or l 0 []

abbrev second_of : (l : List (List ℤ)) → List ℤ
second_of l = get_or l 1 []

-- what a kernel wrote to runs of a front and a back, it wrote to the whole
in_order : (k : Kernel) (scalar : ℤ) (s t : Shape) (a n m : ℕ) (front back front_new back_new : List ℤ) (made : List (List ℤ)) → a + n ≤ length front → made ≡ results k scalar (s ∷ t ∷ []) (all_at (range_with_len a n ∷ range_with_len 0 m ∷ []) (front ∷ back ∷ [])) → HaveShapes (s ∷ t ∷ []) made → front_new ∷ back_new ∷ [] ≡ all_put (range_with_len a n ∷ range_with_len 0 m ∷ []) (front ∷ back ∷ []) made → WroteBoth k scalar (s ∷ t ∷ []) (range_with_len a n) (range_with_len (length front) m) (front ++ back) (front_new ++ back_new)
in_order k scalar s t a n m front back front_new back_new [] within is filled put = absurd filled
in_order k scalar s t a n m front back front_new back_new (x ∷ []) within is filled put = absurd filled.1
in_order k scalar s t a n m front back front_new back_new (x ∷ y ∷ z ∷ more) within is filled put = absurd filled.1.1
in_order k scalar s t a n m front back front_new back_new (x ∷ y ∷ []) within is filled put =
    let joined = ap2 (λ l r. l ++ r) (ap first_of put) (ap second_of put) in
    record {
      x = x;
      y = y;
      is = is ∙ ap2 (λ l r. results k scalar (s ∷ t ∷ []) (l ∷ r ∷ [])) (at_front a n front back within) (at_back m front back);
      first = joined ∙ sym (put_both a n m x y front back within);
      second = joined ∙ sym (put_both_back a n m x y front back within);
    }

pub wrote_in_order : {k : Kernel} {scalar : ℤ} {s t : Shape} (a n m : ℕ) (front back front_new back_new : List ℤ) → a + n ≤ length front → Wrote k scalar (s ∷ t ∷ []) (range_with_len a n ∷ range_with_len 0 m ∷ []) (front ∷ back ∷ []) (front_new ∷ back_new ∷ []) → WroteBoth k scalar (s ∷ t ∷ []) (range_with_len a n) (range_with_len (length front) m) (front ++ back) (front_new ++ back_new)
wrote_in_order {k} {scalar} {s} {t} a n m front back front_new back_new within w = in_order k scalar s t a n m front back front_new back_new w.made within w.is w.filled w.put

out_of_order : (k : Kernel) (scalar : ℤ) (s t : Shape) (a n m : ℕ) (front back front_new back_new : List ℤ) (made : List (List ℤ)) → a + n ≤ length front → made ≡ results k scalar (s ∷ t ∷ []) (all_at (range_with_len 0 m ∷ range_with_len a n ∷ []) (back ∷ front ∷ [])) → HaveShapes (s ∷ t ∷ []) made → back_new ∷ front_new ∷ [] ≡ all_put (range_with_len 0 m ∷ range_with_len a n ∷ []) (back ∷ front ∷ []) made → WroteBoth k scalar (s ∷ t ∷ []) (range_with_len (length front) m) (range_with_len a n) (front ++ back) (front_new ++ back_new)
out_of_order k scalar s t a n m front back front_new back_new [] within is filled put = absurd filled
out_of_order k scalar s t a n m front back front_new back_new (x ∷ []) within is filled put = absurd filled.1
out_of_order k scalar s t a n m front back front_new back_new (x ∷ y ∷ z ∷ more) within is filled put = absurd filled.1.1
out_of_order k scalar s t a n m front back front_new back_new (x ∷ y ∷ []) within is filled put =
    let joined = ap2 (λ l r. l ++ r) (ap second_of put) (ap first_of put) in
    record {
      x = x;
      y = y;
      is = is ∙ ap2 (λ l r. results k scalar (s ∷ t ∷ []) (l ∷ r ∷ [])) (at_back m front back) (at_front a n front back within);
      first = joined ∙ sym (put_both_back a n m y x front back within);
      second = joined ∙ sym (put_both a n m y x front back within);
    }

pub wrote_out_of_order : {k : Kernel} {scalar : ℤ} {s t : Shape} (a n m : ℕ) (front back front_new back_new : List ℤ) → a + n ≤ length front → Wrote k scalar (s ∷ t ∷ []) (range_with_len 0 m ∷ range_with_len a n ∷ []) (back ∷ front ∷ []) (back_new ∷ front_new ∷ []) → WroteBoth k scalar (s ∷ t ∷ []) (range_with_len (length front) m) (range_with_len a n) (front ++ back) (front_new ++ back_new)
wrote_out_of_order {k} {scalar} {s} {t} a n m front back front_new back_new within w = out_of_order k scalar s t a n m front back front_new back_new w.made within w.is w.filled w.put
