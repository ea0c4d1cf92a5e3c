-- Numbers that are added to a list, and the numbers of the blocks that a view touches.
use Rattle.std.proofs.Common.{◌≡◌, ◌⊎◌, ◌↔◌, ℕ, ◌+◌, ◌*◌, ◌-◌, ◌/◌, ◌%◌, ◌<◌, ◌≤◌, min, List, [], ◌∷◌, ◌++◌, inl, inr, ⊎_elim, ap, sym, ◌∙◌, subst, refl, arith}
use Rattle.std.specs.List.{Contains}
use Rattle.std.proofs.lemmas.Bool.{cases_lt}
use Rattle.std.proofs.lemmas.List.Elements.{Contains-append_left, Contains-push, Contains-push_cases}
use Rattle.std.proofs.lemmas.Nat.{mul-add-lt, div-add-mod'}
use Rattle.dd_views.specs.declared.shape.Shape.{Shape}
use Rattle.dd_views.specs.declared.span3.Span3.{Span3}
use Rattle.dd_views.specs.declared.view.View.{View}
use Rattle.dd_views.specs.IndexList.{index_list, number_at_place, position}
use Rattle.dd_views.specs.Views.{IsViewOf}
use Rattle.dd_views.proofs.ElementsLemmas.{IsElement, contained, found, number_low, numbers}
use Rattle.dd_blocks.specs.declared.array_row.ArrayRow.{ArrayRow}
use Rattle.dd_blocks.specs.Grids.{block_cols, block_count, block_of, block_rows, col_of, row_of}
use Rattle.dd_blocks.specs.Tasks.{shape_in}
use Rattle.dd_touch.specs.Strips.{AreKept, IsSlice, strip_at}
use Rattle.dd_touch.specs.Touching.{Adds, Between, HasSmallNumbers, IsBlockAt, IsTouchedBy, IsTouchedIn, number_of_block}

adds_one : (xs : List ℕ) (y z : ℕ) → z ≡ y → Adds (λ n. y ≡ n) xs (xs ++ z ∷ [])
adds_one xs y z same = record {
  exact = λ n. (
    (λ has. ⊎_elim (λ (old : Contains xs n). inl old) (λ (is : z ≡ n). inr (sym same ∙ is)) (Contains-push_cases xs z n has)),
    (λ either. ⊎_elim
        (λ (old : Contains xs n). Contains-append_left xs (z ∷ []) n old)
        (λ (new : y ≡ n). subst (λ (m : ℕ). Contains (xs ++ z ∷ []) m) (same ∙ new) (Contains-push xs z))
        either),
  );
}

adds_same : (P Q : ℕ → Type 0) (a b : List ℕ) → ((n : ℕ) → P n ↔ Q n) → Adds P a b → Adds Q a b
adds_same P Q a b same adds = record {
  exact = λ n. (
    (λ has. ⊎_elim (λ (old : Contains a n). inl old) (λ (p : P n). inr ((same n).0 p)) ((adds.exact n).0 has)),
    (λ either. (adds.exact n).1 (⊎_elim (λ (old : Contains a n). inl old) (λ (q : Q n). inr ((same n).1 q)) either)),
  );
}

adds_both : (P Q R : ℕ → Type 0) (a b c : List ℕ) → ((n : ℕ) → R n ↔ (P n ⊎ Q n)) → Adds P a b → Adds Q b c → Adds R a c
adds_both P Q R a b c join first second = record {
  exact = λ n. (
    (λ has. ⊎_elim
        (λ (old : Contains b n). ⊎_elim (λ (older : Contains a n). inl older) (λ (p : P n). inr ((join n).1 (inl p))) ((first.exact n).0 old))
        (λ (q : Q n). inr ((join n).1 (inr q)))
        ((second.exact n).0 has)),
    (λ either. (second.exact n).1 (⊎_elim
        (λ (old : Contains a n). inl ((first.exact n).1 (inl old)))
        (λ (r : R n). ⊎_elim (λ (p : P n). inl ((first.exact n).1 (inr p))) (λ (q : Q n). inr q) ((join n).0 r))
        either)),
  );
}

-- on to an end, where from i on all are alike
between_on : (P : ℕ → ℕ → Type 0) (low i end high : ℕ) → low ≤ i → i < end → i < high → ((k n : ℕ) → i ≤ k → k < end → P k n ↔ P i n)
    → (n : ℕ) → Between P low (min end high) n ↔ (Between P low (min i high) n ⊎ P i n)
between_on P low i end high le before within alike n = (
  (λ some. ⊎_elim
      (λ (lt : some.0 < i). inl (some.0, some.1, omega (arith, lt, within), some.3))
      (λ (ge : i ≤ some.0). inr ((alike some.0 n ge (omega (arith, some.2))).0 some.3))
      (cases_lt some.0 i)),
  (λ either. ⊎_elim
      (λ (some : Between P low (min i high) n). (some.0, some.1, omega (arith, some.2, before), some.3))
      (λ (p : P i n). (i, le, omega (arith, before, within), p))
      either),
)

-- the block of a slice of the rows is added
pub adds_slice : (array : ArrayRow) (rows : Span3) (col low place high strip end z : ℕ) (a b : List ℕ) → low ≤ place → place < high → IsSlice rows array.grid.brows place strip end → z ≡ number_of_block array strip col
    → Adds (Between (IsBlockAt array rows col) low (min place high)) a b → Adds (Between (IsBlockAt array rows col) low (min end high)) a (b ++ z ∷ [])
adds_slice array rows col low place high strip end z a b le lt slice is so_far =
    let P : ℕ → ℕ → Type 0 = IsBlockAt array rows col in
    let here : z ≡ number_of_block array (strip_at rows array.grid.brows place) col = omega (arith, is, slice.each place (omega arith) slice.some) in
    adds_both (Between P low (min place high)) (P place) (Between P low (min end high)) a b (b ++ z ∷ [])
    (between_on P low place end high le slice.some lt (λ k n from to.
    let same : number_of_block array (strip_at rows array.grid.brows k) col ≡ number_of_block array (strip_at rows array.grid.brows place) col = omega (arith, slice.each k from to, slice.each place (omega arith) slice.some) in
    ((λ (p : P k n). sym same ∙ p), (λ (p : P place n). same ∙ p))))
    so_far
    (adds_one b (number_of_block array (strip_at rows array.grid.brows place) col) z here)

-- the blocks of a slice of the columns are those of the rows that the part keeps in it
column_on : (array : ArrayRow) (view : View) (place strip end low high : ℕ) → 1 ≤ place → IsSlice view.cols array.grid.bcols place strip end → AreKept view.part place end view.rows.count low high
    → (n : ℕ) → Between (IsTouchedIn array view) 1 end n ↔ (Between (IsTouchedIn array view) 1 place n ⊎ Between (IsBlockAt array view.rows strip) low high n)
column_on array view place strip end low high some slice kept n = (there, back)
  where
    there : Between (IsTouchedIn array view) 1 end n → Between (IsTouchedIn array view) 1 place n ⊎ Between (IsBlockAt array view.rows strip) low high n
    there has = ⊎_elim
        (λ (lt : has.0 < place). inl (has.0, has.1, lt, has.3))
        (λ (ge : place ≤ has.0).
        let i = has.3.0 in
        let of_slice : strip_at view.cols array.grid.bcols has.0 ≡ strip = slice.each has.0 ge has.2 in
        let rows = (kept.exact i has.3.1 has.3.2).1 (has.0, ge, has.2, has.3.3) in
        inr (i, rows.0, rows.1, subst (λ (c : ℕ). IsBlockAt array view.rows c i n) of_slice has.3.4))
        (cases_lt has.0 place)

    back : Between (IsTouchedIn array view) 1 place n ⊎ Between (IsBlockAt array view.rows strip) low high n → Between (IsTouchedIn array view) 1 end n
    back either = ⊎_elim
        (λ (has : Between (IsTouchedIn array view) 1 place n). (has.0, has.1, omega (arith, has.2, slice.some), has.3))
        (λ (has : Between (IsBlockAt array view.rows strip) low high n).
        let i = has.0 in
        let above : 1 ≤ i = omega (arith, has.1, kept.some) in
        let within : i ≤ view.rows.count = omega (arith, has.2, kept.end) in
        let col = (kept.exact i above within).0 (has.1, has.2) in
        let of_slice : strip_at view.cols array.grid.bcols col.0 ≡ strip = slice.each col.0 col.1 col.2 in
        (col.0, omega (arith, some, col.1), col.2, (i, above, within, col.3, subst (λ (c : ℕ). IsBlockAt array view.rows c i n) (sym of_slice) has.3)))
        either

pub adds_column : (array : ArrayRow) (view : View) (place strip end low high : ℕ) (a b c : List ℕ) → 1 ≤ place → IsSlice view.cols array.grid.bcols place strip end → AreKept view.part place end view.rows.count low high
    → Adds (Between (IsTouchedIn array view) 1 place) a b → Adds (Between (IsBlockAt array view.rows strip) low high) b c → Adds (Between (IsTouchedIn array view) 1 end) a c
adds_column array view place strip end low high a b c some slice kept so_far next =
    adds_both (Between (IsTouchedIn array view) 1 place) (Between (IsBlockAt array view.rows strip) low high) (Between (IsTouchedIn array view) 1 end) a b c (column_on array view place strip end low high some slice kept) so_far next

-- the numbers of blocks fit
pub number_fits : (array : ArrayRow) (i j : ℕ) → HasSmallNumbers array → i < block_rows array.grid → j < block_cols array.grid → number_of_block array i j < array.first_block + block_count array.grid
number_fits array i j small row col = omega (arith, mul-add-lt j (block_rows array.grid) i (block_cols array.grid) col row)

-- the block of an element by the places of its row and its column
block_at : (array : ArrayRow) (view : View) (i k pos : ℕ) → IsViewOf (shape_in array) view → IsElement (position view) view.part view.rows.count view.cols.count pos i k
    → number_of_block array (strip_at view.rows array.grid.brows i) (strip_at view.cols array.grid.bcols k) ≡ array.first_block + block_of array.grid pos
block_at array view i k pos is_view element =
    let at = numbers view pos i k (shape_in array, is_view) element in
    let row : number_at_place view.rows i - 1 ≡ row_of array.grid pos = omega (arith, at.row, ap (λ (h : ℕ). pos % h) is_view.height) in
    let col : number_at_place view.cols k - 1 ≡ col_of array.grid pos = omega (arith, at.col, ap (λ (h : ℕ). pos / h) is_view.height) in
    rw (row, col) refl

-- the elements of all columns are those of the view
touched_is : (array : ArrayRow) (view : View) → IsViewOf (shape_in array) view → (n : ℕ) → Between (IsTouchedIn array view) 1 (view.cols.count + 1) n ↔ IsTouchedBy array view n
touched_is array view is_view n = (there, back)
  where
    there : Between (IsTouchedIn array view) 1 (view.cols.count + 1) n → IsTouchedBy array view n
    there some =
        let k = some.0 in
        let i = some.3.0 in
        let element : IsElement (position view) view.part view.rows.count view.cols.count (position view i k) i k = record {
          row = (some.3.1, some.3.2);
          col = (some.1, omega (arith, some.2));
          kept = some.3.3;
          is = refl;
        } in
        (position view i k, contained (position view) view.part view.rows.count view.cols.count (position view i k) i k element, sym (block_at array view i k (position view i k) is_view element) ∙ some.3.4)

    back : IsTouchedBy array view n → Between (IsTouchedIn array view) 1 (view.cols.count + 1) n
    back has =
        let e = found (position view) view.part view.rows.count view.cols.count has.0 has.1 in
        (e.1, e.2.col.0, omega (arith, e.2.col.1), (e.0, e.2.row.0, e.2.row.1, e.2.kept, block_at array view e.0 e.1 has.0 is_view e.2 ∙ has.2))

pub adds_touched : (array : ArrayRow) (view : View) (place : ℕ) (a b : List ℕ) → IsViewOf (shape_in array) view → place ≡ view.cols.count + 1 → Adds (Between (IsTouchedIn array view) 1 place) a b → Adds (IsTouchedBy array view) a b
adds_touched array view place a b is_view end so_far =
    adds_same (Between (IsTouchedIn array view) 1 (view.cols.count + 1)) (IsTouchedBy array view) a b (touched_is array view is_view) (subst (λ (k : ℕ). Adds (Between (IsTouchedIn array view) 1 k) a b) end so_far)
