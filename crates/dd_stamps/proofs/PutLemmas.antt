-- What a column of a view puts at the places of a block.
use Rattle.std.proofs.Common.{◌≡◌, ◌≢◌, ℕ, zero, suc, ◌+◌, ◌<◌, ◌≤◌, ℤ, pos, Bool, true, false, ◌||◌, cond, ◌⊎◌, inl, inr, List, [], ◌∷◌, ◌++◌, length, take, drop, get_or, refl, sym, ap, ◌∙◌, arith, ⊎_elim, eq-eqb}
use Rattle.std.specs.Prelude.{nat_eq, slice_index, Contains}
use Rattle.std.proofs.lemmas.Bool.{cases_Bool}
use Rattle.std.proofs.lemmas.Bool.Decides.{eqb_tells}
use Rattle.std.proofs.lemmas.List.{drop-drop, get_or_default, get_or-drop, get_or-take, length-drop, length-take-le, take-append-drop}
use Rattle.std.proofs.lemmas.List.Folds.{list_any-append}
use Rattle.dd_kernels.specs.Lists.{element}
use Rattle.dd_kernels.proofs.ListsLemmas.{ap2}
use Rattle.dd_views.specs.declared.column.Column.{Column}
use Rattle.dd_views.specs.declared.view.View.{View}
use Rattle.dd_views.specs.IndexList.{column_list, columns_from, index_list}
use Rattle.dd_views.specs.Positions.{position_in, positions_in}
use Rattle.dd_views.proofs.PositionsLemmas.{length_positions}
use Rattle.dd_views.proofs.WalkLemmas.{column_left}
use Rattle.dd_blocks.specs.declared.grid.Grid.{Grid}
use Rattle.dd_blocks.specs.Grids.{IsGrid, block_count, block_of, block_size, place_in_block, pos_of}
use Rattle.dd_blocks.proofs.GridLemmas.{block_back, in_block, place_back, position_back}
use Rattle.dd_meaning.specs.Written.{put_value}
use Rattle.dd_meaning.proofs.ValuesLemmas.{put_nothing}
use Rattle.dd_spans.specs.Numbers.{is_among}
use Rattle.dd_spans.proofs.MembersLemmas.{is_among_decides}
use Rattle.dd_stamps.specs.declared.piece.Piece.{Piece}
use Rattle.dd_stamps.specs.Columns.{IsColumnIn, IsPieceOf, place_at}
use Rattle.dd_stamps.specs.Placed.{HasPlaced}
use Rattle.dd_stamps.proofs.ColumnsLemmas.{column_among, position_listed}

-- values of two lists of positions, one after the other
pub put_append : (ps qs : List ℕ) (vs ws : List ℤ) (p : ℕ) (b : ℤ) → length ps ≡ length vs → put_value (ps ++ qs) (vs ++ ws) p b ≡ put_value qs ws p (put_value ps vs p b)
put_append [] qs [] ws p b same = refl
put_append [] qs (v ∷ vs) ws p b same = absurd (omega (arith, same))
put_append (q ∷ ps) qs [] ws p b same = absurd (omega (arith, same))
put_append (q ∷ ps) qs (v ∷ vs) ws p b same = put_append ps qs vs ws p (cond (nat_eq q p) v b) (omega (arith, same))

put_behind : (ps : List ℕ) (vs : List ℤ) (p : ℕ) (b : ℤ) → ((k : ℕ) → k < length ps → get_or ps k 0 ≢ p) → put_value ps vs p b ≡ b
put_behind [] vs p b apart = refl
put_behind (q ∷ ps) [] p b apart = refl
put_behind (q ∷ ps) (v ∷ vs) p b apart =
    let other : nat_eq q p ≡ false = elim (eqb_tells q p) [ inl h ↦ absurd (apart 0 (omega arith) h.1) | inr h ↦ h.0 ] in
    rw other (put_behind ps vs p b (λ k lt. apart (suc k) (omega arith)))

-- the last value at a position counts
pub put_hit : (ps : List ℕ) (vs : List ℤ) (i : ℕ) (b : ℤ) → length ps ≡ length vs → i < length ps → ((k : ℕ) → i < k → k < length ps → get_or ps k 0 ≢ get_or ps i 0) → put_value ps vs (get_or ps i 0) b ≡ element vs i
put_hit [] vs i b same lt apart = absurd (omega arith)
put_hit (q ∷ ps) [] i b same lt apart = absurd (omega (arith, same))
put_hit (q ∷ ps) (v ∷ vs) zero b same lt apart =
    let there : nat_eq q q ≡ true = eq-eqb q q refl in
    rw there (put_behind ps vs q v (λ k less. apart (suc k) (omega arith) (omega arith)))
put_hit (q ∷ ps) (v ∷ vs) (suc i) b same lt apart = put_hit ps vs i (cond (nat_eq q (get_or ps i 0)) v b) (omega (arith, same)) (omega arith) (λ k less few. apart (suc k) (omega arith) (omega arith))

-- a place of a column that is at a position, or none
abbrev pub IsHit : Grid → Column → Piece → ℕ → ℕ → Type 0
IsHit g c p at q = (i : ℕ) × (p.from ≤ i) × (i < p.end) × (position_in c i ≡ at) × (place_at c p i ≡ q)

abbrev pub IsMiss : Column → Piece → ℕ → ℕ → Type 0
IsMiss c p at q = (is_among (positions_in c) at ≡ false) × ((i : ℕ) → p.from ≤ i → i < p.end → place_at c p i ≢ q)

pub piece_cases : (g : Grid) (block : ℕ) (c : Column) (p : Piece) (q : ℕ) → IsGrid g → block < block_count g → IsColumnIn g c → IsPieceOf g block c p → q < block_size g block
    → IsHit g c p (pos_of g block q) q ⊎ IsMiss c p (pos_of g block q) q
piece_cases g block c p q grid few column piece lt = ⊎_elim
    (λ (yes : is_among (positions_in c) (pos_of g block q) ≡ true).
    let there : Contains (positions_in c) (pos_of g block q) = (is_among_decides (positions_in c) (pos_of g block q)).0 yes in
    let i : ℕ = there.0 in
    let less : there.0 < c.count = omega (arith, there.1, length_positions c) in
    let at : position_in c there.0 ≡ pos_of g block q = sym (position_listed c there.0 less) ∙ get_or_default (positions_in c) there.0 0 (pos_of g block q) there.1 ∙ there.2 in
    let within = piece.others there.0 less (ap (block_of g) at ∙ block_back g block q grid few lt) in
    inl (there.0, within.0, within.1, at, sym (piece.place_is there.0 within.0 within.1) ∙ ap (place_in_block g) at ∙ place_back g block q grid few lt))
    (λ (no : is_among (positions_in c) (pos_of g block q) ≡ false).
    inr (
      no,
      λ i from less e.
          let i_less : i < c.count = omega (arith, less, piece.few) in
          let at : position_in c i ≡ pos_of g block q =
          sym (position_back g (position_in c i) grid (column.inside i i_less)) ∙ ap2 (pos_of g) (piece.here i from less) (piece.place_is i from less ∙ e) in
          let listed : get_or (positions_in c) i 0 ≡ pos_of g block q = position_listed c i i_less ∙ at in
          let is : Contains (positions_in c) (pos_of g block q) = (i, omega (arith, i_less, length_positions c), get_or_default (positions_in c) i (pos_of g block q) 0 (omega (arith, i_less, length_positions c)) ∙ listed) in
          let clash : true ≡ false = sym ((is_among_decides (positions_in c) (pos_of g block q)).1 is) ∙ no in
          absurd (cc),
    ))
    (cases_Bool (is_among (positions_in c) (pos_of g block q)))

-- what the column leaves at a place of the block
pub column_put : (g : Grid) (block : ℕ) (v : View) (j : ℕ) (c : Column) (p : Piece) (vs old new : List ℤ) (q : ℕ) → IsGrid g → block < block_count g → IsColumnIn g c → IsPieceOf g block c p
    → ((i k : ℕ) → i < k → k < c.count → position_in c i ≢ position_in c k) → length vs ≡ c.count → q < block_size g block
    → HasPlaced (pos 0) p.from p.end (place_at c p) (element vs) old new → element new q ≡ put_value (positions_in c) vs (pos_of g block q) (element old q)
column_put g block v j c p vs old new q grid few column piece apart long lt placed = elim (piece_cases g block c p q grid few column piece lt) [
  | inl hit ↦
      let less : hit.0 < c.count = omega (arith, hit.2, piece.few) in
      let listed : (k : ℕ) → k < c.count → get_or (positions_in c) k 0 ≡ position_in c k = λ k le. position_listed c k le in
      ap (element new) (sym hit.4)
      ∙ placed.placed hit.0 hit.1 hit.2
      ∙ sym (put_hit (positions_in c) vs hit.0 (element old q) (length_positions c ∙ sym long) (omega (arith, less, length_positions c))
      (λ k above le e. let k_less : k < c.count = omega (arith, le, length_positions c) in apart hit.0 k above k_less (sym (listed hit.0 less) ∙ sym e ∙ listed k k_less)))
      ∙ ap (λ (n : ℕ). put_value (positions_in c) vs n (element old q)) (listed hit.0 less ∙ hit.3)
  | inr miss ↦ placed.others q miss.1 ∙ sym (put_nothing (positions_in c) vs (pos_of g block q) (element old q) miss.0)
]

pub column_stamped : (g : Grid) (block : ℕ) (c : Column) (p : Piece) (task : ℕ) (old new : List ℕ) (q : ℕ) → IsGrid g → block < block_count g → IsColumnIn g c → IsPieceOf g block c p
    → q < block_size g block → HasPlaced 0 p.from p.end (place_at c p) (λ _. task) old new → slice_index new q ≡ cond (is_among (positions_in c) (pos_of g block q)) task (slice_index old q)
column_stamped g block c p task old new q grid few column piece lt placed = elim (piece_cases g block c p q grid few column piece lt) [
  | inl hit ↦
      let less : hit.0 < c.count = omega (arith, hit.2, piece.few) in
      let is : Contains (positions_in c) (pos_of g block q) = (hit.0, omega (arith, less, length_positions c), get_or_default (positions_in c) hit.0 (pos_of g block q) 0 (omega (arith, less, length_positions c)) ∙ position_listed c hit.0 less ∙ hit.3) in
      let yes : is_among (positions_in c) (pos_of g block q) ≡ true = (is_among_decides (positions_in c) (pos_of g block q)).1 is in
      rw yes (ap (slice_index new) (sym hit.4) ∙ placed.placed hit.0 hit.1 hit.2)
  | inr miss ↦ let no = miss.0 in rw no (placed.others q miss.1)
]

-- one column less that is left
pub put_left : (v : View) (j : ℕ) (c : Column) (at : ℕ) (from : List ℤ) (p : ℕ) (b : ℤ) → j < v.cols.count → positions_in c ≡ column_list v (j + 1) → at + c.count ≤ length from
    → put_value (columns_from v (j + 1)) (drop (at + c.count) from) p (put_value (positions_in c) (take c.count (drop at from)) p b) ≡ put_value (columns_from v j) (drop at from) p b
put_left v j c at from p b lt value room =
    let rest : drop (at + c.count) from ≡ drop c.count (drop at from) = sym (drop-drop c.count at from) in
    let long : length (take c.count (drop at from)) ≡ c.count = length-take-le c.count (drop at from) (omega (arith, room, length-drop at from)) in
    ap (λ (l : List ℤ). put_value (columns_from v (j + 1)) l p (put_value (positions_in c) (take c.count (drop at from)) p b)) rest
    ∙ sym (put_append (positions_in c) (columns_from v (j + 1)) (take c.count (drop at from)) (drop c.count (drop at from)) p b (length_positions c ∙ sym long))
    ∙ ap2 (λ (ps : List ℕ) (l : List ℤ). put_value ps l p b) (ap (λ (xs : List ℕ). xs ++ columns_from v (j + 1)) value ∙ sym (column_left v j lt)) (take-append-drop c.count (drop at from))

cond_twice : (a b : Bool) (t x : ℕ) → cond b t (cond a t x) ≡ cond (a || b) t x
cond_twice true true t x = refl
cond_twice true false t x = refl
cond_twice false b t x = refl

pub stamp_left : (v : View) (j : ℕ) (c : Column) (task p x : ℕ) → j < v.cols.count → positions_in c ≡ column_list v (j + 1)
    → cond (is_among (columns_from v (j + 1)) p) task (cond (is_among (positions_in c) p) task x) ≡ cond (is_among (columns_from v j) p) task x
stamp_left v j c task p x lt value =
    cond_twice (is_among (positions_in c) p) (is_among (columns_from v (j + 1)) p) task x
    ∙ ap (λ (b : Bool). cond b task x) (sym (list_any-append (λ m. nat_eq m p) (positions_in c) (columns_from v (j + 1))) ∙ ap (λ (xs : List ℕ). is_among xs p) (ap (λ (xs : List ℕ). xs ++ columns_from v (j + 1)) value ∙ sym (column_left v j lt)))

-- the values of a column among those of a view
pub placed_long : (at count : ℕ) (from : List ℤ) → at + count ≤ length from → length (take count (drop at from)) ≡ count
placed_long at count from room = length-take-le count (drop at from) (omega (arith, room, length-drop at from))

pub placed_behind : (c : Column) (p : Piece) (at : ℕ) (from old new : List ℤ) → at + c.count ≤ length from → p.end ≤ c.count
    → HasPlaced (pos 0) p.from p.end (place_at c p) (λ i. element from (at + i)) old new → HasPlaced (pos 0) p.from p.end (place_at c p) (element (take c.count (drop at from))) old new
placed_behind c p at from old new room few placed = record {
  count = placed.count;
  placed = λ i low lt.
      placed.placed i low lt ∙ sym (get_or-take c.count (drop at from) i (pos 0) (omega (arith, lt, few)) ∙ get_or-drop at from i (pos 0));
  others = placed.others;
}

-- the places of a piece are of positions of the view
pub piece_written : (g : Grid) (block : ℕ) (v : View) (j : ℕ) (c : Column) (p : Piece) (written : ℕ → Bool) (i : ℕ) → IsGrid g → j < v.cols.count → positions_in c ≡ column_list v (j + 1) → IsColumnIn g c → IsPieceOf g block c p
    → ((q : ℕ) → q < block_size g block → is_among (index_list v) (pos_of g block q) ≡ true → written q ≡ true) → p.from ≤ i → i < p.end → written (place_at c p i) ≡ true
piece_written g block v j c p written i grid lt value column piece all from less =
    let i_less : i < c.count = omega (arith, less, piece.few) in
    let at : pos_of g block (place_at c p i) ≡ position_in c i = ap2 (pos_of g) (sym (piece.here i from less)) (sym (piece.place_is i from less)) ∙ position_back g (position_in c i) grid (column.inside i i_less) in
    let small : place_at c p i < block_size g block = omega (arith, in_block g (position_in c i) grid (column.inside i i_less), ap (block_size g) (piece.here i from less), piece.place_is i from less) in
    all (place_at c p i) small (ap (is_among (index_list v)) at ∙ (is_among_decides (index_list v) (position_in c i)).1 (column_among v j i c lt value i_less))
