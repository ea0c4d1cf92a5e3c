-- Visits one after the other.
use Rattle.std.proofs.Common.{◌≡◌, ℕ, ◌+◌, ◌<◌, ◌≤◌, Bool, true, false, cond, List, [], ◌∷◌, ◌++◌, length, get_or, set, take, refl, sym, ap, ◌∙◌, subst, arith, zero-add, ◌%◌, ◌^◌, pos, w64, map}
use Rattle.std.specs.Int.{cast_unsigned}
use Rattle.std.specs.List.{flat_map, range_with_len}
use Rattle.std.proofs.lemmas.Grind.{flat_map-append}
use Rattle.std.proofs.lemmas.List.{append-nil, length-append, length-set, map-append, take_more}
use Rattle.std.proofs.lemmas.List.Folds.{length-flat_map-take}
use Rattle.std.proofs.lemmas.List.FromFn.{map-range_with_len_more}
use Rattle.dd_views.specs.declared.column.Column.{Column}
use Rattle.dd_views.specs.declared.shape.Shape.{Shape}
use Rattle.dd_views.specs.declared.view.View.{View}
use Rattle.dd_views.specs.IndexList.{column_list, columns_before, columns_from}
use Rattle.dd_views.specs.Positions.{position_in, positions_in, stepped}
use Rattle.dd_views.specs.Views.{IsViewOf}
use Rattle.dd_views.proofs.PositionsLemmas.{step_on}
use Rattle.dd_views.proofs.SignedLemmas.{size_up}
use Rattle.dd_views.proofs.ViewLemmas.{length_view, view_few}
use Rattle.dd_views.proofs.WalkLemmas.{column_done, index_list_cut}
use Rattle.dd_blocks.specs.declared.plan.Plan.{Plan}
use Rattle.dd_blocks.specs.declared.task_row.TaskRow.{TaskRow}
use Rattle.dd_transfers.specs.declared.mark.Visit.{Visit}
use Rattle.dd_transfers.specs.declared.mark.Visit.TheVariants.{Read, Write, Leave}
use Rattle.dd_transfers.specs.Homes.{HasPositions}
use Rattle.dd_transfers.specs.Marks.{has_space, mark_after, moves_at, opened}
use Rattle.dd_transfers.specs.Visits.{ElementVisit, Visited, marks_after, moves_along, space_of, task_visits, visits_by}

pub marks_after-append : (vs ws : List ElementVisit) (marks : List ℕ) → marks_after (vs ++ ws) marks ≡ marks_after ws (marks_after vs marks)
marks_after-append [] ws marks = refl
marks_after-append (v ∷ vs) ws marks = marks_after-append vs ws (set marks v.at (mark_after v.visit v.home (get_or marks v.at 0)))

pub moves_along-append : (vs ws : List ElementVisit) (marks : List ℕ) → moves_along (vs ++ ws) marks ≡ moves_along vs marks + moves_along ws (marks_after vs marks)
moves_along-append [] ws marks = sym (zero-add (moves_along ws marks))
moves_along-append (v ∷ vs) ws marks =
    let next : List ℕ = set marks v.at (mark_after v.visit v.home (get_or marks v.at 0)) in
    omega (arith, moves_along-append vs ws next)

pub length-marks_after : (vs : List ElementVisit) (marks : List ℕ) → length (marks_after vs marks) ≡ length marks
length-marks_after [] marks = refl
length-marks_after (v ∷ vs) marks =
    let next : List ℕ = set marks v.at (mark_after v.visit v.home (get_or marks v.at 0)) in
    length-marks_after vs next ∙ length-set marks v.at (mark_after v.visit v.home (get_or marks v.at 0))

cond_few : (b : Bool) → cond b 0 1 ≤ 1
cond_few true = omega arith
cond_few false = omega arith

pub moves_few : (visit : Visit) (home mark : ℕ) → moves_at visit home mark ≤ 1
moves_few (Read space) home mark = cond_few (has_space (opened home mark) space)
moves_few (Write space) home mark = omega arith
moves_few Leave home mark = cond_few (has_space (opened home mark) home)

pub moves_along-le : (vs : List ElementVisit) (marks : List ℕ) → moves_along vs marks ≤ length vs
moves_along-le [] marks = omega arith
moves_along-le (v ∷ vs) marks =
    let next : List ℕ = set marks v.at (mark_after v.visit v.home (get_or marks v.at 0)) in
    omega (arith, moves_few v.visit v.home (get_or marks v.at 0), moves_along-le vs next)

pub visited_few : (vs : List ElementVisit) (old new : List ℕ) (moved : ℕ) → Visited vs old new moved → moved ≤ length vs
visited_few vs old new moved visited = omega (arith, visited.count, moves_along-le vs old)

pub visited_length : (vs : List ElementVisit) (old new : List ℕ) (moved : ℕ) → Visited vs old new moved → length new ≡ length old
visited_length vs old new moved visited = ap length visited.marks ∙ length-marks_after vs old

pub visited_none : (marks : List ℕ) → Visited [] marks marks 0
visited_none marks = record { marks = refl; count = refl }

pub visited_append : (vs ws : List ElementVisit) (old mid new : List ℕ) (moved more : ℕ) → Visited vs old mid moved → Visited ws mid new more
    → Visited (vs ++ ws) old new (moved + more)
visited_append vs ws old mid new moved more first second = record {
  marks = second.marks ∙ ap (marks_after ws) first.marks ∙ sym (marks_after-append vs ws old);
  count = omega (arith, first.count, second.count, ap (moves_along ws) first.marks, moves_along-append vs ws old);
}

-- one more of a list of visits
pub visited_more : (vs : List ElementVisit) (i : ℕ) (v : ElementVisit) (old mid new : List ℕ) (moved more : ℕ) → i < length vs → get_or vs i v ≡ v
    → Visited (take i vs) old mid moved → Visited (v ∷ []) mid new more → Visited (take (i + 1) vs) old new (moved + more)
visited_more vs i v old mid new moved more lt is first second =
    let e = take_more vs i v lt ∙ ap (λ (w : ElementVisit). take i vs ++ w ∷ []) is in
    subst (λ (ws : List ElementVisit). Visited ws old new (moved + more)) (sym e) (visited_append (take i vs) (v ∷ []) old mid new moved more first second)

-- the visits of one more item of a list
pub visited_flat_more : {X : Type 0} (f : X → List ElementVisit) (xs : List X) (i : ℕ) (x d : X) (old mid new : List ℕ) (moved more : ℕ) → i < length xs → x ≡ get_or xs i d
    → Visited (flat_map f (take i xs)) old mid moved → Visited (f x) mid new more → Visited (flat_map f (take (i + 1) xs)) old new (moved + more)
visited_flat_more {X = X} f xs i x d old mid new moved more lt is first second =
    let one = append-nil (f x) in
    let e = ap (flat_map f) (take_more xs i d lt) ∙ flat_map-append f (take i xs) (get_or xs i d ∷ []) ∙ ap (λ (y : X). flat_map f (take i xs) ++ flat_map f (y ∷ [])) (sym is)
    ∙ ap (λ (ws : List ElementVisit). flat_map f (take i xs) ++ ws) one in
    subst (λ (ws : List ElementVisit). Visited ws old new (moved + more)) (sym e) (visited_append (flat_map f (take i xs)) (f x) old mid new moved more first second)

-- so many moves are few
pub flat_few : {X : Type 0} (f : X → List ElementVisit) (xs : List X) (i : ℕ) (x d : X) (old mid new : List ℕ) (moved more : ℕ) → i < length xs → x ≡ get_or xs i d
    → Visited (flat_map f (take i xs)) old mid moved → Visited (f x) mid new more → moved + more ≤ length (flat_map f xs)
flat_few {X = X} f xs i x d old mid new moved more lt is first second =
    let whole = length-flat_map-take f xs i d lt in
    let one = ap (λ (y : X). length (f y)) is in
    omega (arith, whole, one, visited_few (flat_map f (take i xs)) old mid moved first, visited_few (f x) mid new more second)

pub item_few : {X : Type 0} (f : X → List ElementVisit) (xs : List X) (i : ℕ) (x d : X) → i < length xs → x ≡ get_or xs i d → length (f x) ≤ length (flat_map f xs)
item_few {X = X} f xs i x d lt is =
    let whole = length-flat_map-take f xs i d lt in
    let one = ap (λ (y : X). length (f y)) is in
    omega (arith, whole, one)

-- a task's visits
pub task_visited : (plan : Plan) (homes : List ℕ) (task : TaskRow) (space : ℕ) (old mid new : List ℕ) (read written : ℕ) → space ≡ space_of plan task
    → Visited (visits_by plan homes (Read space) task) old mid read → Visited (visits_by plan homes (Write space) task) mid new written
    → Visited (task_visits plan homes task) old new (read + written)
task_visited plan homes task space old mid new read written is first second =
    subst
    (λ (s : ℕ). Visited (visits_by plan homes (Read s) task ++ visits_by plan homes (Write s) task) old new (read + written))
    is (visited_append (visits_by plan homes (Read space) task) (visits_by plan homes (Write space) task) old mid new read written first second)

-- one position more of a column
pub visited_position : (f : ℕ → ElementVisit) (column : Column) (i p : ℕ) (old mid new : List ℕ) (moved more : ℕ) → p ≡ position_in column i
    → Visited (map f (map (position_in column) (range_with_len 0 i))) old mid moved → Visited (f p ∷ []) mid new more
    → Visited (map f (map (position_in column) (range_with_len 0 (i + 1)))) old new (moved + more)
visited_position f column i p old mid new moved more here first second =
    let before : List ElementVisit = map f (map (position_in column) (range_with_len 0 i)) in
    let e : map f (map (position_in column) (range_with_len 0 (i + 1))) ≡ before ++ f p ∷ [] =
    ap (map f) (map-range_with_len_more (position_in column) 0 i i (omega arith))
    ∙ map-append f (map (position_in column) (range_with_len 0 i)) (position_in column i ∷ [])
    ∙ ap (λ (q : ℕ). before ++ f q ∷ []) (sym here) in
    subst (λ (ws : List ElementVisit). Visited ws old new (moved + more)) (sym e) (visited_append before (f p ∷ []) old mid new moved more first second)

-- the next position of a column
pub next_position : (size : ℕ) (column : Column) (i p : ℕ) → size < 2 ^ 63 → HasPositions size column → p ≡ position_in column i → i + 1 < column.count
    → (p + cast_unsigned w64 column.step) % 2 ^ 64 ≡ position_in column (i + 1)
next_position size column i p small is here more =
    let signed : pos p ≡ stepped column i = ap pos here ∙ size_up (stepped column i) (is.whole i (omega arith)) in
    step_on column p i (omega (arith, here, is.inside i (omega arith))) signed (is.whole (i + 1) more) (omega (arith, is.inside (i + 1) more))

-- one column more of a view
pub visited_column : (f : ℕ → ElementVisit) (view : View) (j : ℕ) (column : Column) (old mid new : List ℕ) (moved more : ℕ) → j < view.cols.count → positions_in column ≡ column_list view (j + 1)
    → Visited (map f (columns_before view j)) old mid moved → Visited (map f (positions_in column)) mid new more
    → Visited (map f (columns_before view (j + 1))) old new (moved + more)
visited_column f view j column old mid new moved more lt is first second =
    let before : List ElementVisit = map f (columns_before view j) in
    let e : map f (columns_before view (j + 1)) ≡ before ++ map f (positions_in column) =
    ap (map f) (column_done view j lt) ∙ map-append f (columns_before view j) (column_list view (j + 1)) ∙ ap (λ (l : List ℕ). before ++ map f l) (sym is) in
    subst (λ (ws : List ElementVisit). Visited ws old new (moved + more)) (sym e) (visited_append before (map f (positions_in column)) old mid new moved more first second)

-- the columns of a view have few elements
pub columns_few : (shape : Shape) (view : View) (j : ℕ) → IsViewOf shape view → length (columns_before view j) < 2 ^ 63
columns_few shape view j is =
    let cut = ap length (index_list_cut view j) ∙ length-append (columns_before view j) (columns_from view j) in
    let whole = length_view view (shape, is) in
    omega (arith, cut, whole, view_few shape view is, is.small)
