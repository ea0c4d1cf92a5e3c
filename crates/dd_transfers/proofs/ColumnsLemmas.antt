-- Elements with one home, and a pass over their marks.
use Rattle.std.proofs.Common.{◌≡◌, ℕ, zero, suc, ◌+◌, ◌-◌, ◌*◌, ◌/◌, ◌%◌, ◌<◌, ◌≤◌, Bool, false, eqb, cond, List, [], ◌∷◌, ◌++◌, length, map, get_or, set, take, drop, replicate, refl, sym, ap, ◌∙◌, subst, arith, append_assoc}
use Rattle.std.specs.List.{between, range_with_len, sum_by}
use Rattle.std.proofs.lemmas.Bool.Decides.{nat_tests}
use Rattle.std.proofs.lemmas.List.{drop-drop, drop-set-lt, drop_more, get_or-drop, length-drop, length-map, length-set, length-take-le, map-append, take-append-drop, take_all, take_more, take_more_set}
use Rattle.std.proofs.lemmas.List.Sums.{sum_by-cons, sum_by_more}
use Rattle.std.proofs.lemmas.Nat.{div-add-mod', div-mul-add, mod-mul-add}
use Rattle.std.proofs.lemmas.Slice.{put_mid-paste}
use Rattle.dd_kernels.proofs.ListsLemmas.{ap2}
use Rattle.dd_blocks.specs.declared.array_row.ArrayRow.{ArrayRow}
use Rattle.dd_blocks.specs.declared.grid.Grid.{Grid}
use Rattle.dd_blocks.specs.declared.plan.Plan.{Plan}
use Rattle.dd_blocks.specs.Charges.{block_with}
use Rattle.dd_blocks.specs.Grids.{block_of, block_rows, row_of}
use Rattle.dd_blocks.specs.Numbered.{array_row, block_row}
use Rattle.dd_transfers.specs.declared.homes.Stretch.{Stretch}
use Rattle.dd_transfers.specs.declared.mark.Visit.{Visit}
use Rattle.dd_transfers.specs.declared.mark.Visit.TheVariants.{Write}
use Rattle.dd_transfers.specs.Homes.{home_by}
use Rattle.dd_transfers.specs.Marks.{AreSameTo, mark_after, mark_of, moves_at}
use Rattle.dd_transfers.specs.Visits.{ElementVisit, HaveHome, Visited, marks_after, moves_along, visit_at}
use Rattle.dd_transfers.proofs.MarksLemmas.{same_home}
use Rattle.dd_lists.proofs.SumsLemmas.{range-add}
use Rattle.dd_transfers.proofs.VisitsLemmas.{moves_few, visited_append}
use borrow.Rule.Slice.PartMut.{put_mid}

-- ---- homes

-- a few steps on, in the same part of a length that is cut into parts
record IsAhead (n k m : ℕ) : Type 0 where
  part : (n + k) / m ≡ n / m
  place : (n + k) % m ≡ n % m + k

ahead : (n k m : ℕ) → n % m + k < m → IsAhead n k m
ahead n k m within =
    let split : n + k ≡ n / m * m + (n % m + k) = omega (arith, div-add-mod' n m) in
    record {
      part = ap (λ (x : ℕ). x / m) split ∙ div-mul-add (n / m) m (n % m + k) within;
      place = ap (λ (x : ℕ). x % m) split ∙ mod-mul-add (n / m) m (n % m + k) within;
    }

-- down to the edge of the block all positions have the same block
pub same_block : (g : Grid) (pos k : ℕ) → k < g.rows - row_of g pos → k < g.brows - row_of g pos % g.brows → block_of g (pos + k) ≡ block_of g pos
same_block g pos k in_column in_block =
    let down = ahead pos k g.rows (omega arith) in
    let part = ahead (row_of g pos) k g.brows (omega arith) in
    let row : row_of g (pos + k) / g.brows ≡ row_of g pos / g.brows = ap (λ (x : ℕ). x / g.brows) down.place ∙ part.part in
    ap2 (λ (c r : ℕ). (c / g.bcols) * block_rows g + r) down.part row

-- the homes of a block, and of an array that was moved
pub block_home : (plan : Plan) (homes : List ℕ) (visit : Visit) (array pos len home : ℕ) → get_or homes (array - 1) 0 ≡ 0
    → ((k : ℕ) → k < len → block_of (array_row plan array).grid (pos + k) ≡ block_of (array_row plan array).grid pos)
    → home ≡ (block_row plan (block_with plan array pos)).home → HaveHome plan homes visit array pos len home
block_home plan homes visit array pos len home unmoved same is k mark lt =
    let here : home ≡ (block_row plan (block_with plan array (pos + k))).home =
    is ∙ ap (λ (b : ℕ). (block_row plan ((array_row plan array).first_block + b)).home) (sym (same k lt)) in
    let by : home_by plan homes (record { array = array; pos = pos + k }) ≡ home =
    ap (λ (h : ℕ). cond (eqb h 0) (block_row plan (block_with plan array (pos + k))).home h) unmoved ∙ sym here in
    subst (AreSameTo visit mark home) (sym by) (same_home visit mark home)

pub moved_home : (plan : Plan) (homes : List ℕ) (visit : Visit) (array pos len home : ℕ) → 0 < home → home ≡ get_or homes (array - 1) 0 → HaveHome plan homes visit array pos len home
moved_home plan homes visit array pos len home some is k mark lt =
    let test : eqb home 0 ≡ false = grind (arith, nat_tests) in
    let by : home_by plan homes (record { array = array; pos = pos + k }) ≡ home =
    ap (λ (h : ℕ). cond (eqb h 0) (block_row plan (block_with plan array (pos + k))).home h) (sym is)
    ∙ ap (λ (b : Bool). cond b (block_row plan (block_with plan array (pos + k))).home home) test in
    subst (AreSameTo visit mark home) (sym by) (same_home visit mark home)

-- who writes asks for no home
pub any_home : (plan : Plan) (homes : List ℕ) (visit : Visit) (space array pos len home : ℕ) → visit ≡ Write space → HaveHome plan homes visit array pos len home
any_home plan homes visit space array pos len home is k mark lt =
    subst (λ (v : Visit). AreSameTo v mark home (home_by plan homes (record { array = array; pos = pos + k }))) (sym is) (record { after = refl; moves = refl })

-- ---- a pass over marks

-- visits of elements one after the other, from the position p on, whose number is a more: each makes the same of a mark
abbrev IsPass : (ℕ → ElementVisit) → (ℕ → ℕ) → (ℕ → ℕ) → ℕ → ℕ → ℕ → Type 0
IsPass v f g a p n =
    (q : ℕ) → p ≤ q → q < p + n
    → ((v q).at ≡ a + q) × ((m : ℕ) → (mark_after (v q).visit (v q).home m ≡ f m) × (moves_at (v q).visit (v q).home m ≡ g m))

pass_first : (v : ℕ → ElementVisit) (f g : ℕ → ℕ) (a p n : ℕ) (marks : List ℕ) → IsPass v f g a p (suc n)
    → set marks (v p).at (mark_after (v p).visit (v p).home (get_or marks (v p).at 0)) ≡ set marks (a + p) (f (get_or marks (a + p) 0))
pass_first v f g a p n marks pass =
    let here = pass p (omega arith) (omega arith) in
    ap (λ (i : ℕ). set marks i (mark_after (v p).visit (v p).home (get_or marks i 0))) here.0
    ∙ ap (set marks (a + p)) (here.1 (get_or marks (a + p) 0)).0

marks_pass : (v : ℕ → ElementVisit) (f g : ℕ → ℕ) (a p n : ℕ) (marks : List ℕ) → a + p + n ≤ length marks → IsPass v f g a p n
    → marks_after (map v (range_with_len p n)) marks ≡ take (a + p) marks ++ (map f (take n (drop (a + p) marks)) ++ drop (a + p + n) marks)
marks_pass v f g a p zero marks within pass =
    let none : a + p + 0 ≡ a + p = omega arith in
    sym (ap (λ (i : ℕ). take (a + p) marks ++ drop i marks) none ∙ take-append-drop (a + p) marks)
marks_pass v f g a p (suc n) marks within pass =
    let b : ℕ = a + p in
    let x : ℕ = f (get_or marks b 0) in
    let next : List ℕ = set marks b x in
    let inside : b < length marks = omega arith in
    let on : a + (p + 1) ≡ b + 1 = omega arith in
    let end : a + (p + 1) + n ≡ b + suc n = omega arith in
    let rest = marks_pass v f g a (p + 1) n next (omega (arith, length-set marks b x)) (λ q low high. pass q (omega arith) (omega arith)) in
    let front : take (a + (p + 1)) next ≡ take b marks ++ x ∷ [] = ap (λ (i : ℕ). take i next) on ∙ take_more_set marks b x inside in
    let middle : drop (a + (p + 1)) next ≡ drop (b + 1) marks = ap (λ (i : ℕ). drop i next) on ∙ drop-set-lt (b + 1) marks b x (omega arith) in
    let back : drop (a + (p + 1) + n) next ≡ drop (b + suc n) marks = ap (λ (i : ℕ). drop i next) end ∙ drop-set-lt (b + suc n) marks b x (omega arith) in
    let left : List ℕ = map f (take n (drop (b + 1) marks)) ++ drop (b + suc n) marks in
    let first : drop b marks ≡ get_or marks b 0 ∷ drop (b + 1) marks = drop_more marks b 0 inside in
    ap (marks_after (map v (range_with_len (p + 1) n))) (pass_first v f g a p n marks pass)
    ∙ rest
    ∙ ap2 (λ (l r : List ℕ). l ++ r) front (ap2 (λ (l r : List ℕ). map f (take n l) ++ r) middle back)
    ∙ append_assoc (take b marks) (x ∷ []) left
    ∙ sym (ap (λ (l : List ℕ). take b marks ++ (map f (take (suc n) l) ++ drop (b + suc n) marks)) first)

moves_pass : (v : ℕ → ElementVisit) (f g : ℕ → ℕ) (a p n : ℕ) (marks : List ℕ) → a + p + n ≤ length marks → IsPass v f g a p n
    → moves_along (map v (range_with_len p n)) marks ≡ sum_by g (take n (drop (a + p) marks))
moves_pass v f g a p zero marks within pass = refl
moves_pass v f g a p (suc n) marks within pass =
    let b : ℕ = a + p in
    let x : ℕ = f (get_or marks b 0) in
    let next : List ℕ = set marks b x in
    let inside : b < length marks = omega arith in
    let on : a + (p + 1) ≡ b + 1 = omega arith in
    let rest = moves_pass v f g a (p + 1) n next (omega (arith, length-set marks b x)) (λ q low high. pass q (omega arith) (omega arith)) in
    let middle : drop (a + (p + 1)) next ≡ drop (b + 1) marks = ap (λ (i : ℕ). drop i next) on ∙ drop-set-lt (b + 1) marks b x (omega arith) in
    let here = pass p (omega arith) (omega arith) in
    let moved : moves_at (v p).visit (v p).home (get_or marks (v p).at 0) ≡ g (get_or marks b 0) =
    ap (λ (i : ℕ). moves_at (v p).visit (v p).home (get_or marks i 0)) here.0 ∙ (here.1 (get_or marks b 0)).1 in
    let behind = ap (moves_along (map v (range_with_len (p + 1) n))) (pass_first v f g a p n marks pass) ∙ rest ∙ ap (λ (l : List ℕ). sum_by g (take n l)) middle in
    let whole = ap (λ (l : List ℕ). sum_by g (take (suc n) l)) (drop_more marks b 0 inside) ∙ sum_by-cons g (get_or marks b 0) (take n (drop (b + 1) marks)) in
    omega (arith, moved, behind, whole)

-- the elements of an array from a position on, with one home to the visit
visited_pass : (plan : Plan) (homes : List ℕ) (visit : Visit) (array pos len home : ℕ) (row : ArrayRow) (old new : List ℕ) (moved : ℕ) → row ≡ array_row plan array
    → row.first_element + pos + len ≤ length old → HaveHome plan homes visit array pos len home
    → new ≡ take (row.first_element + pos) old ++ (map (mark_after visit home) (take len (drop (row.first_element + pos) old)) ++ drop (row.first_element + pos + len) old)
    → moved ≡ sum_by (moves_at visit home) (take len (drop (row.first_element + pos) old))
    → Visited (map (visit_at plan homes visit array) (range_with_len pos len)) old new moved
visited_pass plan homes visit array pos len home row old new moved is within have marks count =
    let pass : IsPass (visit_at plan homes visit array) (mark_after visit home) (moves_at visit home) row.first_element pos len =
    λ q low high.
    let e : pos + (q - pos) ≡ q = omega arith in (
      sym (ap (λ (r : ArrayRow). r.first_element + q) is),
      λ m.
          let same = subst (λ (p : ℕ). AreSameTo visit m home (home_by plan homes (record { array = array; pos = p }))) e (have (q - pos) m (omega arith)) in
          (sym same.after, sym same.moves),
    ) in
    record {
      marks = marks ∙ sym (marks_pass (visit_at plan homes visit array) (mark_after visit home) (moves_at visit home) row.first_element pos len old within pass);
      count = count ∙ sym (moves_pass (visit_at plan homes visit array) (mark_after visit home) (moves_at visit home) row.first_element pos len old within pass);
    }

-- their marks are a piece of all marks
pub visited_piece : (plan : Plan) (homes : List ℕ) (visit : Visit) (array pos len home : ℕ) (row : ArrayRow) (old piece : List ℕ) (moved : ℕ) → row ≡ array_row plan array
    → row.first_element + pos + len ≤ length old → HaveHome plan homes visit array pos len home
    → piece ≡ map (mark_after visit home) (between (row.first_element + pos) (row.first_element + pos + len) old)
    → moved ≡ sum_by (moves_at visit home) (between (row.first_element + pos) (row.first_element + pos + len) old)
    → Visited (map (visit_at plan homes visit array) (range_with_len pos len)) old (put_mid (row.first_element + pos) (row.first_element + pos + len - (row.first_element + pos)) old piece) moved
visited_piece plan homes visit array pos len home row old piece moved is within have marks count =
    let at : ℕ = row.first_element + pos in
    let many : at + len - at ≡ len = omega arith in
    let here : piece ≡ map (mark_after visit home) (take len (drop at old)) = marks ∙ ap (λ (n : ℕ). map (mark_after visit home) (take n (drop at old))) many in
    let long : length piece ≡ len =
    ap length here ∙ length-map (take len (drop at old)) (mark_after visit home) ∙ length-take-le len (drop at old) (omega (arith, within, length-drop at old)) in
    let pasted = put_mid-paste at (at + len - at) old piece piece len refl (sym many) (sym long) in
    let whole = take_all len piece (omega (arith, long)) ∙ here in
    visited_pass plan homes visit array pos len home row old (put_mid at (at + len - at) old piece) moved is within have
    (pasted ∙ ap (λ (l : List ℕ). (take at old ++ l) ++ drop (at + len) old) whole ∙ append_assoc (take at old) (map (mark_after visit home) (take len (drop at old))) (drop (at + len) old))
    (count ∙ ap (λ (n : ℕ). sum_by (moves_at visit home) (take n (drop at old))) many)

-- one run more
visited_run : (f : ℕ → ElementVisit) (first done len : ℕ) (old mid new : List ℕ) (moved more : ℕ) → Visited (map f (range_with_len first done)) old mid moved
    → Visited (map f (range_with_len (first + done) len)) mid new more → Visited (map f (range_with_len first (done + len))) old new (moved + more)
visited_run f first done len old mid new moved more before here =
    let e : map f (range_with_len first (done + len)) ≡ map f (range_with_len first done) ++ map f (range_with_len (first + done) len) =
    ap (map f) (range-add first done len) ∙ map-append f (range_with_len first done) (range_with_len (first + done) len) in
    subst (λ (vs : List ElementVisit). Visited vs old new (moved + more)) (sym e) (visited_append (map f (range_with_len first done)) (map f (range_with_len (first + done) len)) old mid new moved more before here)

pub visited_next : (plan : Plan) (homes : List ℕ) (visit : Visit) (array first done from : ℕ) (found run : Stretch) (old mid new : List ℕ) (moved more : ℕ)
    → from ≡ done → run.home ≡ found.home → run.len ≤ found.len → ((len : ℕ) → len ≤ found.len → HaveHome plan homes visit array (first + from) len found.home)
    → Visited (map (visit_at plan homes visit array) (range_with_len first done)) old mid moved
    → ((all : List ℕ) → HaveHome plan all visit array (first + from) run.len run.home → Visited (map (visit_at plan all visit array) (range_with_len (first + from) run.len)) mid new more)
    → Visited (map (visit_at plan homes visit array) (range_with_len first (done + run.len))) old new (moved + more)
visited_next plan homes visit array first done from found run old mid new moved more here home le have before ran =
    let one = ran homes (subst (HaveHome plan homes visit array (first + from) run.len) (sym home) (have run.len le)) in
    visited_run (visit_at plan homes visit array) first done run.len old mid new moved more before
    (subst (λ (d : ℕ). Visited (map (visit_at plan homes visit array) (range_with_len (first + d) run.len)) mid new more) here one)

-- ---- a loop over marks

-- the marks below a place were visited, and those from it on are as before
pub record IsPassed (visit : Visit) (home i : ℕ) (old marks : List ℕ) (moved : ℕ) : Type 0 where
  pub done : take i marks ≡ map (mark_after visit home) (take i old)
  pub left : drop i marks ≡ drop i old
  pub count : moved ≡ sum_by (moves_at visit home) (take i old)
  pub few : moved ≤ i

pub passed_none : (visit : Visit) (home : ℕ) (marks : List ℕ) → IsPassed visit home 0 marks marks 0
passed_none visit home marks = record { done = refl; left = refl; count = refl; few = omega arith }

left_at : (marks old : List ℕ) (i : ℕ) → drop i marks ≡ drop i old → get_or marks i 0 ≡ get_or old i 0
left_at marks old i left =
    let at : i + 0 ≡ i = omega arith in
    let here = get_or-drop i marks 0 0 in
    let there = get_or-drop i old 0 0 in
    cc

pub passed_more : (visit : Visit) (home i : ℕ) (old marks : List ℕ) (moved mark more : ℕ) → i < length marks → length marks ≡ length old
    → mark ≡ mark_after visit home (get_or marks i 0) → more ≡ moves_at visit home (get_or marks i 0) → IsPassed visit home i old marks moved
    → IsPassed visit home (i + 1) old (set marks i mark) (moved + more)
passed_more visit home i old marks moved mark more lt many is moves passed =
    let within : i < length old = omega (arith, lt, many) in
    let same = left_at marks old i passed.left in
    let f : ℕ → ℕ = mark_after visit home in
    let here = is ∙ ap f same in
    let one = moves ∙ ap (moves_at visit home) same in
    record {
      done = take_more_set marks i mark lt ∙ ap2 (λ (l : List ℕ) (m : ℕ). l ++ m ∷ []) passed.done here
          ∙ sym (ap (map f) (take_more old i 0 within) ∙ map-append f (take i old) (get_or old i 0 ∷ []));
      left = drop-set-lt (i + 1) marks i mark (omega arith) ∙ (sym (drop-drop 1 i marks) ∙ ap (λ (l : List ℕ). drop 1 l) passed.left ∙ drop-drop 1 i old);
      count = omega (arith, passed.count, one, sum_by_more (moves_at visit home) old i 0 within);
      few = omega (arith, passed.few, one, moves_few visit home (get_or old i 0));
    }

pub passed_all : (visit : Visit) (home i : ℕ) (old marks : List ℕ) (moved : ℕ) → length marks ≤ i → length marks ≡ length old → IsPassed visit home i old marks moved
    → (marks ≡ map (mark_after visit home) old) × (moved ≡ sum_by (moves_at visit home) old)
passed_all visit home i old marks moved end many passed =
    let all = take_all i old (omega (arith, end, many)) in
    (sym (take_all i marks end) ∙ passed.done ∙ ap (map (mark_after visit home)) all, passed.count ∙ ap (sum_by (moves_at visit home)) all)

-- a space that writes holds each element alone, and nothing moves
pub all_written : (space home : ℕ) (marks : List ℕ) → replicate (length marks) (mark_of space) ≡ map (mark_after (Write space) home) marks
all_written space home [] = refl
all_written space home (m ∷ marks) = ap (λ (l : List ℕ). mark_of space ∷ l) (all_written space home marks)

pub none_moved : (space home : ℕ) (marks : List ℕ) → 0 ≡ sum_by (moves_at (Write space) home) marks
none_moved space home [] = refl
none_moved space home (m ∷ marks) = omega (arith, sum_by-cons (moves_at (Write space) home) m marks, none_moved space home marks)
