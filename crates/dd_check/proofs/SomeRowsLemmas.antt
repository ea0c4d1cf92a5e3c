-- A task of which no kind of fault holds has a row. Nothing is said of how it is found.
use Rattle.std.proofs.Common.{◌≡◌, ◌≢◌, ◌↔◌, ℕ, zero, suc, ◌+◌, ◌<◌, ℤ, pos, true, List, [], ◌∷◌, ◌++◌, length, map, get_or, Option, unwrap_or, refl, sym, ap, subst, ⊎_elim, arith}
use Rattle.std.specs.List.{Any, Contains}
use Rattle.std.specs.List.Sorted.{IsStrictlyIncreasing}
use Rattle.std.proofs.lemmas.Bool.{cases_eq}
use Rattle.std.proofs.lemmas.List.Elements.{Contains-append_left, Contains-push, Contains-push_cases}
use Rattle.dd_views.specs.IndexList.{index_list}
use Rattle.dd_views.specs.Views.{HasBadRange}
use Rattle.dd_views.proofs.SomeLemmas.{some_view}
use Rattle.dd_alias.proofs.FoundLemmas.{rising_push}
use Rattle.dd_blocks.specs.declared.access_row.AccessRow.{AccessRow}
use Rattle.dd_blocks.specs.declared.plan.Plan.{Plan}
use Rattle.dd_blocks.specs.declared.task_row.TaskRow.{TaskRow}
use Rattle.dd_blocks.specs.Charges.{AreTouched, Touches, block_with, charge_of}
use Rattle.dd_blocks.specs.Elements.{HasElement}
use Rattle.dd_place.proofs.SomeLemmas.{some_placed}
use Rattle.dd_script.specs.declared.piece.Piece.{Piece}
use Rattle.dd_script.specs.declared.statement.Statement.TheVariants.{Task}
use Rattle.dd_check.specs.Above.{Above, next_region, open_tasks}
use Rattle.dd_check.specs.Faults.{AreClear, kinds}
use Rattle.dd_check.specs.Rows.{AreAccesses, IsTask, array_of, shape_of_array}
use Rattle.dd_check.specs.Sound.{IsSound}
use Rattle.dd_check.proofs.ClearLemmas.{Clear, clear_of}
use Rattle.dd_check.proofs.RowKindsLemmas.{ready_for}
use Rattle.dd_check.proofs.OneTaskLemmas.{placed_alike}
use Rattle.dd_check.proofs.TaskLemmas.{row_of}

-- ---- accesses

any_first : {X : Type 0} (P : X → Type 0) (x : X) (xs : List X) → P x → Any P (x ∷ xs)
any_first P x xs holds = (0, x, omega arith, refl, holds)

any_behind : {X : Type 0} (P : X → Type 0) (x : X) (xs : List X) → Any P xs → Any P (x ∷ xs)
any_behind P x xs any = (suc any.0, any.1, omega (arith, any.2), any.3, any.4)

abbrev IsBadPiece : Above → Piece → Type 0
IsBadPiece s p = HasBadRange (shape_of_array s p) p.rows p.cols

some_accesses : (s : Above) (pieces : List Piece) → ¬ Any (IsBadPiece s) pieces → ((accesses : List AccessRow) → ¬ AreAccesses s pieces accesses) → ⊥
some_accesses s [] good none = none [] tt
some_accesses s (p ∷ pieces) good none =
    some_view (array_of s p) (shape_of_array s p) p.rows p.cols p.part (λ bad. good (any_first (IsBadPiece s) p pieces bad)) (λ v shows.
    some_accesses s pieces (λ bad. good (any_behind (IsBadPiece s) p pieces bad)) (λ accesses are.
    none (record { view = v; mode = p.mode } ∷ accesses) (record { mode = refl; view = shows }, are)))

-- ---- the blocks that a task touches

-- the numbers below n of which something holds
some_numbers : (P : ℕ → Type 0) (n : ℕ) → ((found : List ℕ) → IsStrictlyIncreasing found → ((u : ℕ) → Contains found u ↔ ((u < n) × P u)) → ⊥) → ⊥
some_numbers P zero none = none [] (λ k below. absurd (omega arith)) (λ u. ((λ has. absurd (omega (arith, has.1))), (λ some. absurd (omega (arith, some.0)))))
some_numbers P (suc n) none = some_numbers P n (λ found rising exact.
    let out : ¬ P n → ⊥ = λ out. none found rising (λ u. (
      (λ has. let old = (exact u).0 has in (omega (arith, old.0), old.1)),
      (λ some. ⊎_elim
          (λ (last : u ≡ n). absurd (out (subst P last some.1)))
          (λ (before : u ≢ n). (exact u).1 (omega (arith, some.0), some.1))
          (cases_eq u n)),
    )) in
    out (λ here. none (found ++ n ∷ []) (rising_push found n rising (λ u has. ((exact u).0 has).0)) (λ u. (
      (λ has. ⊎_elim
          (λ (old : Contains found u). let is = (exact u).0 old in (omega (arith, is.0), is.1))
          (λ (last : n ≡ u). (omega arith, subst P last here))
          (Contains-push_cases found n u has)),
      (λ some. ⊎_elim
          (λ (last : u ≡ n). subst (λ (m : ℕ). Contains (found ++ n ∷ []) m) (sym last) (Contains-push found n))
          (λ (before : u ≢ n). Contains-append_left found (n ∷ []) u ((exact u).1 (omega (arith, some.0), some.1)))
          (cases_eq u n)),
    ))))

-- a number above all that a list gives
bound_of : (f : ℕ → ℕ) (xs : List ℕ) → (n : ℕ) × ((x : ℕ) → Contains xs x → f x < n)
bound_of f [] = (0, λ x has. absurd (omega (arith, has.1)))
bound_of f (y ∷ ys) =
    let more = bound_of f ys in
    (more.0 + suc (f y), λ x has. within x has.0 has.1 has.2 more)
  where
    within : (x k : ℕ) → k < suc (length ys) → get_or (y ∷ ys) k x ≡ x → (more : (n : ℕ) × ((z : ℕ) → Contains ys z → f z < n)) → f x < more.0 + suc (f y)
    within x zero lt is more = omega (arith, ap f is)
    within x (suc k) lt is more = omega (arith, more.1 x (k, omega arith, is))

-- a number above those of all blocks of some accesses
bound_of_blocks : (plan : Plan) (accesses : List AccessRow) → (n : ℕ) × ((array place : ℕ) → Any (λ (a : AccessRow). HasElement a array place) accesses → block_with plan array place < n)
bound_of_blocks plan [] = (0, λ array place any. absurd (omega (arith, any.2)))
bound_of_blocks plan (a ∷ accesses) =
    let here = bound_of (block_with plan a.view.array) (index_list a.view) in
    let more = bound_of_blocks plan accesses in
    (here.0 + more.0, λ array place any. within here more array place any.0 any.1 any.2 any.3 any.4)
  where
    within : (here : (n : ℕ) × ((x : ℕ) → Contains (index_list a.view) x → block_with plan a.view.array x < n)) (more : (n : ℕ) × ((array place : ℕ) → Any (λ (b : AccessRow). HasElement b array place) accesses → block_with plan array place < n))
        → (array place k : ℕ) (x : AccessRow) → k < suc (length accesses) → get_or (a ∷ accesses) k x ≡ x → HasElement x array place → block_with plan array place < here.0 + more.0
    within here more array place zero x lt is has =
        let first : HasElement a array place = subst (λ (b : AccessRow). HasElement b array place) (sym is) has in
        let small : block_with plan array place < here.0 = subst (λ (n : ℕ). block_with plan n place < here.0) first.0 (here.1 place first.1) in
        omega arith
    within here more array place (suc k) x lt is has = omega (arith, more.1 array place (k, x, omega arith, is, has))

some_touched : (plan : Plan) (task : TaskRow) → ((found : List ℕ) → ¬ AreTouched plan task found) → ⊥
some_touched plan task none =
    let bound = bound_of_blocks plan task.accesses in
    some_numbers (Touches plan task) bound.0 (λ found rising exact. none found (record {
      rising = rising;
      exact = λ block. ((λ has. ((exact block).0 has).1), (λ touches. (exact block).1 (subst (λ (b : ℕ). b < bound.0) touches.3 (bound.1 touches.0 touches.1 touches.2), touches)));
    }))

-- ---- the row

pub some_task : (n : ℕ) (s : Above) (word : List ℕ) (scalar : Option ℤ) (pieces : List Piece) → IsSound n s → s.settled ≡ true → AreClear (suc n) s (Task word scalar pieces) kinds
    → ((task : TaskRow) → ¬ IsTask (suc n) s word scalar pieces task) → ⊥
some_task n s word scalar pieces sound settled none_holds none =
    let clear : Clear (suc n) s (Task word scalar pieces) = clear_of (suc n) s (Task word scalar pieces) none_holds in
    let ready = ready_for n (suc n) s (Task word scalar pieces) sound settled refl clear in
    let earlier = map (λ (t : TaskRow). t.proc) (open_tasks s) in
    clear.kernel (λ kernel named.
    some_accesses s pieces clear.range (λ accesses are.
    let bare = row_of (suc n) (next_region s) kernel (unwrap_or scalar (pos 0)) accesses in
    let placed = some_placed s.plan.rule s.plan earlier (bare [] 0 0) ready.procs in
    some_touched s.plan (bare [] 0 placed.0) (λ blocks touched.
    let charge = charge_of s.plan (bare blocks 0 placed.0) in
    none (bare blocks charge placed.0) (record {
      line = refl;
      region = refl;
      kernel_named = named;
      scalar_is = refl;
      accesses = are;
      proc = placed_alike s.plan.rule s.plan earlier (bare [] 0 0) (bare blocks charge placed.0) placed.0 refl refl placed.1;
      deps = refl;
      blocks = record { rising = touched.rising; exact = touched.exact };
      charge = refl;
    }))))
