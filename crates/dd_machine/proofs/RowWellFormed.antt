-- The worked script's Plan is well formed.
use Rattle.std.proofs.Common.{◌≡◌, ◌≢◌, ℕ, zero, suc, ◌+◌, ◌-◌, ◌^◌, ◌<◌, ◌≤◌, Bool, true, false, eqb, pos, List, [], ◌∷◌, length, drop, take, refl, ap, sym, ◌∙◌, subst, inl, ⊎_elim, arith}
use Rattle.std.specs.Prelude.{All, Any, Contains, filter, slice_index, slice_index_or, sum_by, ◌<ℤ◌}
use Rattle.std.specs.List.Sorted.{IsNonDecreasingBy}
use Rattle.std.proofs.lemmas.Int.{ints}
use Rattle.std.proofs.lemmas.Bool.{leb-true, ltb-true}
use Rattle.dd_views.specs.declared.bounds.Bounds.{Bounds}
use Rattle.dd_views.specs.declared.range.Range.TheVariants.{All as Every, Run}
use Rattle.dd_views.specs.Progression.{HasPassed, IsWithin, number_at}
use Rattle.dd_views.specs.Span.{IsSpanIn, IsSpanOf, number}
use Rattle.dd_kernels.specs.declared.signature.Mode.TheVariants.{Read, Write}
use Rattle.dd_blocks.specs.declared.access_row.AccessRow.{AccessRow}
use Rattle.dd_blocks.specs.declared.block_row.BlockRow.{BlockRow}
use Rattle.dd_blocks.specs.declared.proc_row.ProcRow.{ProcRow}
use Rattle.dd_blocks.specs.declared.statement_row.StatementRow.{StatementRow}
use Rattle.dd_blocks.specs.declared.task_row.TaskRow.{TaskRow}
use Rattle.dd_blocks.specs.declared.what.What.TheVariants.{Drop, Moved}
use Rattle.dd_blocks.specs.Charges.{Touches, access_elements, block_with}
use Rattle.dd_blocks.specs.Elements.{HasElement}
use Rattle.dd_blocks.specs.Layout.{IsLaidOut, StandsBehind}
use Rattle.dd_blocks.specs.Lives.{IsLive, MayStand, tasks_of}
use Rattle.dd_blocks.specs.Numbered.{IsNumberIn, array_row, block_row, no_array, numbered, proc_row, space_row, task_row}
use Rattle.dd_blocks.specs.Tasks.{IsDependency, IsShown, IsSoundTask}
use Rattle.dd_blocks.specs.WellFormed.{FitsHomes, HasShortName, HasSmallEdges, IsSmallSpace, IsWellFormed, KeepsLimits, NamesRows, StatementNamesRows, TaskNamesRows}
use Rattle.dd_meaning.proofs.SmallPlans.{access, column_view, span_of}
use Rattle.dd_machine.specs.TwoSpaces.{two_spaces}

-- ---- lists, item by item

all_none : {X : Type 0} (P : X → Type 0) → All P []
all_none P k d lt = absurd (omega (arith, lt))

all_more : {X : Type 0} (P : X → Type 0) (x : X) (xs : List X) → P x → All P xs → All P (x ∷ xs)
all_more P x xs first rest zero d lt = first
all_more P x xs first rest (suc k) d lt = rest k d (omega (arith, lt))

all_one : {X : Type 0} (P : X → Type 0) (x : X) → P x → All P (x ∷ [])
all_one P x first = all_more P x [] first (all_none P)

all_two : {X : Type 0} (P : X → Type 0) (x y : X) → P x → P y → All P (x ∷ y ∷ [])
all_two P x y first second = all_more P x (y ∷ []) first (all_one P y second)

rises_more : {X : Type 0} (n : X → ℕ) (x : X) (xs : List X) → All (λ y. n x ≤ n y) xs → IsNonDecreasingBy n xs → IsNonDecreasingBy n (x ∷ xs)
rises_more n x xs low rest zero zero d le lt = omega arith
rises_more n x xs low rest zero (suc j) d le lt = low j d (omega (arith, lt))
rises_more n x xs low rest (suc i) zero d le lt = absurd (omega (arith, le))
rises_more n x xs low rest (suc i) (suc j) d le lt = rest i j d (omega (arith, le)) (omega (arith, lt))

rises_none : {X : Type 0} (n : X → ℕ) → IsNonDecreasingBy n []
rises_none n i j d le lt = absurd (omega (arith, lt))

below_one : (P : ℕ → Type 0) → P 0 → (i : ℕ) → i < 1 → P i
below_one P a zero lt = a
below_one P a (suc i) lt = absurd (omega (arith, lt))

below_two : (P : ℕ → Type 0) → P 0 → P 1 → (i : ℕ) → i < 2 → P i
below_two P a b zero lt = a
below_two P a b (suc zero) lt = b
below_two P a b (suc (suc i)) lt = absurd (omega (arith, lt))

below_four : (P : ℕ → Type 0) → P 0 → P 1 → P 2 → P 3 → (i : ℕ) → i < 4 → P i
below_four P a b c d zero lt = a
below_four P a b c d (suc zero) lt = b
below_four P a b c d (suc (suc zero)) lt = c
below_four P a b c d (suc (suc (suc zero))) lt = d
below_four P a b c d (suc (suc (suc (suc i)))) lt = absurd (omega (arith, lt))

from_one_to_two : (P : ℕ → Type 0) → P 1 → P 2 → (t : ℕ) → IsNumberIn two_spaces.tasks t → P t
from_one_to_two P p q zero is = absurd (omega (arith, is.0))
from_one_to_two P p q (suc zero) is = p
from_one_to_two P p q (suc (suc zero)) is = q
from_one_to_two P p q (suc (suc (suc t))) is = absurd (omega (arith, is.1))

in_one : (x n : ℕ) → Contains (x ∷ []) n → x ≡ n
in_one x n (zero, lt, is) = is
in_one x n (suc k, lt, is) = absurd (omega (arith, lt))

-- a number in the list of what holds
by_one : (P : ℕ → Type 0) (x n : ℕ) → P x → Contains (x ∷ []) n → P n
by_one P x n p has = subst P (in_one x n has) p

by_two : (P : ℕ → Type 0) (x y n : ℕ) → P x → P y → Contains (x ∷ y ∷ []) n → P n
by_two P x y n p q (zero, lt, is) = subst P is p
by_two P x y n p q (suc zero, lt, is) = subst P is q
by_two P x y n p q (suc (suc k), lt, is) = absurd (omega (arith, lt))

by_four : (P : ℕ → Type 0) (n : ℕ) → P 0 → P 1 → P 2 → P 3 → Contains (0 ∷ 1 ∷ 2 ∷ 3 ∷ []) n → P n
by_four P n a b c d (zero, lt, is) = subst P is a
by_four P n a b c d (suc zero, lt, is) = subst P is b
by_four P n a b c d (suc (suc zero), lt, is) = subst P is c
by_four P n a b c d (suc (suc (suc zero)), lt, is) = subst P is d
by_four P n a b c d (suc (suc (suc (suc k))), lt, is) = absurd (omega (arith, lt))

-- ---- the tasks and the rows

abbrev row_at : ℕ → StatementRow
row_at i = slice_index_or two_spaces.statements i (record { line = 0; what = Moved })

all_four : (P : StatementRow → Type 0) → P (row_at 1) → P (row_at 2) → P (row_at 3) → P (row_at 4) → All P (drop 1 two_spaces.statements)
all_four P b c d e = all_more P (row_at 1) (drop 2 two_spaces.statements) b (all_more P (row_at 2) (drop 3 two_spaces.statements) c (all_two P (row_at 3) (row_at 4) d e))

all_rows : (P : StatementRow → Type 0) → P (row_at 0) → P (row_at 1) → P (row_at 2) → P (row_at 3) → P (row_at 4) → All P two_spaces.statements
all_rows P a b c d e = all_more P (row_at 0) (drop 1 two_spaces.statements) a (all_four P b c d e)

abbrev fill_row : TaskRow
fill_row = task_row two_spaces 1

abbrev copy_row : TaskRow
copy_row = task_row two_spaces 2

abbrev of_a : AccessRow
of_a = access Write (column_view 1 4 (span_of 1 (pos 1) 4))

abbrev of_b : AccessRow
of_b = access Write (column_view 2 2 (span_of 1 (pos 1) 2))

abbrev half_of_a : AccessRow
half_of_a = access Read (column_view 1 4 (span_of 1 (pos 1) 2))

-- the numbers from 1 to n in steps of 1
abbrev up_to : ℕ → Bounds
up_to n = record { first = pos 1; step = pos 1; last = pos n }

not_passed : (n k : ℕ) → k ≤ n → ¬ HasPassed (up_to n) (pos k)
not_passed n k le p = ⊎_elim (λ (h : (pos 0 <ℤ pos 1) × (pos n <ℤ pos k)). let far = h.1 in absurd (omega (arith, ints, le, far))) (λ (h : (pos 1 <ℤ pos 0) × (pos k <ℤ pos n)). let down = h.0 in absurd (omega (arith, ints, down))) p

passed : (n : ℕ) → HasPassed (up_to n) (pos (n + 1))
passed n = inl (omega (arith, ints), omega (arith, ints))

span_one : IsSpanOf (up_to 1) (span_of 1 (pos 1) 1)
span_one = record { counted = record { listed = below_one (λ i. ¬ HasPassed (up_to 1) (number_at (up_to 1) i)) (not_passed 1 1 (omega arith)); ended = passed 1 }; kept = (refl, refl) }

span_two : IsSpanOf (up_to 2) (span_of 1 (pos 1) 2)
span_two = record { counted = record { listed = below_two (λ i. ¬ HasPassed (up_to 2) (number_at (up_to 2) i)) (not_passed 2 1 (omega arith)) (not_passed 2 2 (omega arith)); ended = passed 2 }; kept = (refl, refl) }

span_four : IsSpanOf (up_to 4) (span_of 1 (pos 1) 4)
span_four = record {
  counted = record {
    listed = below_four (λ i. ¬ HasPassed (up_to 4) (number_at (up_to 4) i)) (not_passed 4 1 (omega arith)) (not_passed 4 2 (omega arith)) (not_passed 4 3 (omega arith)) (not_passed 4 4 (omega arith));
    ended = passed 4;
  };
  kept = (refl, refl);
}

inside : (n k : ℕ) → 1 ≤ k → k ≤ n → IsWithin n (pos k)
inside n k low high = (omega (arith, ints, low), omega (arith, ints, high))

one_in : (n : ℕ) → 1 ≤ n → IsSpanIn n (span_of 1 (pos 1) 1)
one_in n low = record { steps = λ e. cc; within = below_one (λ i. IsWithin n (number (span_of 1 (pos 1) 1) i)) (inside n 1 (omega arith) low); few = low }

two_in : (n : ℕ) → 2 ≤ n → IsSpanIn n (span_of 1 (pos 1) 2)
two_in n low = record { steps = λ e. cc; within = below_two (λ i. IsWithin n (number (span_of 1 (pos 1) 2) i)) (inside n 1 (omega arith) (omega (arith, low))) (inside n 2 (omega arith) low); few = low }

four_in : IsSpanIn 4 (span_of 1 (pos 1) 4)
four_in = record {
  steps = λ e. cc;
  within = below_four (λ i. IsWithin 4 (number (span_of 1 (pos 1) 4) i)) (inside 4 1 (omega arith) (omega arith)) (inside 4 2 (omega arith) (omega arith)) (inside 4 3 (omega arith) (omega arith)) (inside 4 4 (omega arith) (omega arith));
  few = omega arith;
}

a_shown : IsShown (array_row two_spaces 1) of_a.view
a_shown = record {
  rows = Every;
  cols = Every;
  shows = record { array = refl; height = refl; rows = span_four; cols = span_one; part = refl };
  view = record { rows = four_in; cols = one_in 1 (omega arith); height = refl; square = λ no. absurd (no refl); small = ltb-true 4 (2 ^ 63) refl };
}

b_shown : IsShown (array_row two_spaces 2) of_b.view
b_shown = record {
  rows = Every;
  cols = Every;
  shows = record { array = refl; height = refl; rows = span_two; cols = span_one; part = refl };
  view = record { rows = two_in 2 (omega arith); cols = one_in 1 (omega arith); height = refl; square = λ no. absurd (no refl); small = ltb-true 2 (2 ^ 63) refl };
}

half_shown : IsShown (array_row two_spaces 1) half_of_a.view
half_shown = record {
  rows = Run (pos 1) (pos 2);
  cols = Every;
  shows = record { array = refl; height = refl; rows = span_two; cols = span_one; part = refl };
  view = record { rows = two_in 4 (omega arith); cols = one_in 1 (omega arith); height = refl; square = λ no. absurd (no refl); small = ltb-true 4 (2 ^ 63) refl };
}

-- the first task touches the block of A, the second both blocks
fill_touches : (b : ℕ) → Touches two_spaces fill_row b → 1 ≡ b
fill_touches b (array, p, (zero, access_is, lt, same, has), is) =
    let here : HasElement of_a array p = subst (λ (x : AccessRow). HasElement x array p) (sym same) has in
    by_four (λ q. block_with two_spaces 1 q ≡ b → 1 ≡ b) p (λ e. e) (λ e. e) (λ e. e) (λ e. e) here.1 (ap (λ (n : ℕ). block_with two_spaces n p) here.0 ∙ is)
fill_touches b (array, p, (suc k, access_is, lt, same, has), is) = absurd (omega (arith, lt))

a_touched : Touches two_spaces fill_row 1
a_touched = (1, 0, (0, of_a, omega arith, refl, (refl, (0, omega arith, refl))), refl)

copy_touches : (b : ℕ) → Touches two_spaces copy_row b → Contains (1 ∷ 2 ∷ []) b
copy_touches b (array, p, (zero, access_is, lt, same, has), is) =
    let here : HasElement of_b array p = subst (λ (x : AccessRow). HasElement x array p) (sym same) has in
    by_two (λ q. block_with two_spaces 2 q ≡ b → Contains (1 ∷ 2 ∷ []) b) 0 1 p (λ e. (1, omega arith, e)) (λ e. (1, omega arith, e)) here.1 (ap (λ (n : ℕ). block_with two_spaces n p) here.0 ∙ is)
copy_touches b (array, p, (suc zero, access_is, lt, same, has), is) =
    let here : HasElement half_of_a array p = subst (λ (x : AccessRow). HasElement x array p) (sym same) has in
    by_two (λ q. block_with two_spaces 1 q ≡ b → Contains (1 ∷ 2 ∷ []) b) 0 1 p (λ e. (0, omega arith, e)) (λ e. (0, omega arith, e)) here.1 (ap (λ (n : ℕ). block_with two_spaces n p) here.0 ∙ is)
copy_touches b (array, p, (suc (suc k), access_is, lt, same, has), is) = absurd (omega (arith, lt))

copy_touched : (b : ℕ) → Contains (1 ∷ 2 ∷ []) b → Touches two_spaces copy_row b
copy_touched b has = by_two (Touches two_spaces copy_row) 1 2 b
    (1, 0, (1, half_of_a, omega arith, refl, (refl, (0, omega arith, refl))), refl)
    (2, 0, (0, of_b, omega arith, refl, (refl, (0, omega arith, refl))), refl)
    has

-- the second task depends on the first, which writes what it reads
copy_depends : IsDependency two_spaces 1 2
copy_depends = ((omega arith, omega arith, (1, 0, inl ((0, of_a, omega arith, refl, (refl, (refl, (0, omega arith, refl)))), (1, half_of_a, omega arith, refl, (refl, (0, omega arith, refl)))))), refl)

fill_sound : IsSoundTask two_spaces 1
fill_sound = record {
  views = all_one (λ (a : AccessRow). IsShown (array_row two_spaces a.view.array) a.view) of_a a_shown;
  kernel = record { modes = (tt, tt); shapes = tt; scalar = λ no. absurd (no tt) };
  deps_rise = λ k lt. absurd (omega (arith, lt));
  deps = λ u. ((λ has. let lt = has.1 in absurd (omega (arith, lt))), (λ dep. let low = dep.0.0 in let lt = dep.0.1 in absurd (omega (arith, low, lt))));
  blocks = record { rising = λ k lt. absurd (omega (arith, lt)); exact = λ b. ((λ has. by_one (Touches two_spaces fill_row) 1 b a_touched has), (λ touch. (0, omega arith, fill_touches b touch))) };
  charge = refl;
  within = leb-true 96 4096 refl;
}

copy_sound : IsSoundTask two_spaces 2
copy_sound = record {
  views = all_two (λ (a : AccessRow). IsShown (array_row two_spaces a.view.array) a.view) of_b half_of_a b_shown half_shown;
  kernel = record { modes = (tt, (tt, tt)); shapes = (refl, refl); scalar = λ no. refl };
  deps_rise = λ k lt. absurd (omega (arith, lt));
  deps = λ u. (
    (λ has. by_one (λ v. IsDependency two_spaces v 2) 1 u copy_depends has),
    (λ dep. let low = dep.0.0 in let lt = dep.0.1 in (0, omega arith, omega (arith, low, lt))),
  );
  blocks = record { rising = λ k lt. below_one (λ i. slice_index (1 ∷ 2 ∷ []) i < slice_index (1 ∷ 2 ∷ []) (i + 1)) (omega arith) k (omega (arith, lt)); exact = λ b. (copy_touched b, copy_touches b) };
  charge = refl;
  within = leb-true 112 4096 refl;
}

-- ---- the rows

space_one : IsNumberIn two_spaces.spaces 1
space_one = (omega arith, leb-true 1 2 refl)

space_two : IsNumberIn two_spaces.spaces 2
space_two = (omega arith, leb-true 2 2 refl)

abbrev Is : ℕ → Type 0
Is n = (1 ≤ n) × (n ≤ 2)

one_of : Is 1
one_of = (omega arith, omega arith)

two_of : Is 2
two_of = (omega arith, omega arith)

names_rows : NamesRows two_spaces
names_rows = record {
  procs = all_two (λ (p : ProcRow). IsNumberIn two_spaces.spaces p.space) (proc_row two_spaces 1) (proc_row two_spaces 2) one_of two_of;
  blocks = all_two (λ (b : BlockRow). IsNumberIn two_spaces.arrays b.array × IsNumberIn two_spaces.spaces b.home) (block_row two_spaces 1) (block_row two_spaces 2) (one_of, one_of) (two_of, two_of);
  tasks = all_two (TaskNamesRows two_spaces) fill_row copy_row
      (record {
        region = (omega arith, omega arith);
        accesses = all_one (λ (a : AccessRow). IsNumberIn two_spaces.arrays a.view.array) of_a one_of;
        proc = one_of;
        deps = all_none (IsNumberIn two_spaces.tasks);
        blocks = all_one (IsNumberIn two_spaces.blocks) 1 one_of;
      })
      (record {
        region = (omega arith, omega arith);
        accesses = all_two (λ (a : AccessRow). IsNumberIn two_spaces.arrays a.view.array) of_b half_of_a two_of one_of;
        proc = two_of;
        deps = all_one (IsNumberIn two_spaces.tasks) 1 one_of;
        blocks = all_two (IsNumberIn two_spaces.blocks) 1 2 one_of two_of;
      });
  statements = all_rows (λ (row : StatementRow). StatementNamesRows two_spaces row.what) one_of two_of (omega arith, omega arith) tt two_of;
}

laid_out : IsLaidOut two_spaces
laid_out = record {
  arrays = below_two (λ i. StandsBehind (take i two_spaces.arrays) (numbered no_array two_spaces.arrays (i + 1)))
      (record { grid = record { rows = omega arith; cols = omega arith; brows = omega arith; bcols = omega arith; few = ltb-true 4 (2 ^ 63) refl }; first_block = refl; first_element = refl })
      (record { grid = record { rows = omega arith; cols = omega arith; brows = omega arith; bcols = omega arith; few = ltb-true 2 (2 ^ 63) refl }; first_block = refl; first_element = refl });
  blocks = refl;
}

fits_homes : All (FitsHomes two_spaces) two_spaces.blocks
fits_homes = all_two (FitsHomes two_spaces) (block_row two_spaces 1) (block_row two_spaces 2)
    (record { first = leb-true 64 4096 refl; moved = all_none (λ space. 64 ≤ (space_row two_spaces space).limit) })
    (record { first = leb-true 32 4096 refl; moved = all_none (λ space. 32 ≤ (space_row two_spaces space).limit) })

small_region : (region : ℕ) → (length (tasks_of two_spaces region) ≤ 1024) × (sum_by access_elements (tasks_of two_spaces region) ≤ 67108864)
small_region region = by (eqb 1 region)
  where
    by : (t : Bool) → (length (filter (λ (row : TaskRow). t) two_spaces.tasks) ≤ 1024) × (sum_by access_elements (filter (λ (row : TaskRow). t) two_spaces.tasks) ≤ 67108864)
    by true = (leb-true 2 1024 refl, leb-true 8 67108864 refl)
    by false = (leb-true 0 1024 refl, leb-true 0 67108864 refl)

keeps_limits : KeepsLimits two_spaces
keeps_limits = record {
  each_space = all_two IsSmallSpace (space_row two_spaces 1) (space_row two_spaces 2) (record { name = leb-true 1 64 refl; limit = (omega arith, leb-true 4096 1099511627776 refl) }) (record { name = leb-true 1 64 refl; limit = (omega arith, leb-true 4096 1099511627776 refl) });
  each_proc = all_two (λ (p : ProcRow). length p.name ≤ 64) (proc_row two_spaces 1) (proc_row two_spaces 2) (leb-true 1 64 refl) (leb-true 1 64 refl);
  each_array = all_two HasSmallEdges (array_row two_spaces 1) (array_row two_spaces 2)
      (record { rows = (omega arith, leb-true 4 4194304 refl); cols = (omega arith, leb-true 1 4194304 refl); brows = (omega arith, leb-true 4 4194304 refl); bcols = (omega arith, leb-true 1 4194304 refl) })
      (record { rows = (omega arith, leb-true 2 4194304 refl); cols = (omega arith, leb-true 1 4194304 refl); brows = (omega arith, leb-true 2 4194304 refl); bcols = (omega arith, leb-true 1 4194304 refl) });
  each_statement = all_rows (λ (row : StatementRow). HasShortName row.what) tt tt tt tt tt;
  spaces = leb-true 2 8 refl;
  procs = leb-true 2 32 refl;
  arrays = leb-true 2 256 refl;
  elements = leb-true 6 4194304 refl;
  blocks = leb-true 2 4096 refl;
  each_region = λ region. let both = small_region region in record { tasks = both.0; elements = both.1 };
  touches = leb-true 4 1048576 refl;
}

-- ---- the order of the rows

lines_rise : IsNonDecreasingBy (λ (row : StatementRow). row.line) two_spaces.statements
lines_rise =
    let line : StatementRow → ℕ = λ row. row.line in
    rises_more line (row_at 0) (drop 1 two_spaces.statements) (all_four (λ row. 5 ≤ line row) (leb-true 5 6 refl) (leb-true 5 10 refl) (leb-true 5 11 refl) (leb-true 5 12 refl))
    (rises_more line (row_at 1) (drop 2 two_spaces.statements) (all_more (λ row. 6 ≤ line row) (row_at 2) (drop 3 two_spaces.statements) (leb-true 6 10 refl) (all_two (λ row. 6 ≤ line row) (row_at 3) (row_at 4) (leb-true 6 11 refl) (leb-true 6 12 refl)))
    (rises_more line (row_at 2) (drop 3 two_spaces.statements) (all_two (λ row. 10 ≤ line row) (row_at 3) (row_at 4) (leb-true 10 11 refl) (leb-true 10 12 refl))
    (rises_more line (row_at 3) (drop 4 two_spaces.statements) (all_one (λ row. 11 ≤ line row) (row_at 4) (leb-true 11 12 refl))
    (rises_more line (row_at 4) [] (all_none (λ row. 12 ≤ line row)) (rises_none line)))))

tasks_rise : IsNonDecreasingBy (λ (t : TaskRow). t.region) two_spaces.tasks
tasks_rise =
    let region : TaskRow → ℕ = λ t. t.region in
    rises_more region fill_row (copy_row ∷ []) (all_one (λ t. 1 ≤ region t) copy_row (omega arith)) (rises_more region copy_row [] (all_none (λ t. 1 ≤ region t)) (rises_none region))

-- no row drops an array
abbrev KeepsAll : StatementRow → Type 0
KeepsAll row = (a : ℕ) → row.what ≢ Drop a true

none_dropped : (rows : List StatementRow) (a : ℕ) → All KeepsAll rows → ¬ Any (λ (row : StatementRow). row.what ≡ Drop a true) rows
none_dropped rows a keep (k, row, lt, same, is) = keep k row lt a (ap (λ (x : StatementRow). x.what) same ∙ is)

a_live : IsLive (take 2 two_spaces.statements) 1
a_live = record { made = (0, omega arith, refl); kept = none_dropped (take 2 two_spaces.statements) 1 (all_two KeepsAll (row_at 0) (row_at 1) (λ a e. cc) (λ a e. cc)) }

b_live : IsLive (take 2 two_spaces.statements) 2
b_live = record { made = (1, omega arith, refl); kept = none_dropped (take 2 two_spaces.statements) 2 (all_two KeepsAll (row_at 0) (row_at 1) (λ a e. cc) (λ a e. cc)) }

b_still : IsLive (take 4 two_spaces.statements) 2
b_still = record {
  made = (1, omega arith, refl);
  kept = none_dropped (take 4 two_spaces.statements) 2 (all_more KeepsAll (row_at 0) (take 3 (drop 1 two_spaces.statements)) (λ a e. cc) (all_more KeepsAll (row_at 1) (take 2 (drop 2 two_spaces.statements)) (λ a e. cc) (all_two KeepsAll (row_at 2) (row_at 3) (λ a e. cc) (λ a e. cc))));
}

stands_at : (i : ℕ) (d : StatementRow) → i < 5 → MayStand two_spaces (take i two_spaces.statements) (slice_index_or two_spaces.statements i d).what
stands_at zero d lt = record { live = all_none (IsLive []); last = tt }
stands_at (suc zero) d lt = record { live = all_none (IsLive (take 1 two_spaces.statements)); last = tt }
stands_at (suc (suc zero)) d lt = record { live = all_more (IsLive (take 2 two_spaces.statements)) 1 (2 ∷ 1 ∷ []) a_live (all_two (IsLive (take 2 two_spaces.statements)) 2 1 b_live a_live); last = tt }
stands_at (suc (suc (suc zero))) d lt = record { live = all_none (IsLive (take 3 two_spaces.statements)); last = tt }
stands_at (suc (suc (suc (suc zero)))) d lt = record { live = all_one (IsLive (take 4 two_spaces.statements)) 2 b_still; last = tt }
stands_at (suc (suc (suc (suc (suc i))))) d lt = absurd (omega (arith, lt))

pub well_formed : IsWellFormed two_spaces
well_formed = record {
  machine = record { space = leb-true 1 2 refl; proc = λ some. leb-true 1 2 refl };
  names = names_rows;
  layout = laid_out;
  tasks = from_one_to_two (IsSoundTask two_spaces) fill_sound copy_sound;
  homes = fits_homes;
  limits = keeps_limits;
  line = record { rows = ltb-true 5 (2 ^ 32 - 1) refl; tasks = ltb-true 2 (2 ^ 32 - 1) refl; lines = lines_rise };
  regions = record { tasks = tasks_rise; rows = refl };
  lives = record { puts = refl; stand = stands_at };
}
