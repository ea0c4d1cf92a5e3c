-- The row that runs a region, searched from the last row up.
use Rattle.std.proofs.Common.{◌≡◌, ◌≢◌, ℕ, ◌+◌, ◌<◌, ◌≤◌, Bool, refl, true, false, nat_eq, List, length, get_or, Option, None, Some, ap, ◌∙◌, subst, ⊎_elim, arith}
use Rattle.std.specs.List.{AllPairs, position_or_len}
use Rattle.std.specs.Option.{option_map_or}
use Rattle.std.proofs.lemmas.Bool.{cases_lt, eq-eqb, eqb-true, false_from_ne_true, false≢true}
use Rattle.std.proofs.lemmas.List.{get_or_default}
use Rattle.std.proofs.lemmas.List.Sums.{position_or_len_is}
use Rattle.dd_blocks.specs.declared.statement_row.StatementRow.{StatementRow}
use Rattle.dd_blocks.specs.declared.what.What.{What}
use Rattle.dd_blocks.specs.declared.what.What.TheVariants.{Put, Print, Sum, Moved, Same, Drop, MoveTo, Region}
use Rattle.dd_blocks.specs.Homes.{runs_region}
use Rattle.dd_blocks.specs.Lives.{region_run}
use Rattle.dd_place.specs.Premises.{IsBelow}

abbrev runs : ℕ → StatementRow → Bool
runs region row = runs_region region row.what

-- the test of a row by the region that it runs
as_run : (region : ℕ) (what : What) → runs_region region what ≡ option_map_or (λ n. nat_eq n region) (region_run what) false
as_run region (Put array) = refl
as_run region (Print array) = refl
as_run region (Sum array name) = refl
as_run region Moved = refl
as_run region (Same array) = refl
as_run region (Drop array last) = refl
as_run region (MoveTo array space) = refl
as_run region (Region run) = refl

-- no row from a place on runs the region
abbrev pub NoneFrom : ℕ → List StatementRow → ℕ → Type 0
NoneFrom region rows i = (k : ℕ) (d : StatementRow) → i ≤ k → k < length rows → runs region (get_or rows k d) ≡ false

is_run : (region : ℕ) (run : Option ℕ) → option_map_or (λ n. nat_eq n region) run false ≡ true → run ≡ Some region
is_run region None same = absurd (false≢true same)
is_run region (Some n) same = ap (λ (x : ℕ). Some x) (eqb-true n region same)

other_run : (region : ℕ) (run : Option ℕ) → run ≢ Some region → option_map_or (λ n. nat_eq n region) run false ≡ false
other_run region run other = false_from_ne_true _ (λ same. other (is_run region run same))

pub not_run : (region : ℕ) (row : StatementRow) → region_run row.what ≢ Some region → runs region row ≡ false
not_run region row other = as_run region row.what ∙ other_run region (region_run row.what) other

same_run : (region : ℕ) (run : Option ℕ) → run ≡ Some region → option_map_or (λ n. nat_eq n region) run false ≡ true
same_run region run same = rw same (eq-eqb region region (omega arith))

-- above a region there is none of its number or of a higher one
above : (region : ℕ) (upper lower : StatementRow) (run : ℕ) → IsBelow upper lower → region_run lower.what ≡ Some run → run ≤ region → runs region upper ≡ false
above region upper lower run below here le = as_run region upper.what ∙ other_run region (region_run upper.what) (λ same. let lt : region < run = below region run same here in absurd (omega arith))

pub row_found : (region : ℕ) (rows : List StatementRow) (i : ℕ) (d : StatementRow) → AllPairs IsBelow rows → i < length rows → region_run (get_or rows i d).what ≡ Some region → position_or_len (runs region) rows ≡ i
row_found region rows i d pairs lt here = position_or_len_is (runs region) rows i d (omega arith)
    (λ k less. above region (get_or rows k d) (get_or rows i d) region (pairs k i d less lt) here (omega arith))
    (λ inside. as_run region (get_or rows i d).what ∙ same_run region _ here)

pub row_next : (region : ℕ) (rows : List StatementRow) (i : ℕ) (d : StatementRow) → NoneFrom region rows (i + 1) → region_run (get_or rows i d).what ≢ Some region → NoneFrom region rows i
row_next region rows i d none other = λ k e le lt. ⊎_elim
    (λ (here : k < i + 1).
    let same : i ≡ k = omega arith in
    let row : get_or rows i d ≡ get_or rows k e = get_or_default rows i d e (omega arith) ∙ ap (λ (n : ℕ). get_or rows n e) same in
    subst (λ (r : StatementRow). runs region r ≡ false) row (as_run region (get_or rows i d).what ∙ other_run region _ other))
    (λ (beyond : i + 1 ≤ k). none k e beyond lt)
    (cases_lt k (i + 1))

pub row_passed : (region run : ℕ) (rows : List StatementRow) (i : ℕ) (d : StatementRow) → AllPairs IsBelow rows → i < length rows → NoneFrom region rows (i + 1) → region_run (get_or rows i d).what ≡ Some run → run < region → position_or_len (runs region) rows ≡ length rows
row_passed region run rows i d pairs lt none here less = position_or_len_is (runs region) rows (length rows) d (omega arith)
    (λ k within. ⊎_elim
    (λ (up : k < i). above region (get_or rows k d) (get_or rows i d) run (pairs k i d up lt) here (omega arith))
    (λ (down : i ≤ k). row_next region rows i d none (λ same. let e : run ≡ region = cc in absurd (omega arith)) k d down within)
    (cases_lt k i))
    (λ outside. absurd (omega arith))

abbrev no_row : StatementRow
no_row = record { line = 0; what = Moved }

pub row_nowhere : (region : ℕ) (rows : List StatementRow) → NoneFrom region rows 0 → position_or_len (runs region) rows ≡ length rows
row_nowhere region rows none = position_or_len_is (runs region) rows (length rows) no_row (omega arith) (λ k within. none k no_row (omega arith) within) (λ outside. absurd (omega arith))
