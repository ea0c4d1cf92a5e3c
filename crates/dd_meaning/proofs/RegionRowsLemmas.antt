-- The rows that run regions: each region has one, and they stand in the order of the regions.
use Rattle.std.proofs.Common.{◌≡◌, ℕ, zero, suc, ◌+◌, ◌-◌, ◌<◌, ◌≤◌, Bool, true, false, eqb, Option, None, Some, List, [], ◌∷◌, ◌++◌, length, take, drop, get_or, refl, sym, ap, ◌∙◌, arith}
use Rattle.std.proofs.lemmas.Bool.Decides.{nat_tests}
use Rattle.std.proofs.lemmas.List.{append-nil, append_assoc, length-append, take-append-drop}
use Rattle.std.proofs.lemmas.List.Elements.{filter_map-append}
use Rattle.std.proofs.lemmas.List.FromFn.{get_or-range_with_len}
use Rattle.std.proofs.lemmas.List.Sums.{position_or_len_is}
use Rattle.std.proofs.Math.Seq.{get_or-append_seam, take-suc}
use Rattle.dd_blocks.specs.declared.plan.Plan.{Plan}
use Rattle.dd_blocks.specs.declared.statement_row.StatementRow.{StatementRow}
use Rattle.dd_blocks.specs.declared.what.What.{What}
use Rattle.dd_blocks.specs.declared.what.What.TheVariants.{Put, Print, Sum, Moved, Same, Drop, MoveTo, Region}
use Rattle.dd_blocks.specs.Homes.{row_of_region, runs_region}
use Rattle.dd_blocks.specs.Lives.{region_run, regions_run}
use Rattle.dd_blocks.specs.WellFormed.{IsWellFormed}
use Rattle.dd_meaning.specs.RegionRows.{RunsAt, next_region}
use Rattle.dd_meaning.specs.Text.{regions_above}

-- the regions above a row
abbrev run_by : StatementRow → Option ℕ
run_by row = region_run row.what

above_next : (rows : List StatementRow) (i : ℕ) (d : StatementRow) → i < length rows → regions_run (take (i + 1) rows) ≡ regions_run (take i rows) ++ regions_run (get_or rows i d ∷ [])
above_next rows i d lt =
    let next : i + 1 ≡ suc i = omega arith in
    ap (λ (n : ℕ). regions_run (take n rows)) next ∙ ap regions_run (take-suc rows i d lt) ∙ filter_map-append run_by (take i rows) (get_or rows i d ∷ [])

pub above_other : (plan : Plan) (i : ℕ) (d : StatementRow) → i < length plan.statements → region_run (get_or plan.statements i d).what ≡ None → regions_above plan (i + 1) ≡ regions_above plan i
above_other plan i d lt none =
    let next = above_next plan.statements i d lt in
    let last : regions_run (get_or plan.statements i d ∷ []) ≡ [] = rw none refl in
    ap length (next ∙ ap (λ l. regions_run (take i plan.statements) ++ l) last ∙ append-nil (regions_run (take i plan.statements)))

pub above_region : (plan : Plan) (i : ℕ) (d : StatementRow) (region : ℕ) → IsWellFormed plan → i < length plan.statements → region_run (get_or plan.statements i d).what ≡ Some region → (region ≡ suc (regions_above plan i)) × (regions_above plan (i + 1) ≡ region)
above_region plan i d region well lt some =
    let rows = plan.statements in
    let front = regions_run (take i plan.statements) in
    let last : regions_run (get_or plan.statements i d ∷ []) ≡ region ∷ [] = rw some refl in
    let next : regions_run (take (i + 1) plan.statements) ≡ regions_run (take i plan.statements) ++ region ∷ [] = above_next plan.statements i d lt ∙ ap (λ l. regions_run (take i plan.statements) ++ l) last in
    let whole : regions_run plan.statements ≡ regions_run (take i plan.statements) ++ (region ∷ regions_run (drop (i + 1) plan.statements)) =
    ap regions_run (sym (take-append-drop (i + 1) plan.statements)) ∙ filter_map-append run_by (take (i + 1) plan.statements) (drop (i + 1) plan.statements)
    ∙ ap (λ l. l ++ regions_run (drop (i + 1) plan.statements)) next ∙ append_assoc (regions_run (take i plan.statements)) (region ∷ []) (regions_run (drop (i + 1) plan.statements)) in
    let long : length (regions_run (take i plan.statements)) < length (regions_run plan.statements) = rw whole (simp length-append (omega arith)) in
    let found : region ≡ suc (regions_above plan i) =
    sym (ap (λ l. get_or l (length (regions_run (take i plan.statements))) 0) whole ∙ get_or-append_seam (regions_run (take i plan.statements)) region (regions_run (drop (i + 1) plan.statements)) 0)
    ∙ ap (λ l. get_or l (length (regions_run (take i plan.statements))) 0) well.regions.rows
    ∙ get_or-range_with_len 1 (length (regions_run plan.statements)) (length (regions_run (take i plan.statements))) 0 long ∙ omega arith in
    (found, ap length next ∙ length-append (regions_run (take i plan.statements)) (region ∷ []) ∙ omega (arith, found))

-- further down stand no fewer regions
above_one : (plan : Plan) (i : ℕ) → i < length plan.statements → regions_above plan i ≤ regions_above plan (i + 1)
above_one plan i lt =
    let none : StatementRow = record { line = 0; what = Put 0 } in
    let next = ap length (above_next plan.statements i none lt) in
    omega (arith, next, length-append (regions_run (take i plan.statements)) (regions_run (get_or plan.statements i none ∷ [])))

above_le : (plan : Plan) (a n : ℕ) → a + n ≤ length plan.statements → regions_above plan a ≤ regions_above plan (a + n)
above_le plan a zero le = let e : a + 0 ≡ a = omega arith in omega (arith, ap (regions_above plan) e)
above_le plan a (suc n) le =
    let e : a + suc n ≡ a + n + 1 = omega arith in
    omega (arith, ap (regions_above plan) e, above_le plan a n (omega arith), above_one plan (a + n) (omega arith))

-- the region of a row is the next, and there is no other row of it
pub runs_next : (plan : Plan) (i region : ℕ) → IsWellFormed plan → RunsAt plan i region → (region ≡ next_region plan i) × (regions_above plan (i + 1) ≡ region)
runs_next plan i region well runs =
    let none : StatementRow = record { line = 0; what = Put 0 } in
    let above = above_region plan i none region well runs.within (ap region_run runs.what) in
    (omega (arith, above.0), above.1)

runs_some : (what : What) (region : ℕ) → runs_region region what ≡ true → region_run what ≡ Some region
runs_some (Region run) region is = let e : run ≡ region = grind (arith, nat_tests) in ap (λ (n : ℕ). Some n) e
runs_some (Put array) region is = absurd (cc)
runs_some (Print array) region is = absurd (cc)
runs_some (Sum array name) region is = absurd (cc)
runs_some Moved region is = absurd (cc)
runs_some (Same array) region is = absurd (cc)
runs_some (Drop array last) region is = absurd (cc)
runs_some (MoveTo array space) region is = absurd (cc)

false_by : (b : Bool) → (b ≡ true → ⊥) → b ≡ false
false_by true never = absurd (never refl)
false_by false never = refl

pub row_of : (plan : Plan) (i region : ℕ) → IsWellFormed plan → RunsAt plan i region → row_of_region plan region ≡ i + 1
row_of plan i region well runs =
    let none : StatementRow = record { line = 0; what = Put 0 } in
    let p : StatementRow → Bool = λ row. runs_region region row.what in
    let here : p (get_or plan.statements i none) ≡ true = ap (runs_region region) runs.what ∙ (let same : eqb region region ≡ true = grind (arith, nat_tests) in same) in
    let next = runs_next plan i region well runs in
    let before : (k : ℕ) → k < i → p (get_or plan.statements k none) ≡ false =
    λ k lt.
    false_by (p (get_or plan.statements k none))
    (λ is.
    let first = (above_region plan k none region well (omega (arith, lt, runs.within)) (runs_some (get_or plan.statements k none).what region is)).1 in
    let less = above_le plan (k + 1) (i - (k + 1)) (omega (arith, lt, runs.within)) in
    let e : k + 1 + (i - (k + 1)) ≡ i = omega arith in
    absurd (omega (arith, first, less, next.0, ap (regions_above plan) e))) in
    let at = position_or_len_is p plan.statements i none (omega (arith, runs.within)) before (λ l. here) in
    omega (arith, at)
