-- Which regions were run when a row begins: those up to the last above it.
use Rattle.std.proofs.Common.{◌≡◌, ℕ, ◌+◌, ◌-◌, ◌<◌, ◌≤◌, true, false, leb, List, length, get_or, Some, ap, sym, ◌∙◌, ⊎_elim, arith, take_all}
use Rattle.std.proofs.lemmas.Bool.{cases_lt, false_from_ne_true}
use Rattle.std.proofs.lemmas.Bool.Decides.{nat_tests}
use Rattle.std.proofs.lemmas.List.FromFn.{get_or-range_with_len}
use Rattle.dd_blocks.specs.declared.plan.Plan.{Plan}
use Rattle.dd_blocks.specs.declared.statement_row.StatementRow.{StatementRow}
use Rattle.dd_blocks.specs.declared.what.What.{What}
use Rattle.dd_blocks.specs.declared.what.What.TheVariants.{Moved, Region}
use Rattle.dd_blocks.specs.Lives.{region_run, regions_run}
use Rattle.dd_blocks.specs.WellFormed.{IsWellFormed}
use Rattle.dd_meaning.specs.Text.{regions_above}
use Rattle.dd_meaning.proofs.RegionRowsLemmas.{above_region}
use Rattle.dd_machine.specs.Made.{was_begun, was_closed}
use Rattle.dd_machine.specs.Owed.{entries_from}
use Rattle.dd_machine.specs.SoundMoved.{regions}
use Rattle.dd_machine.specs.Words.{IsOneOf, rows}
use Rattle.laws_of_lives.proofs.RegionsLemmas.{begun_if_closed, closed_rows, more_runs, region_index, run_at}
use Rattle.laws_of_lives.proofs.RowsLemmas.{begun_rows}
use Rattle.laws_of_rows.specs.Rows.{next_what}

runs_it : (w : What) (r : ℕ) → region_run w ≡ Some r → w ≡ Region r
runs_it (Region s) r e = let h : s ≡ r = cc in ap Region h
runs_it _ r e = absurd cc

-- no more regions are above a row than there are
pub few_above : (plan : Plan) (i : ℕ) → i ≤ rows plan → regions_above plan i ≤ regions plan
few_above plan i le =
    let all = ap (λ (xs : List StatementRow). length (regions_run xs)) (take_all (rows plan) plan.statements (omega arith)) in
    omega (arith, all, more_runs plan.statements i (rows plan) le)

-- the region of a row above is one of those above
pub above_of : (plan : Plan) (i k q : ℕ) → IsWellFormed plan → i ≤ rows plan → k < i → next_what plan k ≡ Region q → q ≤ regions_above plan i
above_of plan i k q well le lt what =
    let next = above_region plan k (record { line = 0; what = Moved }) q well (omega (arith, le, lt)) (ap region_run what) in
    let more = more_runs plan.statements (k + 1) i (omega (arith, lt)) in
    omega (arith, next.1, more)

-- and each of these has its row there
pub row_above : (plan : Plan) (i q : ℕ) → IsWellFormed plan → IsOneOf (regions plan) q → q ≤ regions_above plan i → (k : ℕ) × (k < i) × (next_what plan k ≡ Region q)
row_above plan i q well is le =
    let d : StatementRow = record { line = 0; what = Moved } in
    let run = run_at plan.statements d (q - 1) (omega (arith, is.0, is.1)) in
    let e : 1 + (q - 1) ≡ q = omega (arith, is.0) in
    let number : get_or (regions_run plan.statements) (q - 1) 0 ≡ q =
    ap (λ (ys : List ℕ). get_or ys (q - 1) 0) well.regions.rows ∙ get_or-range_with_len 1 (regions plan) (q - 1) 0 (omega (arith, is.0, is.1)) ∙ e in
    let what : next_what plan run.0 ≡ Region q = runs_it (next_what plan run.0) q (run.2 ∙ ap Some number) in
    let q_is = region_index plan well run.0 q run.1 what in
    let before : run.0 < i = ⊎_elim
    (λ (h : run.0 < i). h)
    (λ (h : i ≤ run.0). absurd (omega (arith, q_is, le, more_runs plan.statements i run.0 h)))
    (cases_lt run.0 i) in
    (run.0, before, what)

-- only these were begun
pub begun_above : (plan : Plan) (i q : ℕ) → IsWellFormed plan → i ≤ rows plan → was_begun (entries_from plan 1 i) q ≡ true → q ≤ regions_above plan i
begun_above plan i q well le begun = let k = begun_rows plan q i begun in above_of plan i k.0 q well le k.1 k.2

-- and just these were closed
pub closed_above : (plan : Plan) (i q : ℕ) → IsWellFormed plan → i ≤ rows plan → IsOneOf (regions plan) q → was_closed (entries_from plan 1 i) q ≡ leb q (regions_above plan i)
closed_above plan i q well le is = ⊎_elim
    (λ (past : regions_above plan i < q).
    let no : leb q (regions_above plan i) ≡ false = grind (arith, nat_tests) in
    false_from_ne_true (was_closed (entries_from plan 1 i) q) (λ closed. let k = begun_if_closed plan q i closed in let h = above_of plan i k.0 q well le k.1 k.2 in omega (arith, h, past)) ∙ sym no)
    (λ (within : q ≤ regions_above plan i).
    let yes : leb q (regions_above plan i) ≡ true = grind (arith, nat_tests) in
    let k = row_above plan i q well is within in
    closed_rows plan q k.0 i k.1 k.2 ∙ sym yes)
    (cases_lt (regions_above plan i) q)
