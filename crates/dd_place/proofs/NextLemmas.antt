-- All rows stand above a region that comes next.
use Rattle.std.proofs.Common.{◌≡◌, ℕ, zero, suc, ◌+◌, ◌-◌, ◌<◌, List, [], ◌∷◌, length, get_or, take, Option, None, Some, refl, ap, ◌∙◌, arith}
use Rattle.std.specs.List.{All, cons_option, range_with_len}
use Rattle.std.proofs.lemmas.List.{take_all}
use Rattle.std.proofs.lemmas.List.Elements.{All-cons, All-nil, All-weaker}
use Rattle.dd_blocks.specs.declared.plan.Plan.{Plan}
use Rattle.dd_blocks.specs.declared.statement_row.StatementRow.{StatementRow}
use Rattle.dd_blocks.specs.ArrayHomes.{rows_above}
use Rattle.dd_blocks.specs.Lives.{region_run, regions_run}
use Rattle.dd_blocks.specs.WellFormed.{AreRegions}
use Rattle.dd_place.proofs.RegionsLemmas.{not_run, row_nowhere}

-- a region that the row runs has a lower number
abbrev Below : ℕ → StatementRow → Type 0
Below n row = (b : ℕ) → region_run row.what ≡ Some b → b < n

first_below : (a n : ℕ) (row : StatementRow) (rows : List StatementRow) (run : Option ℕ) → ((b m : ℕ) → regions_run rows ≡ range_with_len b m → All (Below (b + m)) rows) → region_run row.what ≡ run
    → cons_option run (regions_run rows) ≡ range_with_len a n → All (Below (a + n)) (row ∷ rows)
first_below a n row rows None rest is same = All-cons (Below (a + n)) row rows (λ b some. absurd (cc)) (rest a n same)
first_below a zero row rows (Some r) rest is same = absurd (cc)
first_below a (suc n) row rows (Some r) rest is same =
    let e : r ≡ a = cc in
    All-cons (Below (a + suc n)) row rows (λ b some. let here : b ≡ a = cc in omega arith) (All-weaker (Below (a + 1 + n)) (Below (a + suc n)) (λ next lt b some. omega (arith, lt b some)) rows (rest (a + 1) n (cc)))

all_below : (rows : List StatementRow) (a n : ℕ) → regions_run rows ≡ range_with_len a n → All (Below (a + n)) rows
all_below [] a n same = All-nil (Below (a + n))
all_below (row ∷ rows) a n same = first_below a n row rows (region_run row.what) (all_below rows) refl same

pub above_next : (plan : Plan) (region : ℕ) → AreRegions plan → region ≡ length (regions_run plan.statements) + 1 → rows_above plan region ≡ plan.statements
above_next plan region regions next =
    let below = all_below plan.statements 1 (length (regions_run plan.statements)) regions.rows in
    let none = row_nowhere region plan.statements (λ k d le lt. not_run region (get_or plan.statements k d) (λ some. absurd (omega (arith, below k d lt region some, next)))) in
    ap (λ (n : ℕ). take (n + 1 - 1) plan.statements) none ∙ take_all (length plan.statements + 1 - 1) plan.statements (omega arith)
