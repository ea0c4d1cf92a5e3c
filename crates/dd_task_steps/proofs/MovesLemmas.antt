-- So few elements move that their number fits 64 bits.
use Rattle.std.proofs.Common.{◌≡◌, ℕ, zero, suc, ◌+◌, ◌-◌, ◌*◌, ◌^◌, ◌<◌, ◌≤◌, Bool, true, false, ◌&&◌, cond, List, [], ◌∷◌, get_or, length, take, replicate, Option, Some, None, refl, sym, ◌∙◌, subst, ⊎_elim, arith, take_all}
use Rattle.std.specs.List.{cons_option, count_by, range_with_len}
use Rattle.std.proofs.lemmas.Bool.{cases_lt}
use Rattle.std.proofs.lemmas.List.Elements.{All-get_or}
use Rattle.std.proofs.lemmas.List.FromFn.{length-range_with_len}
use Rattle.std.proofs.lemmas.List.Sums.{count_by-le-length, length-filter, sum_by-le-sum_by}
use Rattle.dd_blocks.specs.declared.plan.Plan.{Plan}
use Rattle.dd_blocks.specs.declared.statement_row.StatementRow.{StatementRow}
use Rattle.dd_blocks.specs.declared.what.What.{What}
use Rattle.dd_blocks.specs.declared.what.What.TheVariants.{Put, Print, Sum, Moved, Same, Drop, MoveTo, Region}
use Rattle.dd_blocks.specs.ArrayHomes.{AreMovedTo, HasArray, homes_after}
use Rattle.dd_blocks.specs.Homes.{row_of_region}
use Rattle.dd_blocks.specs.Layout.{elements_in}
use Rattle.dd_blocks.specs.PlanElements.{elements}
use Rattle.dd_blocks.specs.Lives.{region_run, regions_run, tasks_of}
use Rattle.dd_blocks.specs.WellFormed.{IsWellFormed, StatementNamesRows}
use Rattle.dd_blocks.proofs.ArrayHomesLemmas.{moved_none}
use Rattle.dd_meaning.specs.Moves.{moved, moves_to, triples_of, triples_of_version, versions_in}
use Rattle.dd_transfers.specs.Visits.{region_visits}
use Rattle.dd_transfers.proofs.HomesLemmas.{moved_next}
use Rattle.dd_transfers.proofs.MovedLemmas.{moved_is, region_few}
use Rattle.dd_transfers.proofs.VisitsLemmas.{moves_along-le}
use Rattle.dd_machine.specs.Bytes.{when}
use Rattle.dd_machine.specs.Delivered.{delivered, is_delivered, is_moved}
use Rattle.dd_machine.specs.Made.{was_closed}
use Rattle.dd_machine.specs.Needed.{is_needed, needed}
use Rattle.dd_machine.specs.Owed.{made}
use Rattle.dd_machine.specs.Sound.{IsSound}
use Rattle.dd_machine.specs.SoundMoved.{open_moves, regions}
use Rattle.dd_machine.specs.States.{State}
use Rattle.dd_machine.specs.Words.{IsOneOf, blocks, size, total}
use Rattle.dd_machine.proofs.TotalsLemmas.{when_at_most}
use Rattle.dd_tables.proofs.SmallLemmas.{size_small}
use Rattle.laws_of_lives.proofs.RegionsLemmas.{region_is}

-- ---- the homes of the arrays above a row are known

has_array : (plan : Plan) (what : What) → StatementNamesRows plan what → HasArray (length plan.arrays) what
has_array plan (Put array) names = tt
has_array plan (Print array) names = tt
has_array plan (Sum array name) names = tt
has_array plan Moved names = tt
has_array plan (Same array) names = tt
has_array plan (Drop array last) names = tt
has_array plan (MoveTo array space) names = names.0
has_array plan (Region region) names = tt

homes_above : (plan : Plan) → IsWellFormed plan → (i : ℕ) → (homes : List ℕ) × AreMovedTo (length plan.arrays) (take i plan.statements) homes
homes_above plan well zero = (replicate (length plan.arrays) 0, moved_none (length plan.arrays) plan.statements)
homes_above plan well (suc i) =
    let above = homes_above plan well i in
    let none : StatementRow = record { line = 0; what = Put 0 } in
    ⊎_elim
    (λ (lt : i < length plan.statements).
    let names = All-get_or (λ (row : StatementRow). StatementNamesRows plan row.what) plan.statements i none lt well.names.statements in
    let e : i + 1 ≡ suc i = omega arith in (
      homes_after above.0 (get_or plan.statements i none).what,
      subst (λ (n : ℕ). AreMovedTo (length plan.arrays) (take n plan.statements) (homes_after above.0 (get_or plan.statements i none).what)) e
          (moved_next (length plan.arrays) plan.statements above.0 i none lt (has_array plan (get_or plan.statements i none).what names) above.1),
    ))
    (λ (le : length plan.statements ≤ i).
    let same : take i plan.statements ≡ take (suc i) plan.statements = take_all i plan.statements le ∙ sym (take_all (suc i) plan.statements (omega (arith, le))) in
    (above.0, subst (λ (rows : List StatementRow). AreMovedTo (length plan.arrays) rows above.0) same above.1))
    (cases_lt i (length plan.statements))

-- ---- what a region moves

pub moved_few : (plan : Plan) → IsWellFormed plan → (region : ℕ) → 1 ≤ region → moved plan region ≤ 2 ^ 28
moved_few plan well region low =
    let above = homes_above plan well (row_of_region plan region - 1) in
    let visits = region_visits plan above.0 (tasks_of plan region) in
    let is = moved_is plan well region low above.0 above.1 in
    let less = moves_along-le visits (replicate (elements_in plan.arrays) 0) in
    let few = region_few plan well region above.0 in
    omega (arith, is, less, few)

count_less : (p q : ℕ → Bool) (xs : List ℕ) → count_by (λ x. p x && q x) xs ≤ count_by p xs
count_less p q xs = sum_by-le-sum_by (λ (x : ℕ). cond (p x && q x) 1 0) (λ (x : ℕ). cond (p x) 1 0) xs (λ x. by (p x) (q x))
  where
    by : (a b : Bool) → cond (a && b) 1 0 ≤ cond a 1 0
    by true true = omega arith
    by true false = omega arith
    by false b = omega arith

delivered_less : (plan : Plan) (st : State) (r : ℕ) → delivered plan st r ≤ moved plan r
delivered_less plan st r =
    sum_by-le-sum_by (triples_of plan r (is_moved plan st r)) (triples_of plan r (moves_to plan r)) (elements plan)
    (λ e. sum_by-le-sum_by (triples_of_version plan (is_moved plan st r e)) (triples_of_version plan (moves_to plan r e)) (versions_in plan r e)
    (λ v. count_less (moves_to plan r e v) (is_delivered plan st r e v) (range_with_len 1 (length plan.spaces))))

-- ---- all of them

total_most : (n k : ℕ) (f : ℕ → ℕ) → ((i : ℕ) → IsOneOf n i → f i ≤ k) → total n f ≤ n * k
total_most zero k f each = omega arith
total_most (suc n) k f each =
    let below = total_most n k f (λ i is. each i (is.0, (let h = is.1 in omega (arith, h)))) in
    let here = each (suc n) (omega arith, omega arith) in
    let more : suc n * k ≡ n * k + k = omega arith in
    omega (arith, below, here, more)

regions_few : (rows : List StatementRow) → length (regions_run rows) ≤ length rows
regions_few [] = omega arith
regions_few (row ∷ rows) = by (region_run row.what) (regions_few rows)
  where
    by : (o : Option ℕ) → length (regions_run rows) ≤ length rows → length (cons_option o (regions_run rows)) ≤ suc (length rows)
    by None h = omega (arith, h)
    by (Some x) h = omega (arith, h)

open_few : (plan : Plan) (st : State) (o : Option ℕ) → IsWellFormed plan → IsSound plan st → st.region ≡ o → open_moves plan st o ≤ 2 ^ 28
open_few plan st None well sound is = omega arith
open_few plan st (Some r) well sound is =
    let one = region_is plan well st.progress r (sound.lives.open_next r is) in
    let few = moved_few plan well r one.0 in
    let less = delivered_less plan st r in
    omega (arith, few, less)

pub moved_small : (plan : Plan) (st : State) → IsWellFormed plan → IsSound plan st → st.moved ≤ 2 ^ 61
moved_small plan st well sound =
    let closed = total_most (regions plan) (2 ^ 28) (λ q. when (was_closed (made plan st.progress) q) (moved plan q))
    (λ q is. let most = when_at_most (was_closed (made plan st.progress) q) (moved plan q) in let few = moved_few plan well q is.0 in omega (arith, most, few)) in
    let now_open = open_few plan st st.region well sound refl in
    let few = regions_few plan.statements in
    let rows = well.line.rows in
    let is = sound.moved in
    omega (arith, closed, now_open, few, rows, is)

-- a number of needed elements more
pub more_small : (plan : Plan) (st : State) (task block from count : ℕ) → IsWellFormed plan → IsSound plan st → IsOneOf (blocks plan) block
    → count ≡ length (needed plan st task block from) → st.moved + count < 2 ^ 64
more_small plan st task block from count well sound is exact =
    let so_far = moved_small plan st well sound in
    let filtered = length-filter (is_needed plan st task block from) (range_with_len 0 (size plan block)) in
    let most = count_by-le-length (is_needed plan st task block from) (range_with_len 0 (size plan block)) in
    let long = length-range_with_len 0 (size plan block) in
    let small = size_small plan block well is in
    omega (arith, so_far, filtered, most, long, small, exact)
