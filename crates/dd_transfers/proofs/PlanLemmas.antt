-- What a well-formed Plan gives to the walk of a region.
use Rattle.std.proofs.Common.{◌≡◌, ℕ, ◌+◌, ◌-◌, ◌≤◌, eqb, cond, List, length, get_or, take, Option, None, Some, sym, ap, ◌∙◌, subst, arith}
use Rattle.std.specs.Option.{unwrap_or}
use Rattle.std.specs.List.{last_or}
use Rattle.std.proofs.lemmas.List.Elements.{All-from_get_or}
use Rattle.dd_blocks.specs.declared.plan.Plan.{Plan}
use Rattle.dd_blocks.specs.declared.statement_row.StatementRow.{StatementRow}
use Rattle.dd_blocks.specs.ArrayHomes.{AreMovedTo}
use Rattle.dd_blocks.specs.Elements.{Element}
use Rattle.dd_blocks.specs.Homes.{home_after, row_of_region, spaces_of}
use Rattle.dd_blocks.specs.Numbered.{IsNumberIn, block_row, task_row}
use Rattle.dd_blocks.specs.PlanElements.{IsElement, block_of_element}
use Rattle.dd_blocks.specs.WellFormed.{IsWellFormed}
use Rattle.dd_blocks.proofs.ElementsLemmas.{reader_within, writer_within}
use Rattle.dd_blocks.proofs.MovedSpacesLemmas.{IsSpaceOr, Names, home_by_last, last_move}
use Rattle.dd_blocks.proofs.NumberedLemmas.{task_names_rows}
use Rattle.dd_blocks.proofs.PlanElementsLemmas.{place_of_each}
use Rattle.dd_meaning.specs.Moves.{home_of}
use Rattle.dd_meaning.specs.RegionRows.{RunsAt}
use Rattle.dd_meaning.proofs.HomesLemmas.{home_within, rows_above_name}
use Rattle.dd_meaning.proofs.RegionRowsLemmas.{row_of}
use Rattle.dd_meaning.proofs.RegionTasksLemmas.{place_within}
use Rattle.dd_transfers.specs.Homes.{AreHomes, home_by}
use Rattle.dd_transfers.specs.Visits.{IsWalkable}
use Rattle.dd_transfers.proofs.HistoryLemmas.{IsHistory}
use Rattle.dd_transfers.proofs.RegionsLemmas.{history}

-- ---- tasks

pub walkable : (plan : Plan) → IsWellFormed plan → (t : ℕ) → IsNumberIn plan.tasks t → IsWalkable plan (task_row plan t)
walkable plan well t within =
    let names = task_names_rows plan well t within in
    let place = place_within plan well t within in
    record {
      views = λ k d lt. record { array = names.accesses k d lt; shown = ((well.tasks t within).views k d lt).view };
      proc = names.proc;
      space = (place.0, omega (arith, place.1, well.limits.spaces));
    }

-- ---- homes

unwrap_few : (plan : Plan) (o : Option ℕ) → IsSpaceOr plan o → unwrap_or o 0 ≤ length plan.spaces
unwrap_few plan None inside = omega arith
unwrap_few plan (Some space) inside = inside.1

-- what is found for the arrays are homes of the Plan
pub are_homes : (plan : Plan) (rows : List StatementRow) (homes : List ℕ) → Names plan rows → AreMovedTo (length plan.arrays) rows homes → AreHomes plan homes
are_homes plan rows homes names moved = record {
  count = moved.count;
  within = All-from_get_or (λ home. home ≤ length plan.spaces) homes 0
      (λ i lt.
      let is = moved.each (i + 1) (omega arith) (omega (arith, moved.count)) in
      let at : get_or homes (i + 1 - 1) 0 ≡ get_or homes i 0 = ap (λ (k : ℕ). get_or homes k 0) (let e : i + 1 - 1 ≡ i = omega arith in e) in
      let few = unwrap_few plan (last_or None (spaces_of (i + 1) rows)) (last_move plan (i + 1) rows names) in
      omega (arith, is, at, few));
}

pub home_is : (plan : Plan) → IsWellFormed plan → (region : ℕ) (homes : List ℕ) (e : Element) → IsElement plan e
    → AreMovedTo (length plan.arrays) (take (row_of_region plan region - 1) plan.statements) homes → home_of plan region e ≡ home_by plan homes e
home_is plan well region homes e is moved =
    let rows : List StatementRow = take (row_of_region plan region - 1) plan.statements in
    let block : ℕ = block_of_element plan e in
    let found = moved.each e.array is.array.0 is.array.1 in
    ap (λ (n : ℕ). home_after n (block_row plan block).home rows) (place_of_each plan well.layout e is).array
    ∙ home_by_last plan e.array (block_row plan block).home rows (rows_above_name plan well (row_of_region plan region - 1))
    ∙ sym (ap (λ (h : ℕ). cond (eqb h 0) (block_row plan block).home h) found)

-- ---- the history of an element

pub is_history : (plan : Plan) → IsWellFormed plan → (region : ℕ) (e : Element) → IsElement plan e → IsHistory (history plan (home_of plan region e) e)
is_history plan well region e is =
    let home = home_within plan well region e is in
    record {
      home_low = home.0;
      home_high = home.1;
      place_low = λ t r. (place_within plan well t (reader_within plan t e r)).0;
      place_high = λ t r. (place_within plan well t (reader_within plan t e r)).1;
      written_low = λ t w. (place_within plan well t (writer_within plan t e w)).0;
    }

-- the homes after the rows above a region are those with which it begins
pub homes_of_region : (plan : Plan) (i region : ℕ) (homes items : List ℕ) → IsWellFormed plan → RunsAt plan i region → AreMovedTo (length plan.arrays) (take i plan.statements) items
    → homes ≡ items → AreMovedTo (length plan.arrays) (take (row_of_region plan region - 1) plan.statements) homes
homes_of_region plan i region homes items well runs moved is =
    let above : i ≡ row_of_region plan region - 1 = omega (arith, row_of plan i region well runs) in
    subst (λ (n : ℕ). AreMovedTo (length plan.arrays) (take n plan.statements) homes) above (subst (AreMovedTo (length plan.arrays) (take i plan.statements)) (sym is) moved)
