-- The homes of arrays, row by row.
use Rattle.std.proofs.Common.{◌≡◌, ℕ, ◌+◌, ◌<◌, List, length, get_or, take, drop, replicate, sym, ap, subst, arith}
use Rattle.std.proofs.lemmas.List.{take_more}
use Rattle.dd_blocks.specs.declared.plan.Plan.{Plan}
use Rattle.dd_blocks.specs.declared.statement_row.StatementRow.{StatementRow}
use Rattle.dd_blocks.specs.declared.what.What.TheVariants.{Put}
use Rattle.dd_blocks.specs.ArrayHomes.{AreMovedTo, HasArray, homes_after}
use Rattle.dd_blocks.specs.Layout.{elements_in}
use Rattle.dd_blocks.proofs.ArrayHomesLemmas.{moved_push}
use Rattle.dd_transfers.specs.declared.moves.Moves.{Moves}
use Rattle.dd_transfers.specs.Rest.{IsAtRest, NoneAsks}
use Rattle.dd_meaning.specs.RegionRows.{RunsAt}

-- after the next row
pub moved_next : (arrays : ℕ) (rows : List StatementRow) (homes : List ℕ) (i : ℕ) (d : StatementRow) → i < length rows → HasArray arrays (get_or rows i d).what
    → AreMovedTo arrays (take i rows) homes → AreMovedTo arrays (take (i + 1) rows) (homes_after homes (get_or rows i d).what)
moved_next arrays rows homes i d lt has moved =
    let row : StatementRow = get_or rows i d in
    subst (λ (above : List StatementRow). AreMovedTo arrays above (homes_after homes row.what)) (sym (take_more rows i d lt)) (moved_push arrays (take i rows) homes row has moved)

-- a row that runs a region moves no array
pub moved_past : (plan : Plan) (i region : ℕ) (homes : List ℕ) → RunsAt plan i region → AreMovedTo (length plan.arrays) (take i plan.statements) homes
    → AreMovedTo (length plan.arrays) (take (i + 1) plan.statements) homes
moved_past plan i region homes runs moved =
    let none : StatementRow = record { line = 0; what = Put 0 } in
    let has : HasArray (length plan.arrays) (get_or plan.statements i none).what = subst (HasArray (length plan.arrays)) (sym runs.what) tt in
    subst (AreMovedTo (length plan.arrays) (take (i + 1) plan.statements)) (ap (homes_after homes) runs.what) (moved_next (length plan.arrays) plan.statements homes i none runs.within has moved)

-- what is kept below a row that runs a region
pub rest_past : (plan : Plan) (i region : ℕ) (old new : Moves) → RunsAt plan i region → IsAtRest plan i old → new.asked ≡ old.asked → new.homes.items ≡ old.homes.items
    → (1 < length plan.spaces → i < old.asked → new.marks.items ≡ replicate (elements_in plan.arrays) 0) → IsAtRest plan (i + 1) new
rest_past plan i region old new runs rest asked homes marks = record {
  last = subst (λ (n : ℕ). NoneAsks (drop n plan.statements)) (sym asked) rest.last;
  unmarked = λ some less. marks some (omega (arith, less, asked));
  homes = subst (AreMovedTo (length plan.arrays) (take (i + 1) plan.statements)) (sym homes) (moved_past plan i region old.homes.items runs rest.homes);
}
