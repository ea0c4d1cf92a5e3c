-- What a task stores in a block, by the Plan.
use Rattle.std.proofs.Common.{◌≡◌, ◌-◌, ◌<◌, ◌≤◌, ℕ, zero, suc, ℤ, Bool, true, false, ◌&&◌, cond, List, length, map, get_or, sym, ap, ◌∙◌, refl, subst, arith}
use Rattle.std.specs.Prelude.{slice_index}
use Rattle.std.specs.List.{All}
use Rattle.dd_kernels.specs.Lists.{element}
use Rattle.dd_views.specs.Views.{IsViewOf}
use Rattle.dd_blocks.specs.declared.access_row.AccessRow.{AccessRow}
use Rattle.dd_blocks.specs.declared.array_row.ArrayRow.{ArrayRow}
use Rattle.dd_blocks.specs.declared.block_row.BlockRow.{BlockRow}
use Rattle.dd_blocks.specs.declared.task_row.TaskRow.{TaskRow}
use Rattle.dd_blocks.specs.declared.grid.Grid.{Grid}
use Rattle.dd_blocks.specs.declared.plan.Plan.{Plan}
use Rattle.dd_blocks.specs.Elements.{Element, task_writes}
use Rattle.dd_blocks.specs.Grids.{block_size, pos_of}
use Rattle.dd_blocks.specs.Numbered.{IsNumberIn, array_row, block_row, task_row}
use Rattle.dd_blocks.specs.PlanElements.{block_in_grid, element_of, grid_of}
use Rattle.dd_kernels.specs.Shapes.{size_of as elements_in}
use Rattle.dd_blocks.specs.Tasks.{shape_in, shapes_in}
use Rattle.dd_blocks.specs.WellFormed.{IsWellFormed}
use Rattle.dd_blocks.proofs.PlanElementsLemmas.{element_of_place}
use Rattle.dd_meaning.specs.Steps.{computed, world_after}
use Rattle.dd_meaning.specs.Values.{outputs_of}
use Rattle.dd_meaning.specs.Written.{HaveLengths, value_stored}
use Rattle.dd_meaning.proofs.ValuesLemmas.{in_first_world, names_arrays}
use Rattle.dd_spans.specs.PlaceMap.{PlaceMap}
use Rattle.dd_stamps.specs.Cells.{AreTrue, size_of}
use Rattle.dd_stamps.specs.Copies.{written_places}
use Rattle.dd_stamps.specs.Stamps.{MayStamp, Spends, is_pending, pending}
use Rattle.dd_stamps.specs.Stored.{HoldsNumber, HoldsOutputs, some_writes}
use Rattle.dd_stamps.proofs.FoundLemmas.{are_views, have_lengths, have_shapes}
use Rattle.dd_stamps.proofs.StampsLemmas.{count_le}
use Rattle.dd_stamps.proofs.StoredLemmas.{stored_true}

-- the accesses of the task, and the array, the grid and the number of the block, as the code has them
pub record AreOf (plan : Plan) (task block : ℕ) (accesses : List AccessRow) (array : ℕ) (g : Grid) (b : ℕ) : Type 0 where
  pub accesses_are : accesses ≡ (task_row plan task).accesses
  pub array_is : array ≡ (block_row plan block).array
  pub grid_is : g ≡ grid_of plan block
  pub number_is : b ≡ block_in_grid plan block
  pub size_is : size_of plan block ≡ block_size (grid_of plan block) (block_in_grid plan block)

module _ (plan : Plan) (task block : ℕ) (accesses : List AccessRow) (array : ℕ) (g : Grid) (b : ℕ) (are : AreOf plan task block accesses array g b) where
  abbrev pub at : ℕ → Element
  at q = record { array = array; pos = pos_of g b q }

  pub same_place : (q : ℕ) → at q ≡ element_of plan block q
  same_place q =
      ap (λ (n : ℕ). let e : Element = record { array = n; pos = pos_of g b q } in e) are.array_is
      ∙ ap (λ (h : Grid). let e : Element = record { array = (block_row plan block).array; pos = pos_of h b q } in e) are.grid_is
      ∙ ap (λ (k : ℕ). let e : Element = record { array = (block_row plan block).array; pos = pos_of (grid_of plan block) k q } in e) are.number_is

  pub same_size : size_of plan block ≡ block_size g b
  same_size = are.size_is ∙ sym (ap (λ (k : ℕ). block_size g k) are.number_is ∙ ap (λ (h : Grid). block_size h (block_in_grid plan block)) are.grid_is)

  pub same_writes : (q : ℕ) → some_writes accesses (at q) ≡ task_writes (task_row plan task) (element_of plan block q)
  same_writes q = ap (some_writes accesses) (same_place q) ∙ ap (λ (l : List AccessRow). some_writes l (element_of plan block q)) are.accesses_are

  -- what is pending is written
  both_first : (x y : Bool) → (x && y) ≡ true → x ≡ true
  both_first true y e = refl
  both_first false y e = e

  pub pending_written : (map : PlaceMap) → length map.list ≡ size_of plan block → pending (λ q. some_writes accesses (at q)) task map.list ≤ written_places plan task block
  pending_written map long =
      let less = count_le (is_pending (λ q. some_writes accesses (at q)) task map.list) (λ p. task_writes (task_row plan task) (element_of plan block p)) (size_of plan block)
      (λ p is. sym (same_writes p) ∙ both_first (some_writes accesses (at p)) _ is) in
      subst (λ (n : ℕ). Rattle.dd_stamps.specs.Stamps.count_below (is_pending (λ q. some_writes accesses (at q)) task map.list) n ≤ written_places plan task block) (sym long) less

  -- what the code leaves is what the Plan says
  pub outputs_in : (lists : List (List ℤ)) (old was new is : List ℤ) → old ≡ was → is ≡ new → HoldsOutputs accesses lists at (block_size g b) old new
      → HoldsOutputs (task_row plan task).accesses lists (element_of plan block) (size_of plan block) was is
  outputs_in lists old was new is before after holds = record {
    count = ap length after ∙ holds.count ∙ ap length before;
    each = λ q lt.
        ap (λ (l : List ℤ). element l q) after
        ∙ holds.each q (subst (λ (n : ℕ). q < n) same_size lt)
        ∙ ap (λ (e : Element). value_stored accesses lists e (element old q)) (same_place q)
        ∙ ap (λ (l : List AccessRow). value_stored l lists (element_of plan block q) (element old q)) are.accesses_are
        ∙ ap (λ (l : List ℤ). value_stored (task_row plan task).accesses lists (element_of plan block q) (element l q)) before;
  }

  pub number_in : (old new : List ℕ) → HoldsNumber accesses at (block_size g b) task old new → HoldsNumber (task_row plan task).accesses (element_of plan block) (size_of plan block) task old new
  number_in old new holds = record {
    count = holds.count;
    each = λ q lt. holds.each q (subst (λ (n : ℕ). q < n) same_size lt) ∙ ap (λ (w : Bool). cond w task (slice_index old q)) (same_writes q);
  }

  -- views of the array are views of the grid
  pub views_in : All (λ (a : AccessRow). IsViewOf (shape_in (array_row plan a.view.array)) a.view) (task_row plan task).accesses
      → All (λ (a : AccessRow). a.view.array ≡ array → IsViewOf (record { rows = g.rows; cols = g.cols }) a.view) accesses
  views_in views = subst (All (λ (a : AccessRow). a.view.array ≡ array → IsViewOf (record { rows = g.rows; cols = g.cols }) a.view)) (sym are.accesses_are)
      (λ k d lt same.
      let a : AccessRow = get_or (task_row plan task).accesses k d in
      subst (λ (h : Grid). IsViewOf (record { rows = h.rows; cols = h.cols }) (get_or (task_row plan task).accesses k d).view) (sym are.grid_is)
      (subst (λ (n : ℕ). IsViewOf (shape_in (array_row plan n)) (get_or (task_row plan task).accesses k d).view) (same ∙ are.array_is) (views k d lt)))

-- the cells stay true
pub outputs_true : (plan : Plan) (task block : ℕ) (lists : List (List ℤ)) (vs ws : List ℕ) (xs ys : List ℤ) → IsWellFormed plan → IsNumberIn plan.tasks task → IsNumberIn plan.blocks block
    → lists ≡ outputs_of plan task → HaveLengths (task_row plan task).accesses lists
    → HoldsOutputs (task_row plan task).accesses lists (element_of plan block) (size_of plan block) xs ys
    → HoldsNumber (task_row plan task).accesses (element_of plan block) (size_of plan block) task vs ws → AreTrue plan block vs xs → AreTrue plan block ws ys
outputs_true plan zero block lists vs ws xs ys well known there are long outputs number cells = absurd (omega (arith, known.0))
outputs_true plan (suc n) block lists vs ws xs ys well known there are long outputs number cells =
    let prior : suc n - 1 ≡ n = omega arith in
    stored_true plan n block lists vs ws xs ys (names_arrays plan well) (omega (arith, known.1))
    (λ p lt. let at = element_of_place plan well.layout block p there lt in in_first_world plan (element_of plan block p) at.is.array at.is.within)
    (are ∙ ap (λ (m : ℕ). computed (world_after plan m) (task_row plan (suc n))) prior) long outputs.each number.each cells

-- the rows by which the code has them
pub rows_of : (plan : Plan) (task block : ℕ) (row : TaskRow) (here : BlockRow) (a : ArrayRow) (accesses : List AccessRow) (b : ℕ) → accesses ≡ row.accesses → row ≡ task_row plan task → here ≡ block_row plan block
    → a ≡ array_row plan (block_row plan block).array → b ≡ block - a.first_block → size_of plan block ≡ block_size a.grid (block_in_grid plan block) → AreOf plan task block accesses here.array a.grid b
rows_of plan task block row here a accesses b accesses_are row_is here_is a_is b_is size = record {
  accesses_are = accesses_are ∙ ap (λ (r : TaskRow). r.accesses) row_is;
  array_is = ap (λ (r : BlockRow). r.array) here_is;
  grid_is = ap (λ (r : ArrayRow). r.grid) a_is;
  number_is = b_is ∙ ap (λ (r : ArrayRow). block - r.first_block) a_is;
  size_is = size ∙ ap (λ (r : ArrayRow). block_size r.grid (block_in_grid plan block)) a_is;
}

-- the buffers of a work of the same Plan
pub work_lengths : (p plan : Plan) (task : ℕ) (accesses : List AccessRow) (lists bufs : List (List ℤ)) → IsWellFormed plan → IsNumberIn plan.tasks task → p ≡ plan → accesses ≡ (task_row plan task).accesses → lists ≡ bufs
    → map length bufs ≡ map elements_in (shapes_in (task_row p task).accesses) → HaveLengths accesses lists
work_lengths p plan task accesses lists bufs well known same accesses_are lists_are sizes =
    let here : map length bufs ≡ map elements_in (shapes_in (task_row plan task).accesses) = sizes ∙ ap (λ (r : Plan). map elements_in (shapes_in (task_row r task).accesses)) same in
    let long = have_lengths (task_row plan task).accesses bufs (are_views plan task well known) (have_shapes (shapes_in (task_row plan task).accesses) bufs here) in
    subst (λ (l : List (List ℤ)). HaveLengths accesses l) (sym lists_are) (subst (λ (l : List AccessRow). HaveLengths l bufs) (sym accesses_are) long)
