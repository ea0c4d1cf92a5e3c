use Rattle.std.proofs.Common.{◌-◌, ◌≡◌, ℕ, ℤ, List, length, map, sym, ap, ◌∙◌, subst, replicate}
use Rattle.std.proofs.lemmas.List.{length-replicate}
use Rattle.std.specs.List.{range_with_len}
use Rattle.std.proofs.lemmas.List.FromFn.{length-map-range_with_len}
use Rattle.dd_blocks.specs.declared.array_row.ArrayRow.{ArrayRow}
use Rattle.dd_blocks.specs.Grids.{block_size, pos_of}
use Rattle.dd_blocks.specs.Numbered.{array_row, block_row}
use Rattle.dd_meaning.specs.Worlds.{filled_at}
use Rattle.dd_spans.specs.PlaceMap.{PlaceMap}
use Rattle.dd_stamps.specs.Cells.{AreTrue}
use Rattle.dd_stamps.specs.Cells.{size_of}
use Rattle.dd_blocks.specs.PlanElements.{block_in_grid}
use Rattle.dd_stamps.proofs.CellsLemmas.{filled_true}
use Rattle.dd_blocks.proofs.LayoutLemmas.{block_stands}
use Rattle.dd_stamps.proofs.stamped.fresh_fill.Goals as goal

-- what an array holds in a block at first
abbrev block_values : ArrayRow → ℕ → List ℤ
block_values a k = map (λ place. filled_at a.fill (pos_of a.grid k place)) (range_with_len 0 (block_size a.grid k))

module _ (c : goal.After-yes) where
  abbrev row : ArrayRow
  row = array_row c.args.plan.now (block_row c.args.plan.now c.args.block).array

  values_are : c.in_ok-values.values.items ≡ block_values row (block_in_grid c.args.plan.now c.args.block)
  values_are =
      c.in_ok-values.ensures
      ∙ ap (block_values c.array_with-array.result) c.from.ensures
      ∙ ap (λ (a : ArrayRow). block_values a (c.args.block - a.first_block)) c.array_with-array.ensures.row

  many : length c.in_ok-values.values.items ≡ size_of c.args.plan.now c.args.block
  many =
      ap length values_are
      ∙ length-map-range_with_len (λ place. filled_at row.fill (pos_of row.grid (block_in_grid c.args.plan.now c.args.block) place)) 0 (block_size row.grid (block_in_grid c.args.plan.now c.args.block))
      ∙ sym (block_stands c.args.plan.now c.requires.well.layout c.args.block c.requires.known).size

  versions_are : c.in_ok-versions.versions.list ≡ replicate (size_of c.args.plan.now c.args.block) 0
  versions_are = ap (λ (m : PlaceMap). m.list) c.in_ok-versions.ensures ∙ ap (λ (n : ℕ). replicate n 0) (c.len.ensures ∙ c.in_ok-values.values.ok.0 ∙ many)

pub invariant_of-result-clause-stamps : goal.invariant_of-result-clause-stamps
invariant_of-result-clause-stamps c = ap length (versions_are c) ∙ length-replicate (size_of c.args.plan.now c.args.block) 0

pub invariant_of-result-clause-full : goal.invariant_of-result-clause-full
invariant_of-result-clause-full c = many c

pub invariant_of-result-clause-cells : goal.invariant_of-result-clause-cells
invariant_of-result-clause-cells c = λ told.
    subst (λ (l : List ℕ). AreTrue c.args.plan.now c.args.block l c.in_ok-values.values.items) (sym (versions_are c))
    (filled_true c.args.plan.now c.args.block c.in_ok-values.values.items (block_stands c.args.plan.now c.requires.well.layout c.args.block c.requires.known) (values_are c))
