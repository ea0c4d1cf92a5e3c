use Rattle.std.proofs.Common.{◌≡◌, ℕ, List, sym, ap, ◌∙◌, subst, replicate}
use Rattle.dd_blocks.specs.declared.block_row.BlockRow.{BlockRow}
use Rattle.dd_spans.specs.PlaceMap.{PlaceMap}
use Rattle.dd_stamps.specs.Cells.{AreTrue, blank}
use Rattle.dd_stamps.specs.Cells.{size_of}
use Rattle.dd_stamps.proofs.CellsLemmas.{blank_true}
use Rattle.dd_stamps.proofs.stamped.blank.Goals as goal

pub invariant_of-result-clause-cells : goal.invariant_of-result-clause-cells
invariant_of-result-clause-cells c = λ told.
    let many : c.from.result ≡ size_of c.args.plan.now c.args.block = c.from.ensures ∙ ap (λ (r : BlockRow). r.size) c.block_row-size.ensures in
    let list : c.in_ok-versions.versions.list ≡ replicate (size_of c.args.plan.now c.args.block) blank = ap (λ (m : PlaceMap). m.list) c.in_ok-versions.ensures ∙ ap (λ (n : ℕ). replicate n blank) many in
    subst (λ (l : List ℕ). AreTrue c.args.plan.now c.args.block l c.in_ok-values.values.items) (sym list) (blank_true c.args.plan.now c.args.block c.in_ok-values.values.items)
