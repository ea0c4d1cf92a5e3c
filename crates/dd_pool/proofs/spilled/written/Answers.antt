use Rattle.std.proofs.Common.{Bor, sym, ap, ◌∙◌}
use Rattle.dd_blocks.specs.declared.plan.Plan.{Plan}
use Rattle.dd_spans.specs.PlaceMap.{PlaceMap}
use Rattle.dd_pool.proofs.SpilledLemmas.{true_by}
use Rattle.dd_pool.proofs.spilled.written.Goals as goal

pub invariant_of-result-clause-numbers : goal.invariant_of-result-clause-numbers
invariant_of-result-clause-numbers g c = rw c.snapshot-values.ensures c.requires.fit

pub invariant_of-result-clause-kept : goal.invariant_of-result-clause-kept
invariant_of-result-clause-kept g c = rw c.snapshot-values.ensures c.requires.kept

pub invariant_of-result-clause-cells : goal.invariant_of-result-clause-cells
invariant_of-result-clause-cells g c = λ told.
    true_by _ _ _ _ _ _ _ _ (sym (ap (λ (r : Bor Plan). r.now) c.plan-plan.ensures)) (sym c.block-block.ensures)
    (sym (ap (λ (m : PlaceMap). m.list) c.into_versions-versions.ensures)) (ap (λ v. v.items) (sym c.snapshot-values.ensures)) (c.args.copy.cells (sym c.told-told.ensures ∙ told))
