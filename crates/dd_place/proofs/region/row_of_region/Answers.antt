use Rattle.std.proofs.Common.{◌-◌, arith}
use Rattle.dd_place.proofs.RegionsLemmas.{row_found, row_nowhere, row_passed}
use Rattle.dd_place.proofs.region.row_of_region.Goals as goal

pub returns-then-run-region-clause-value : goal.returns-then-run-region-clause-value
returns-then-run-region-clause-value c =
    let at = row_found c.args.region c.args.rows.now (c.loop-i.i - 1) c.index-rows-i.result c.requires.regions (omega arith) (cc) in
    omega (arith, at)

pub returns-then-run-region-2-clause-value : goal.returns-then-run-region-2-clause-value
returns-then-run-region-2-clause-value c =
    let at = row_passed c.args.region c.in-Some.run' c.args.rows.now (c.loop-i.i - 1) c.index-rows-i.result c.requires.regions (omega arith) (λ k d le. c.loop-i.invariant k d (omega arith)) (cc) c.if-run-region-2.true in
    omega (arith, at)

pub returns-clause-value : goal.returns-clause-value
returns-clause-value c =
    let at = row_nowhere c.args.region c.args.rows.now (λ k d le. c.loop-i.invariant k d (omega arith)) in
    omega (arith, at)
