use Rattle.std.proofs.Common.{◌≡◌, suc, ◌+◌, ◌*◌, length, ap, refl, ◌∙◌, Option, arith, ℕ}
use Rattle.std.specs.Option.{option_or}
use Rattle.dd_blocks.specs.Grids.{block_count, element_count}
use Rattle.dd_blocks.specs.Layout.{blocks_in, elements_in}
use Rattle.dd_blocks.specs.Limits.{arrays_limit, blocks_limit, elements_limit}
use Rattle.dd_check.proofs.AmountLemmas.{alone, three_asked}
use Rattle.dd_check.proofs.BlocksLemmas.{length_blocks}
use Rattle.dd_check.proofs.limits.passed_by_array.Goals as goal

pub returns : goal.returns
returns c =
    let plan = c.args.draft.now.plan in
    let arrays : length c.as_slice.result.now ≡ length plan.arrays = ap length c.as_slice.ensures in
    let blocks : length c.as_slice-2.result.now ≡ blocks_in plan.arrays = ap length c.as_slice-2.ensures ∙ length_blocks plan c.requires.sound.above.layout in
    let elements : c.args.draft.now.elements + c.from.result * c.from-2.result ≡ elements_in plan.arrays + element_count c.args.grid.now = rw (c.from.ensures, c.from-2.ensures, c.requires.sound.counts.elements) refl in
    c.or-2.ensures
    ∙ (ap (λ (o : Option ℕ). option_or o c.over-3.result) c.or.ensures
    ∙ three_asked c.over.result c.over-2.result c.over-3.result _ _ _ arrays_limit elements_limit blocks_limit
    (alone _ _ (suc (length plan.arrays)) arrays_limit c.over.ensures (omega arith))
    (alone _ _ (elements_in plan.arrays + element_count c.args.grid.now) elements_limit c.over-2.ensures elements)
    (alone _ _ (blocks_in plan.arrays + block_count c.args.grid.now) blocks_limit c.over-3.ensures (omega (arith, c.blocks-2.ensures.value))))
