use Rattle.std.proofs.Common.{◌≡◌, ℕ, ◌+◌, ◌-◌, cond, eqb, slice_index, sym, ap, ◌∙◌, arith}
use Rattle.std.specs.List.{list_any}
use Rattle.dd_blocks.specs.declared.array_row.ArrayRow.{ArrayRow}
use Rattle.dd_blocks.specs.Elements.{Element}
use Rattle.dd_blocks.specs.Grids.{block_of}
use Rattle.dd_blocks.specs.Homes.{home_in_region}
use Rattle.dd_blocks.specs.Numbered.{array_row}
use Rattle.dd_blocks.specs.PlanElements.{IsElement, block_of_element, number_of}
use Rattle.dd_blocks.proofs.LayoutLemmas.{all_blocks}
use Rattle.dd_blocks.proofs.PlanElementsLemmas.{place_of_each, same_element}
use Rattle.dd_meaning.specs.Moves.{home_of, place_of}
use Rattle.dd_meaning.specs.Versions.{tasks_in}
use Rattle.dd_history.proofs.cur.Cur.source.Goals as goal

pub overflow_add-block : goal.overflow_add-block
overflow_add-block c =
    let plan = c.args.plan.now in
    let n = c.array_of-array.result in
    let e : Element = record { array = n; pos = c.args.element - (array_row plan n).first_element } in
    let is : IsElement plan e = record { array = c.array_of-array.ensures.array; within = c.array_of-array.ensures.within } in
    let at : c.array-row.result.now.first_block + c.block_of.result ≡ block_of_element plan e =
    ap (λ (b : ℕ). c.array-row.result.now.first_block + b) c.block_of.ensures.value ∙ ap (λ (r : ArrayRow). r.first_block + block_of r.grid (c.args.element - r.first_element)) c.array-row.ensures in
    let has = (place_of_each plan c.requires.well.layout e is).block in
    let all = all_blocks plan c.requires.well.layout in
    omega (arith, at, has.1, all, c.requires.well.limits.blocks)

pub home_in_region-requires-clause-block : goal.home_in_region-requires-clause-block
home_in_region-requires-clause-block c =
    let plan = c.args.plan.now in
    let n = c.array_of-array.result in
    let e : Element = record { array = n; pos = c.args.element - (array_row plan n).first_element } in
    let is : IsElement plan e = record { array = c.array_of-array.ensures.array; within = c.array_of-array.ensures.within } in
    let at : c.array-row.result.now.first_block + c.block_of.result ≡ block_of_element plan e =
    ap (λ (b : ℕ). c.array-row.result.now.first_block + b) c.block_of.ensures.value ∙ ap (λ (r : ArrayRow). r.first_block + block_of r.grid (c.args.element - r.first_element)) c.array-row.ensures in
    rw at (place_of_each plan c.requires.well.layout e is).block

pub returns : goal.returns
returns c = λ e is_e number.
    let plan = c.args.plan.now in
    let n = c.array_of-array.result in
    let f : Element = record { array = n; pos = c.args.element - (array_row plan n).first_element } in
    let is : IsElement plan f = record { array = c.array_of-array.ensures.array; within = c.array_of-array.ensures.within } in
    let at : c.array-row.result.now.first_block + c.block_of.result ≡ block_of_element plan f =
    ap (λ (b : ℕ). c.array-row.result.now.first_block + b) c.block_of.ensures.value ∙ ap (λ (r : ArrayRow). r.first_block + block_of r.grid (c.args.element - r.first_element)) c.array-row.ensures in
    let whole : number_of plan f ≡ c.args.element = omega (arith, c.array_of-array.ensures.behind) in
    let same : f ≡ e = same_element plan c.requires.well.layout f e is is_e (whole ∙ sym number) in
    let from : ℕ → ℕ → ℕ = λ v h. cond (list_any (λ t. eqb t v) (tasks_in plan c.args.region)) (place_of plan v) h in
    let home : c.home_in_region.result ≡ home_of plan c.args.region e = c.home_in_region.ensures ∙ ap (home_in_region plan c.args.region) at ∙ ap (λ (x : Element). home_of plan c.args.region x) same in
    c.source_in.ensures ∙ ap (λ (v : ℕ). from v c.home_in_region.result) c.version.ensures ∙ ap (from (slice_index c.args.self.now.list c.args.element)) home
