use Rattle.std.proofs.Common.{◌≡◌, ℕ, ◌+◌, ◌-◌, Bool, true, ◌&&◌, not, cond, eqb, slice_index, sym, ap, ◌∙◌, arith}
use Rattle.std.specs.List.{list_any}
use Rattle.std.proofs.lemmas.Bool.{ne_eqb}
use Rattle.dd_blocks.specs.declared.array_row.ArrayRow.{ArrayRow}
use Rattle.dd_blocks.specs.declared.block_row.BlockRow.{BlockRow}
use Rattle.dd_blocks.specs.Grids.{pos_of}
use Rattle.dd_blocks.specs.Numbered.{array_row, block_row}
use Rattle.dd_blocks.specs.PlanElements.{element_of, number_of}
use Rattle.dd_blocks.proofs.LayoutLemmas.{block_stands}
use Rattle.dd_meaning.specs.Moves.{place_of, source_of}
use Rattle.dd_meaning.specs.Versions.{tasks_in}
use Rattle.dd_history.specs.Currents.{version_of}
use Rattle.dd_history.proofs.PlacesLemmas.{home_of_place, place_within}
use Rattle.dd_history.proofs.sought.Sought.is_lacking.Goals as goal

pub overflow_sub-self : goal.overflow_sub-self
overflow_sub-self c =
    let plan = c.args.self.now.plan.now in
    let block = c.args.self.now.block in
    let stand = block_stands plan c.requires.asked.well.layout block c.requires.asked.block in
    let row_is : c.array-row.result.now ≡ array_row plan (block_row plan block).array = c.array-row.ensures ∙ ap (λ (b : BlockRow). array_row plan b.array) c.block.ensures in
    rw row_is stand.low

pub pos_of-requires-clause-block : goal.pos_of-requires-clause-block
pos_of-requires-clause-block c =
    let plan = c.args.self.now.plan.now in
    let block = c.args.self.now.block in
    let stand = block_stands plan c.requires.asked.well.layout block c.requires.asked.block in
    let row_is : c.array-row.result.now ≡ array_row plan (block_row plan block).array = c.array-row.ensures ∙ ap (λ (b : BlockRow). array_row plan b.array) c.block.ensures in
    rw (c.from-within.ensures, row_is) stand.high

pub pos_of-requires-clause-place : goal.pos_of-requires-clause-place
pos_of-requires-clause-place c =
    let plan = c.args.self.now.plan.now in
    let block = c.args.self.now.block in
    let stand = block_stands plan c.requires.asked.well.layout block c.requires.asked.block in
    let row_is : c.array-row.result.now ≡ array_row plan (block_row plan block).array = c.array-row.ensures ∙ ap (λ (b : BlockRow). array_row plan b.array) c.block.ensures in
    rw (c.from-within.ensures, row_is) (rw stand.size at c.requires.place)

pub get-version-requires : goal.get-version-requires
get-version-requires c =
    let plan = c.args.self.now.plan.now in
    let block = c.args.self.now.block in
    let stand = block_stands plan c.requires.asked.well.layout block c.requires.asked.block in
    let row_is : c.array-row.result.now ≡ array_row plan (block_row plan block).array = c.array-row.ensures ∙ ap (λ (b : BlockRow). array_row plan b.array) c.block.ensures in
    let row = c.array-row.result.now in
    let place = c.args.place in
    let number : row.first_element + c.pos_of.result ≡ number_of plan (element_of plan block place) =
    ap (λ (p : ℕ). row.first_element + p) c.pos_of.ensures.value
    ∙ ap (λ (w : ℕ). row.first_element + pos_of row.grid w place) c.from-within.ensures
    ∙ ap (λ (r : ArrayRow). r.first_element + pos_of r.grid (block - r.first_block) place) row_is in
    omega (arith, number, place_within plan block place c.requires.asked.well c.requires.asked.block c.requires.place, c.requires.asked.versions.count)

pub returns-then-get-version : goal.returns-then-get-version
returns-then-get-version c =
    let plan = c.args.self.now.plan.now in
    let block = c.args.self.now.block in
    let stand = block_stands plan c.requires.asked.well.layout block c.requires.asked.block in
    let row_is : c.array-row.result.now ≡ array_row plan (block_row plan block).array = c.array-row.ensures ∙ ap (λ (b : BlockRow). array_row plan b.array) c.block.ensures in
    let row = c.array-row.result.now in
    let place = c.args.place in
    let number : row.first_element + c.pos_of.result ≡ number_of plan (element_of plan block place) =
    ap (λ (p : ℕ). row.first_element + p) c.pos_of.ensures.value
    ∙ ap (λ (w : ℕ). row.first_element + pos_of row.grid w place) c.from-within.ensures
    ∙ ap (λ (r : ArrayRow). r.first_element + pos_of r.grid (block - r.first_block) place) row_is in
    let region = c.args.self.now.region in
    let versions = c.args.self.now.versions.now.list in
    let e = element_of plan block place in
    let version_is : c.get-version.result ≡ version_of plan versions e = c.get-version.ensures ∙ ap (slice_index versions) number in
    let differs : not (eqb (slice_index c.args.self.now.held.now.list place) (version_of plan versions e)) ≡ true =
    ap not (ne_eqb (slice_index c.args.self.now.held.now.list place) (version_of plan versions e) (λ same. c.if-get-version.true (c.get.ensures ∙ same ∙ sym version_is))) in
    let at : ℕ → ℕ → ℕ = λ v h. cond (list_any (λ t. eqb t v) (tasks_in plan region)) (place_of plan v) h in
    let home = c.requires.asked.home ∙ sym (home_of_place plan region block place c.requires.asked.well c.requires.asked.block c.requires.place) in
    let source : c.source_in.result ≡ source_of plan region e (version_of plan versions e) =
    c.source_in.ensures ∙ ap (λ (v : ℕ). at v c.args.self.now.home) version_is ∙ ap (at (version_of plan versions e)) home in
    ap (λ (s : ℕ). eqb s c.args.self.now.from) source ∙ sym (ap (λ (b : Bool). b && eqb (source_of plan region e (version_of plan versions e)) c.args.self.now.from) differs)
