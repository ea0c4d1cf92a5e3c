use Rattle.std.proofs.Common.{◌≡◌, ◌<◌, ◌-◌, length, map, ℕ, arith, ◌∙◌, ap, rules}
use Rattle.std.specs.Int.{w64, cast_unsigned}
use Rattle.std.specs.Int.RustNames.{FitsSigned}
use Rattle.std.proofs.lemmas.Int.{to_z-of_z}
use Rattle.dd_views.specs.Positions.{position_in}
use Rattle.std.specs.List.{range_with_len}
use Rattle.dd_meaning.specs.Steps.{put_at}
use Rattle.dd_plain.proofs.WalkLemmas.{first_position, next_position, store_next}
use Rattle.dd_plain.proofs.storing.store_steps.Goals as goal

pub offset_bounds-values-at : goal.offset_bounds-values-at
offset_bounds-values-at c =
    let some : c.loop-value.value-index < c.args.column.count = omega (arith, c.loop-value-test.true, c.requires.long) in
    let here = c.loop-value.invariant.here some in
    let within : c.loop-value.at < length c.args.values.now = rw here (c.requires.within.inside c.loop-value.value-index some) in
    search rules

pub bounds-values-at : goal.bounds-values-at
bounds-values-at c =
    let some : c.loop-value.value-index < c.args.column.count = omega (arith, c.loop-value-test.true, c.requires.long) in
    let here = c.loop-value.invariant.here some in
    rw here (omega (arith, c.requires.within.inside c.loop-value.value-index some, c.loop-value.auto.values))

pub loop-value-init : goal.loop-value-init
loop-value-init c = record { left = let none : c.args.column.count - 0 ≡ c.args.column.count = omega arith in ap (λ (n : ℕ). put_at (map (position_in c.args.column) (range_with_len 0 n)) c.args.from.now c.args.values.now) none; here = λ some. first_position c.args.column }

pub loop-value-preserved : goal.loop-value-preserved
loop-value-preserved c =
    let fits : FitsSigned w64 c.args.column.step = search rules in
    let step = c.cast_unsigned-step.ensures ∙ ap (cast_unsigned w64) (to_z-of_z w64 c.args.column.step fits) in
    let here = c.loop-value.invariant.here (omega (arith, c.loop-value-test.true, c.requires.long)) in
    record {
      left = store_next (position_in c.args.column) c.args.from.now c.loop-value.values c.loop-value.value-index c.args.column.count c.loop-value.at _ (omega (arith, c.loop-value-test.true, c.requires.long)) c.requires.long here (to_z-of_z w64 _ (search rules)) ∙ c.loop-value.invariant.left;
      here = λ more. rw step (next_position _ c.args.column c.loop-value.value-index c.loop-value.at c.requires.within fits here more);
    }

pub returns : goal.returns
returns c =
    let none : c.args.column.count - c.loop-value.value-index ≡ 0 = omega (arith, c.loop-value-test.false, c.requires.long) in
    let left = rw none at c.loop-value.invariant.left in
    left
