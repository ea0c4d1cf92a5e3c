use Rattle.std.proofs.Common.{◌<◌, length, ◌∙◌, ap, sym, rules}
use Rattle.std.specs.Int.{w64, cast_unsigned}
use Rattle.std.specs.Int.RustNames.{FitsSigned}
use Rattle.std.proofs.lemmas.Int.{to_z-of_z}
use Rattle.std.proofs.lemmas.List.{append-nil}
use Rattle.dd_views.specs.Positions.{position_in}
use Rattle.dd_plain.proofs.WalkLemmas.{first_position, gather_next, next_position}
use Rattle.dd_plain.proofs.gathering.gather_steps.Goals as goal

pub offset_bounds-values-at : goal.offset_bounds-values-at
offset_bounds-values-at c =
    let here = c.loop-i.invariant.here c.loop-i-test.true in
    let within : c.loop-i.at < length c.args.values.now = rw here (c.requires.inside c.loop-i._i c.loop-i-test.true) in
    search rules

pub bounds-values-at : goal.bounds-values-at
bounds-values-at c =
    let here = c.loop-i.invariant.here c.loop-i-test.true in
    rw here (c.requires.inside c.loop-i._i c.loop-i-test.true)

pub loop-i-init : goal.loop-i-init
loop-i-init c = record { values = sym (append-nil c.args.buf.now.items); here = λ some. first_position c.args.column }

pub loop-i-preserved : goal.loop-i-preserved
loop-i-preserved c =
    let fits : FitsSigned w64 c.args.column.step = search rules in
    let step = c.cast_unsigned-step.ensures ∙ ap (cast_unsigned w64) (to_z-of_z w64 c.args.column.step fits) in
    let here = c.loop-i.invariant.here c.loop-i-test.true in
    record {
      values = c.in_ok-push.ensures.items ∙ gather_next (position_in c.args.column) c.args.values.now _ _ c.loop-i._i c.loop-i.at _ c.loop-i.invariant.values here (to_z-of_z w64 _ (search rules));
      here = λ more. rw step (next_position _ c.args.column c.loop-i._i c.loop-i.at c.requires fits here more);
    }
