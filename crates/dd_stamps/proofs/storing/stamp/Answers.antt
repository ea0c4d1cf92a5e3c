use Rattle.std.proofs.Common.{◌≡◌, ◌≢◌, ℕ, ◌+◌, ◌-◌, ap, ◌∙◌, subst, arith, ◌&&◌}
use Rattle.std.specs.Prelude.{nat_le, nat_lt, if◌then◌else◌, slice_index}
use Rattle.dd_spans.specs.PlaceMap.{PlaceMap}
use Rattle.dd_stamps.specs.Stamps.{Spends, pending}
use Rattle.dd_stamps.proofs.StampsLemmas.{set_less, some_pending}
use Rattle.dd_stamps.proofs.storing.stamp.Goals as goal

pub set_run-requires-clause-spare : goal.set_run-requires-clause-spare
set_run-requires-clause-spare g c =
    let other : slice_index c.loop-place.versions.list c.loop-place.place ≢ c.args.task = λ e. c.if-get-task.true (c.get.ensures ∙ e) in
    let long = ap (λ (m : PlaceMap). m.list) c.loop-place.invariant.same in
    let spare = ap (λ (m : PlaceMap). m.spare) c.loop-place.invariant.same in
    let same = ap (pending g.written c.args.task) long in
    let some = some_pending g.written c.args.task c.loop-place.versions.list c.loop-place.place (rw long (omega (arith, c.requires.1.0))) (c.requires.1.1.0 c.loop-place.place (omega arith) (omega arith)) other in
    omega (arith, some, spare, same, c.requires.1.1.1)

pub returns-then-get-task-clause-spare : goal.returns-then-get-task-clause-spare
returns-then-get-task-clause-spare g c =
    let other : slice_index c.loop-place.versions.list c.loop-place.place ≢ c.args.task = λ e. c.if-get-task.true (c.get.ensures ∙ e) in
    let long = ap (λ (m : PlaceMap). m.list) c.loop-place.invariant.same in
    let ends : c.args.first + (c.args.end - c.args.first) ≡ c.args.end = omega (arith, c.requires.0) in
    let set = λ (p : ℕ). c.set_run.ensures.places p ∙ ap (λ (n : ℕ). if nat_le c.args.first p && nat_lt p n then c.args.task else slice_index c.loop-place.versions.list p) ends in
    let less = set_less g.written c.args.task c.args.first c.args.end c.loop-place.versions.list c.set_run.new.self.list c.loop-place.place set c.set_run.ensures.len (omega arith) (omega arith) (rw long (omega (arith, c.requires.1.0)))
    (c.requires.1.1.0 c.loop-place.place (omega arith) (omega arith)) other in
    let spends : Spends g.written c.args.task c.loop-place.versions c.set_run.new.self = omega (arith, less, c.set_run.ensures.spare) in
    subst (λ (m : PlaceMap). Spends g.written c.args.task m c.set_run.new.self) c.loop-place.invariant.same spends
