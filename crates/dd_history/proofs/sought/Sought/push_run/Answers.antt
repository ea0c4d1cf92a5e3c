use Rattle.std.proofs.Common.{ℕ, ◌≤◌, ◌++◌, List, append_assoc, sym, ap, ◌∙◌, arith}
use Rattle.dd_history.specs.Currents.{is_lacking}
use Rattle.dd_history.proofs.PlacesLemmas.{filter_failed, filter_passed}
use Rattle.dd_history.proofs.sought.Sought.push_run.Goals as goal
use Rattle.dd_history.proofs.sought.Sought.push_run.Goals.{then-is_lacking+in_ok-push, else-is_lacking}

pub loop-place-preserved : goal.loop-place-preserved
loop-place-preserved c =
    let self = c.args.self.now in
    let p = is_lacking self.plan.now self.region self.block self.versions.now.list self.held.now.list self.from in
    let place = c.loop-place.place in
    let le : c.args.first ≤ place = omega arith in
    let old = c.args.places.now.items in
    elim c.if-is_lacking.branch [
      | then-is_lacking+in_ok-push w ↦
          let good = sym c.is_lacking.ensures ∙ w.if-is_lacking.true in
          rw (w.places-is, w.in_ok-push.ensures.items, c.loop-place.invariant, append_assoc) (ap (λ (l : List ℕ). old ++ l) (sym (filter_passed p c.args.first place le good)))
      | else-is_lacking w ↦
          let bad = sym c.is_lacking.ensures ∙ w.if-is_lacking.false in
          rw (w.places-is, c.loop-place.invariant) (ap (λ (l : List ℕ). old ++ l) (sym (filter_failed p c.args.first place le bad)))
    ]
