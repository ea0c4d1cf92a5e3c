use Rattle.std.proofs.Common.{◌++◌, [], ◌∷◌, refl, arith}
use Rattle.dd_alias.specs.Clashes.{Clash}
use Rattle.dd_alias.specs.Waits.{IsBeforeOne}
use Rattle.dd_alias.proofs.WaitLemmas.{found_all, found_more, pushed, unchanged}
use Rattle.dd_alias.proofs.index.add_waits_in.Goals as goal
use Rattle.dd_alias.proofs.index.add_waits_in.Goals.{then-clashes+in_ok-push, else-clashes}

pub loop-extent-preserved-then-extent-number : goal.loop-extent-preserved-then-extent-number
loop-extent-preserved-then-extent-number c =
    let e = c.extent-item.result in
    let P = IsBeforeOne c.args.own.now c.args.number in
    let found = c.loop-extent.found.items in
    found_more P c.args.piece.now c.loop-extent.extent-index c.args.found.now.items found found e c.loop-extent-test.true c.extent-item.is c.loop-extent.invariant
    (unchanged P e found (λ u here. absurd (omega (arith, here.0, here.1, c.if-extent-number.true))))

pub loop-extent-preserved : goal.loop-extent-preserved
loop-extent-preserved c =
    let e = c.extent-item.result in
    let P = IsBeforeOne c.args.own.now c.args.number in
    let found = c.loop-extent.found.items in
    elim c.if-clashes.branch [
      | then-clashes+in_ok-push w ↦
          rw (w.found-is, w.in_ok-push.ensures.items) (found_more P c.args.piece.now c.loop-extent.extent-index c.args.found.now.items found (found ++ e.task ∷ []) e c.loop-extent-test.true c.extent-item.is c.loop-extent.invariant
          (pushed (Clash e.access.now c.args.own.now.access.now) c.args.number e found (found ++ e.task ∷ []) refl c.if-extent-number.false (w.if-clashes.ensures.0 refl)))
      | else-clashes w ↦
          rw w.found-is (found_more P c.args.piece.now c.loop-extent.extent-index c.args.found.now.items found found e c.loop-extent-test.true c.extent-item.is c.loop-extent.invariant
          (unchanged P e found (λ u here. let yes = w.if-clashes.ensures.1 here.2 in absurd (cc))))
    ]

pub returns : goal.returns
returns c =
    found_all (IsBeforeOne c.args.own.now c.args.number) c.args.piece.now c.loop-extent.extent-index c.args.found.now.items c.loop-extent.found.items c.loop-extent-test.false c.loop-extent.invariant
