use Rattle.std.proofs.Common.{◌++◌, [], ◌∷◌, refl}
use Rattle.dd_alias.proofs.AnyLemmas.{no_access}
use Rattle.dd_alias.proofs.OwnLemmas.{added_back, added_front, added_more, added_none, added_same}
use Rattle.dd_alias.proofs.extents.add_extents.Goals as goal
use Rattle.dd_alias.proofs.extents.add_extents.Goals.{in-Some+in_ok-push, in_default}

pub loop-access-init : goal.loop-access-init
loop-access-init c = added_none c.args.number c.args.accesses.now c.args.extents.now.items

pub loop-access-preserved : goal.loop-access-preserved
loop-access-preserved c =
    let i = c.loop-access.access-index in
    let old = c.loop-access.extents.items in
    elim c.match-of.branch [
      | in-Some+in_ok-push w ↦
          rw (w.extents-is, w.in_ok-push.ensures.items) (added_more c.args.number c.args.accesses.now i no_access c.args.extents.now.items old (old ++ w.in-Some.extent ∷ []) w.in-Some.extent c.loop-access-test.true w.in-Some.ensures.0 w.in-Some.ensures.1 refl c.loop-access.invariant)
      | in_default w ↦
          rw w.extents-is (added_same c.args.number c.args.accesses.now i no_access c.args.extents.now.items old c.loop-access-test.true w.in_default.ensures c.loop-access.invariant)
    ]

pub returns-clause-before : goal.returns-clause-before
returns-clause-before c = added_front c.args.number c.args.accesses.now c.loop-access.access-index c.args.extents.now.items c.loop-access.extents.items c.loop-access.invariant

pub returns-clause-added : goal.returns-clause-added
returns-clause-added c = added_back c.args.number c.args.accesses.now c.loop-access.access-index c.args.extents.now.items c.loop-access.extents.items c.loop-access-test.false c.loop-access.invariant
