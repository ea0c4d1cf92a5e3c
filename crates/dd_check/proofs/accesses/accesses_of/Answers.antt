use Rattle.std.proofs.Common.{◌≡◌, [], ◌∷◌, ◌++◌}
use Rattle.std.proofs.lemmas.List.Elements.{All-push}
use Rattle.dd_check.specs.Drafts.{above_of}
use Rattle.dd_check.specs.Rows.{IsAccess}
use Rattle.dd_check.specs.Seen.{IsSeen}
use Rattle.dd_check.proofs.SeenLemmas.{zip_more}
use Rattle.dd_check.proofs.accesses.accesses_of.Goals as goal
use Rattle.dd_check.proofs.accesses.accesses_of.Goals.{in-Some+in_ok-push, in_default}

pub loop-piece-preserved : goal.loop-piece-preserved
loop-piece-preserved c =
    elim c.match-access_of.branch [
      | in-Some+in_ok-push w ↦
          let more : c.match-access_of.accesses.items ≡ c.loop-piece.accesses.items ++ w.in-Some.access ∷ [] = rw w.accesses-is w.in_ok-push.ensures.items in
          record {
            accesses = rw more (zip_more (IsAccess (above_of c.args.draft.now)) _ _ _ c.piece-item.result w.in-Some.access c.loop-piece-test.true c.piece-item.is c.loop-piece.invariant.accesses w.in-Some.ensures.access);
            seen = rw more (All-push (IsSeen c.args.draft.now.plan) _ _ c.loop-piece.invariant.seen w.in-Some.ensures.seen);
          }
      | in_default w ↦ absurd (cc w.in_default.ensures.some)
    ]
