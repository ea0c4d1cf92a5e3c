use Rattle.std.proofs.Common.{get_or, refl, arith}
use Rattle.std.specs.List.{filter}
use Rattle.dd_spans.specs.Kept.{is_kept}
use Rattle.dd_spans.proofs.NumbersLemmas.{from_least, from_rises}
use Rattle.dd_spans.proofs.MergeLemmas.{kept_all, kept_if, kept_no, kept_unless, kept_yes}
use Rattle.dd_spans.proofs.sets.kept.Goals as goal
use Rattle.dd_spans.proofs.sets.kept.Goals.{then-begins_with-shared+in_ok-push, else-begins_with-shared}

pub begins_with-requires-clause-rises : goal.begins_with-requires-clause-rises
begins_with-requires-clause-rises c =
    rw c.cut_at.ensures.from (from_rises (get_or c.args.ours.now c.loop-n.n-index 0) c.loop-n.left.now c.loop-n.invariant.0)

pub begins_with-requires-clause-least : goal.begins_with-requires-clause-least
begins_with-requires-clause-least c =
    rw c.cut_at.ensures.from (from_least (get_or c.args.ours.now c.loop-n.n-index 0) c.loop-n.left.now)

pub loop-n-preserved : goal.loop-n-preserved
loop-n-preserved c =
    let ours = c.args.ours.now in
    let n = get_or ours c.loop-n.n-index 0 in
    let left = c.loop-n.left.now in
    let all = filter (is_kept c.args.shared c.args.theirs.now) ours in
    let here = rw c.cut_at.ensures.from at c.begins_with.ensures in (
      rw c.cut_at.ensures.from (from_rises n left c.loop-n.invariant.0),
      elim c.if-begins_with-shared.branch [
        | then-begins_with-shared+in_ok-push w ↦
            rw (w.numbers-is, w.in_ok-push.ensures.items, c.cut_at.ensures.from) (kept_yes c.args.shared left c.loop-n.numbers.items ours all c.loop-n.n-index n c.requires.ours (omega arith) refl c.loop-n.invariant.1 (kept_if c.args.shared _ n c.begins_with.result here w.if-begins_with-shared.true))
        | else-begins_with-shared w ↦
            rw (w.numbers-is, c.cut_at.ensures.from) (kept_no c.args.shared left c.loop-n.numbers.items ours all c.loop-n.n-index n c.requires.ours (omega arith) refl c.loop-n.invariant.1 (kept_unless c.args.shared _ n c.begins_with.result here w.if-begins_with-shared.false))
      ],
    )

pub returns : goal.returns
returns c =
    let ours = c.args.ours.now in
    kept_all (is_kept c.args.shared c.loop-n.left.now) c.loop-n.numbers.items ours (filter (is_kept c.args.shared c.args.theirs.now) ours) c.loop-n.n-index (omega arith) c.loop-n.invariant.1
