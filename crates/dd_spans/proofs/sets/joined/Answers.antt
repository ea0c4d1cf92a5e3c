use Rattle.std.proofs.Common.{◌+◌, ◌∙◌, ◌++◌, get_or, refl, arith}
use Rattle.dd_spans.specs.Numbers.{numbers_from, rising_numbers}
use Rattle.dd_spans.proofs.NumbersLemmas.{from_rises}
use Rattle.dd_spans.proofs.MergeLemmas.{union_all, union_next}
use Rattle.dd_spans.proofs.sets.joined.Goals as goal

pub cut_at-requires-in-loop-n : goal.cut_at-requires-in-loop-n
cut_at-requires-in-loop-n c =
    rw c.cut_at.ensures.from (from_rises (get_or c.args.ours.now c.loop-n.n-index 0) c.loop-n.left.now c.loop-n.invariant.0)

pub loop-n-preserved : goal.loop-n-preserved
loop-n-preserved c =
    let ours = c.args.ours.now in
    let n = get_or ours c.loop-n.n-index 0 in
    let left = c.loop-n.left.now in
    rw (c.in_ok-push.ensures.items, c.in_ok-extend_from_slice.ensures.items, c.cut_at.ensures.below, c.cut_at-in-loop-n.ensures.from, c.cut_at.ensures.from) (
      from_rises (n + 1) (numbers_from n left) (from_rises n left c.loop-n.invariant.0),
      union_next left c.loop-n.numbers.items ours (rising_numbers (ours ++ c.args.theirs.now)) c.loop-n.n-index n c.requires.ours c.loop-n.invariant.0 (omega arith) refl c.loop-n.invariant.1,
    )

pub returns : goal.returns
returns c =
    let ours = c.args.ours.now in
    c.in_ok-extend_from_slice-2.ensures.items
    ∙ union_all c.loop-n.left.now c.loop-n.numbers.items ours (rising_numbers (ours ++ c.args.theirs.now)) c.loop-n.n-index c.loop-n.invariant.0 (omega arith) c.loop-n.invariant.1
