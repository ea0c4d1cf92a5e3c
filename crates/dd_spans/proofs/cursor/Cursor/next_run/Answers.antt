use Rattle.std.proofs.Common.{◌≡◌, ◌∙◌, ap, sym}
use Rattle.dd_spans.specs.SortedNumbers.{SortedNumbers}
use Rattle.dd_spans.proofs.NumbersLemmas.{from_zero}
use Rattle.dd_spans.proofs.RunLemmas.{next_run_of, rest_of_run}
use Rattle.dd_spans.proofs.cursor.Cursor.next_run.Goals as goal

pub returns-clause-run : goal.returns-clause-run
returns-clause-run c =
    let same : c.self.inside.left.now ≡ c.args.self.now.list = ap (λ (s : SortedNumbers). s.list) c.self.view_is in
    let len = c.run_len-count.ensures in
    next_run_of c.args.self.now.list c.self.inside.left.now 0 _ _ c.args.self.now.rises c.args.self.now.below (same ∙ sym (from_zero c.args.self.now.list))
    (c.in_ok-first.ensures.item.3.1 0) (record { some = len.some; within = len.within; run = len.run; ends = len.ends })

pub returns-clause-left : goal.returns-clause-left
returns-clause-left c =
    let same : c.self.inside.left.now ≡ c.args.self.now.list = ap (λ (s : SortedNumbers). s.list) c.self.view_is in
    let len = c.run_len-count.ensures in
    rest_of_run c.args.self.now.list c.self.inside.left.now _ _ c.args.self.now.rises same
    (next_run_of c.args.self.now.list c.self.inside.left.now 0 _ _ c.args.self.now.rises c.args.self.now.below (same ∙ sym (from_zero c.args.self.now.list))
    (c.in_ok-first.ensures.item.3.1 0) (record { some = len.some; within = len.within; run = len.run; ends = len.ends }))
