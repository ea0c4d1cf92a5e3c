use Rattle.std.proofs.Common.{◌≡◌, ◌∙◌, [], sym, arith, rules}
use Rattle.std.proofs.lemmas.Bool.{false≢true}
use Rattle.std.proofs.lemmas.List.{nil_from_length}
use Rattle.dd_spans.proofs.NumbersLemmas.{from_rises}
use Rattle.dd_spans.proofs.RunLemmas.{left_of_run, next_run_of, none_left, some_left}
use Rattle.dd_spans.proofs.runs.Runs.next_run.Goals as goal

pub returns-in_err-first-clause-none : goal.returns-in_err-first-clause-none
returns-in_err-first-clause-none c =
    let none : c.left_from-left.result.now ≡ [] = nil_from_length c.left_from-left.result.now (omega (arith, c.in_err-first.ensures.item.3)) in
    ((λ _. none_left c.args.self.now.list c.args.from (sym c.left_from-left.ensures ∙ none)), (λ _. search rules))

pub run_len-requires-clause-rises : goal.run_len-requires-clause-rises
run_len-requires-clause-rises c = rw c.left_from-left.ensures (from_rises c.args.from c.args.self.now.list c.args.self.now.rises)

pub returns : goal.returns
returns c =
    let numbers = c.args.self.now in
    let first = c.in_ok-first.field-0.now in
    let len = c.run_len.ensures in
    let next = next_run_of numbers.list c.left_from-left.result.now c.args.from first c.run_len.result numbers.rises numbers.below c.left_from-left.ensures (c.in_ok-first.ensures.item.3.1 0)
    (record { some = len.some; within = len.within; run = len.run; ends = len.ends }) in
    record {
      none = ((λ some. absurd (false≢true (sym some))), (λ all. absurd (some_left numbers.list c.args.from first c.run_len.result next all)));
      run = next;
      left = left_of_run numbers.list c.args.from first c.run_len.result numbers.rises next;
    }
