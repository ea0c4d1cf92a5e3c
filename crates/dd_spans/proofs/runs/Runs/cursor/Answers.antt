use Rattle.std.proofs.Common.{◌∙◌, ap}
use Rattle.dd_spans.specs.SortedNumbers.{SortedNumbers, same_sorted}
use Rattle.dd_spans.proofs.runs.Runs.cursor.Goals as goal

pub returns : goal.returns
returns c = same_sorted c.new.result c.args.self.now (c.new.ensures ∙ c.deref.ensures.value ∙ ap (λ (s : SortedNumbers). s.list) c.self.view_is)
