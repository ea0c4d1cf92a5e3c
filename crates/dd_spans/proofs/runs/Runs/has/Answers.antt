use Rattle.std.proofs.Common.{◌≡◌, ◌∙◌, ap}
use Rattle.dd_spans.specs.SortedNumbers.{SortedNumbers}
use Rattle.dd_spans.proofs.CutLemmas.{found}
use Rattle.dd_spans.proofs.runs.Runs.has.Goals as goal

pub returns : goal.returns
returns c =
    let e : c.deref.result.now ≡ c.args.self.now.list = c.deref.ensures.value ∙ ap (λ (s : SortedNumbers). s.list) c.self.view_is in
    rw c.is_ok.ensures.value (found c.args.self.now.list c.args.n c.binary_search.result c.args.self.now.rises (rw e at c.binary_search.ensures.position))
