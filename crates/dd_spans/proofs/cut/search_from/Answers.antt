use Rattle.std.proofs.Common.{◌∙◌, ltb, rules}
use Rattle.std.proofs.lemmas.List.{take_rest}
use Rattle.std.proofs.lemmas.List.Sorted.{IsPartitionedBy-ltb, IsPartitionPoint-from_clause}
use Rattle.dd_spans.proofs.CutLemmas.{rises_weakly, searched_from}
use Rattle.dd_spans.proofs.cut.search_from.Goals as goal

pub returns : goal.returns
returns c =
    let ns = c.args.numbers.now in
    let cut = c.partition_point-start.result in
    let found = IsPartitionPoint-from_clause (λ m. ltb m c.args.n) ns cut c.partition_point-start.ensures.partitioned (IsPartitionedBy-ltb (λ m. m) ns c.args.n (rises_weakly ns c.requires)) (λ a r q k. search rules) in
    take_rest ns cut ∙ searched_from ns c.args.n cut c.partition_point-start.ensures.bound found
