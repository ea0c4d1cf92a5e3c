use Rattle.std.proofs.Common.{◌≡◌, ◌-◌, eqb, leb, ltb, List, length, drop, take, sym, ap, ◌∙◌, subst, rules}
use Rattle.std.specs.List.{filter}
use Rattle.std.specs.List.Sorted.{IsNonDecreasingBy}
use Rattle.std.proofs.lemmas.List.{take_rest}
use Rattle.std.proofs.lemmas.List.Sorted.{IsPartitionPoint-from_clause, IsPartitionedBy-leb, IsPartitionedBy-ltb}
use Rattle.dd_blocks.specs.declared.task_row.TaskRow.{TaskRow}
use Rattle.dd_lists.proofs.PartitionLemmas.{rises_rest, run_is}
use Rattle.dd_plain.proofs.tasks.tasks_of.Goals as goal

pub returns : goal.returns
returns c =
    let tasks : List TaskRow = c.as_slice-tasks.result.now in
    let rest : List TaskRow = take (length tasks - c.partition_point-first.result) (drop c.partition_point-first.result tasks) in
    let rises : IsNonDecreasingBy (λ (t : TaskRow). t.region) tasks = subst (IsNonDecreasingBy (λ (t : TaskRow). t.region)) (sym c.as_slice-tasks.ensures) c.requires in
    let is : rest ≡ drop c.partition_point-first.result tasks = take_rest tasks c.partition_point-first.result in
    let first = IsPartitionPoint-from_clause (λ (t : TaskRow). ltb t.region c.args.region) tasks c.partition_point-first.result c.partition_point-first.ensures.partitioned
    (IsPartitionedBy-ltb (λ (t : TaskRow). t.region) tasks c.args.region rises) (λ a r q k. search rules) in
    let count = IsPartitionPoint-from_clause (λ (t : TaskRow). leb t.region c.args.region) rest c.partition_point-count.result c.partition_point-count.ensures.partitioned
    (IsPartitionedBy-leb (λ (t : TaskRow). t.region) rest c.args.region (rises_rest (λ (t : TaskRow). t.region) c.partition_point-first.result tasks rest is rises)) (λ a r q k. search rules) in
    run_is (λ (t : TaskRow). t.region) c.args.region c.partition_point-first.result c.partition_point-count.result tasks rest is first count c.partition_point-count.ensures.bound
    ∙ ap (filter (λ (t : TaskRow). eqb t.region c.args.region)) c.as_slice-tasks.ensures
