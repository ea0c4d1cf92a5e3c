use Rattle.std.proofs.Common.{ltb, List, sym, subst, rules}
use Rattle.std.specs.List.Sorted.{IsNonDecreasingBy}
use Rattle.std.proofs.lemmas.List.Sorted.{IsPartitionPoint-from_clause, IsPartitionedBy-ltb}
use Rattle.dd_blocks.specs.declared.task_row.TaskRow.{TaskRow}
use Rattle.dd_tables.proofs.RegionsLemmas.{IsCut, before_cut, behind_cut}
use Rattle.dd_table.proofs.region.tasks_before.Goals as goal

pub returns-clause-before : goal.returns-clause-before
returns-clause-before c =
    let rows : List TaskRow = c.as_slice.result.now in
    let rises : IsNonDecreasingBy (λ (t : TaskRow). t.region) rows = subst (IsNonDecreasingBy (λ (t : TaskRow). t.region)) (sym c.as_slice.ensures) c.requires.regions.tasks in
    let cut : IsCut c.args.region rows c.partition_point.result = IsPartitionPoint-from_clause (λ (t : TaskRow). ltb t.region c.args.region) rows c.partition_point.result c.partition_point.ensures.partitioned
    (IsPartitionedBy-ltb (λ (t : TaskRow). t.region) rows c.args.region rises) (λ a r q k. search rules) in
    before_cut c.args.plan.now c.args.region c.partition_point.result rows c.as_slice.ensures cut

pub returns-clause-behind : goal.returns-clause-behind
returns-clause-behind c =
    let rows : List TaskRow = c.as_slice.result.now in
    let rises : IsNonDecreasingBy (λ (t : TaskRow). t.region) rows = subst (IsNonDecreasingBy (λ (t : TaskRow). t.region)) (sym c.as_slice.ensures) c.requires.regions.tasks in
    let cut : IsCut c.args.region rows c.partition_point.result = IsPartitionPoint-from_clause (λ (t : TaskRow). ltb t.region c.args.region) rows c.partition_point.result c.partition_point.ensures.partitioned
    (IsPartitionedBy-ltb (λ (t : TaskRow). t.region) rows c.args.region rises) (λ a r q k. search rules) in
    behind_cut c.args.plan.now c.args.region c.partition_point.result rows c.as_slice.ensures cut
