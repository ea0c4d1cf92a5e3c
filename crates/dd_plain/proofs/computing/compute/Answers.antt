use Rattle.std.proofs.Common.{length, ap, rules}
use Rattle.dd_plain.proofs.FewLemmas.{few_accesses}
use Rattle.dd_plain.proofs.computing.compute.Goals.{in_default-via-then-as_slice-lt1, in_default-via-else-as_slice-lt1+else-this-lt2+else-this-lt3+else-this-lt4}
use Rattle.dd_plain.proofs.computing.compute.Goals as goal

pub unreachable-requires : goal.unreachable-requires
unreachable-requires c =
    let few = few_accesses c.args.task.now c.requires.fit in
    let long = ap length c.as_slice.ensures in
    elim c.in_default.branch [ in_default-via-then-as_slice-lt1 w ↦ search (rules, few, long) | in_default-via-else-as_slice-lt1+else-this-lt2+else-this-lt3+else-this-lt4 w ↦ search (rules, few, long) ]
