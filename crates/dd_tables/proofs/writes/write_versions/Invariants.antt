use Rattle.std.proofs.Common.{◌≡◌, length}
use Rattle.dd_machine.specs.Words.{element, size, writes}
use Rattle.dd_tables.proofs.VersionsLemmas.{so_far}
use Rattle.dd_tables.proofs.writes.write_versions.Given as goal

abbrev pub invariant-loop-i : goal.invariant-loop-i
invariant-loop-i l = record {
  list : l.versions.list ≡ so_far (λ i. writes l.plan l.task (element l.plan l.block i)) (λ i. l.task) l.i l.fn.versions.list;
  len : length l.versions.list ≡ size l.plan l.block;
}
