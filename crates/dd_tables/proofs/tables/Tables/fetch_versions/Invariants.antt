use Rattle.std.proofs.Common.{◌≡◌, length, slice_index}
use Rattle.dd_machine.specs.Words.{element, size}
use Rattle.dd_tables.specs.Fetches.{is_fetched}
use Rattle.dd_tables.specs.Tables.{state_of}
use Rattle.dd_tables.proofs.VersionsLemmas.{so_far}
use Rattle.dd_tables.proofs.tables.Tables.fetch_versions.Given as goal

abbrev pub invariant-loop-i : goal.invariant-loop-i
invariant-loop-i l = record {
  list : l.versions.list ≡ so_far (λ i. is_fetched l.plan (state_of l.plan l.self) l.task l.block l.from i (slice_index l.fn.versions.list i)) (λ i. (state_of l.plan l.self).current (element l.plan l.block i)) l.i l.fn.versions.list;
  len : length l.versions.list ≡ size l.plan l.block;
}
