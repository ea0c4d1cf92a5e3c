-- The bytes so far are those that the source gave, there is room for the rest of the limit, and no fault was counted.
use Rattle.std.proofs.Common.{◌≡◌, ◌-◌, ◌≤◌, vec_len}
use Rattle.std.specs.Io.KnownBytes.{Consumes}
use Rattle.dd_io.proofs.reading.read_all.Given as goal

abbrev pub invariant-loop-bytes : goal.invariant-loop-bytes
invariant-loop-bytes g l = record {
  taken : Consumes (g.S.Source.left l.initial.src) (g.S.Source.left l.src) l.bytes.items;
  within : vec_len l.bytes ≤ l.limit;
  kept : g.S.Source.faults l.src ≡ g.S.Source.faults l.initial.src;
}

abbrev pub decreases-loop-bytes : goal.decreases-loop-bytes
decreases-loop-bytes g l = l.limit - vec_len l.bytes
