-- What is left to write is the end of the bytes, the rest of them was appended, and no fault was counted.
use Rattle.std.proofs.Common.{◌≡◌, length}
use Rattle.dd_causes.specs.Appended.{AppendsAllBut}
use Rattle.dd_io.proofs.writing.write_all.Given as goal

abbrev pub invariant-loop-rest : goal.invariant-loop-rest
invariant-loop-rest g l = record {
  appended : AppendsAllBut (g.K.Sink.taken l.initial.out) (g.K.Sink.taken l.out) l.rest l.bytes;
  kept : g.K.Sink.faults l.out ≡ g.K.Sink.faults l.initial.out;
}

abbrev pub decreases-loop-rest : goal.decreases-loop-rest
decreases-loop-rest g l = length l.rest
