-- What is left to be read is within the input, and gets shorter.
use Rattle.std.proofs.Common.{◌≤◌, length}
use Rattle.replay.proofs.lines.parts.Given as goal

abbrev pub invariant-loop-rest : goal.invariant-loop-rest
invariant-loop-rest l = length l.rest ≤ length l.input

abbrev pub decreases-loop-rest : goal.decreases-loop-rest
decreases-loop-rest l = length l.rest
