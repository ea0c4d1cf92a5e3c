-- The numbers so far are those of the accesses so far.
use Rattle.std.proofs.Common.{take}
use Rattle.dd_touch.specs.Touching.{AreOf}
use Rattle.dd_touch.proofs.touched.touched_in_turn.Given as goal

abbrev pub invariant-loop-access : goal.invariant-loop-access
invariant-loop-access l = AreOf l.plan (take l.access-index l.accesses) l.blocks.items
