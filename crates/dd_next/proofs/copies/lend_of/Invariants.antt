use Rattle.std.proofs.Common.{◌+◌, ◌-◌}
use Rattle.std.specs.Prelude.{map}
use Rattle.std.specs.List.{range_with_len}
use Rattle.dd_machine.specs.declared.event.Event.TheVariants.{Lend}
use Rattle.dd_machine.specs.Words.{spaces}
use Rattle.dd_next.specs.Candidates.{lends_of}
use Rattle.dd_next.proofs.LeftLemmas.{IsLeft}
use Rattle.dd_tables.specs.Tables.{state_of}
use Rattle.dd_next.proofs.copies.lend_of.Given as goal

abbrev pub invariant-loop-i : goal.invariant-loop-i
invariant-loop-i l = IsLeft l.plan (state_of l.plan l.tables) (map (λ s. Lend l.task l.block s) (range_with_len (l.i + 1) (spaces l.plan - l.i))) (lends_of l.plan l.task l.block)
