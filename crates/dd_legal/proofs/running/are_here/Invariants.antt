use Rattle.std.proofs.Common.{◌≡◌, drop}
use Rattle.std.specs.List.{list_all}
use Rattle.dd_copies.specs.CopyTables.{copies_of}
use Rattle.dd_machine.specs.Tests.{is_here, is_in_state}
use Rattle.dd_legal.proofs.running.are_here.Given as goal

abbrev pub invariant-loop-block : goal.invariant-loop-block
invariant-loop-block l = list_all (λ b. is_in_state is_here (copies_of l.tables.copies l.space b)) (drop l.block-index l.blocks) ≡ list_all (λ b. is_in_state is_here (copies_of l.tables.copies l.space b)) l.blocks
