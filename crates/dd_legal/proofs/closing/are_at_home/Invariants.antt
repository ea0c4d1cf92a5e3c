use Rattle.std.proofs.Common.{◌≤◌, ℕ}
use Rattle.dd_legal.specs.Homes.{IsAtHome}
use Rattle.dd_machine.specs.Words.{IsOneOf, blocks}
use Rattle.dd_tables.specs.Tables.{state_of}
use Rattle.dd_legal.proofs.closing.are_at_home.Given as goal

abbrev pub invariant-loop-i : goal.invariant-loop-i
invariant-loop-i l = (b : ℕ) → IsOneOf (blocks l.plan) b → b ≤ l.i → IsAtHome l.plan (state_of l.plan l.tables) l.space b
