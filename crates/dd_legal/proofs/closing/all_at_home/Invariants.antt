use Rattle.std.proofs.Common.{◌≤◌, ℕ}
use Rattle.dd_legal.specs.Homes.{IsAtHome}
use Rattle.dd_machine.specs.Words.{IsOneOf, blocks, spaces}
use Rattle.dd_tables.specs.Tables.{state_of}
use Rattle.dd_legal.proofs.closing.all_at_home.Given as goal

abbrev pub invariant-loop-i : goal.invariant-loop-i
invariant-loop-i l = (s b : ℕ) → IsOneOf (spaces l.plan) s → IsOneOf (blocks l.plan) b → s ≤ l.i → IsAtHome l.plan (state_of l.plan l.tables) s b
