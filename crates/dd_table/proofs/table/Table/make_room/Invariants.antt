use Rattle.dd_machine.specs.Bytes.{load}
use Rattle.dd_table.specs.Tables.{state_now}
use Rattle.dd_table.proofs.RoomLemmas.{HasSpilled}
use Rattle.dd_table.proofs.table.Table.make_room.Given as goal

abbrev pub invariant-loop-self : goal.invariant-loop-self
invariant-loop-self g l = HasSpilled l.initial.self l.self l.space

abbrev pub decreases-loop-self : goal.decreases-loop-self
decreases-loop-self g l = load l.self.holding.ledger.plan.now (state_now l.self) l.space
