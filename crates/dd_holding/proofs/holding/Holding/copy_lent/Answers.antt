-- The slot was read, and the rest is as from a copy in memory.
use Rattle.std.proofs.Common.{sym, ap, ◌∙◌, subst}
use Rattle.std.specs.Prelude.{is_some}
use Rattle.dd_ledger.specs.declared.ledger.Ledger.{Ledger}
use Rattle.dd_pool.specs.Places.{IsPlace}
use Rattle.dd_holding.proofs.holding.Holding.copy_lent.Goals as goal

pub returns-in-Ok-clause-slots : goal.returns-in-Ok-clause-slots
returns-in-Ok-clause-slots g c = λ s b at.
    ap is_some (c.copy_from.ensures.slots s b (subst (λ (l : Ledger). IsPlace l.plan.now s b) (sym c.read_slot.ensures.ledger) at)) ∙ c.in_ok-lent.ensures.slots s b at
