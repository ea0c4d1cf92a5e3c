-- The state of a ledger follows from its journal.
use Rattle.std.proofs.Common.{◌≡◌, ◌||◌, Bor, List, [], ◌∷◌, sym, ap, ◌∙◌}
use Rattle.dd_blocks.specs.declared.plan.Plan.{Plan}
use Rattle.dd_ledger.specs.declared.ledger.Ledger.{Ledger}
use Rattle.dd_ledger.specs.Ledgers.{GrowsBy, state_now}
use Rattle.dd_ledger.proofs.FactsLemmas.{picks_one}
use Rattle.dd_machine.specs.declared.entry.Entry.{Entry}
use Rattle.dd_machine.specs.Effects.{after}
use Rattle.dd_machine.specs.Runs.{has_pick, is_pick, start, state_after, state_of_run}
use Rattle.dd_machine.specs.States.{State}
use Rattle.dd_machine.proofs.RunsLemmas.{state_parts}

-- the state of a ledger that grew; by one entry; by none; and whether it has a Pick then
pub state_grows : (l u : Ledger) (added : List Entry) → GrowsBy l u added → state_now u ≡ state_after l.plan.now (state_now l) added
state_grows l u added grows =
    u.facts.state
    ∙ ap (λ (p : Bor Plan). state_of_run p.now u.journal.items) grows.plan
    ∙ ap (state_of_run l.plan.now) grows.journal
    ∙ state_parts l.plan.now (start l.plan.now) l.journal.items added
    ∙ sym (ap (λ (s : State). state_after l.plan.now s added) l.facts.state)

pub state_next : (l u : Ledger) (entry : Entry) → GrowsBy l u (entry ∷ []) → state_now u ≡ after l.plan.now (state_now l) entry.event
unfolding state_after
state_next l u entry grows = state_grows l u (entry ∷ []) grows

pub state_stays : (l u : Ledger) → GrowsBy l u [] → state_now u ≡ state_now l
unfolding state_after
state_stays l u grows = state_grows l u [] grows

pub picks_grown : (l u : Ledger) (entry : Entry) → GrowsBy l u (entry ∷ []) → has_pick u.journal.items ≡ (has_pick l.journal.items || is_pick entry.event)
picks_grown l u entry grows = ap has_pick grows.journal ∙ picks_one l.journal.items entry
