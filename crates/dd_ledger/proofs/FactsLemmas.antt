-- A ledger's facts, and the entries that keep them.
use Rattle.std.proofs.Common.{◌≡◌, ℕ, Bool, true, false, ◌||◌, List, [], ◌∷◌, ◌++◌, Option, refl, sym, ap, ◌∙◌, subst}
use Rattle.dd_blocks.specs.declared.plan.Plan.{Plan}
use Rattle.dd_blocks.specs.WellFormed.{IsWellFormed}
use Rattle.dd_core.specs.Cores.{IsCoreOf}
use Rattle.dd_ledger.specs.Facts.{IsLedger}
use Rattle.dd_machine.specs.declared.entry.Entry.{Entry}
use Rattle.dd_machine.specs.Effects.{after}
use Rattle.dd_machine.specs.Legal.{Legal}
use Rattle.dd_machine.specs.Runs.{IsLegalRun, IsRun, has_pick, is_pick, start, state_after, state_of_run}
use Rattle.dd_machine.specs.Sound.{IsSound}
use Rattle.dd_machine.specs.States.{State}
use Rattle.dd_machine.proofs.RunsLemmas.{run_more, state_parts}
use Rattle.dd_tables.specs.declared.tables.Tables.{Tables}
use Rattle.laws_of_machine.proofs.SoundLemmas.{sound_run}

-- the core of a ledger is one of its Plan
pub is_core : (plan : Plan) (core : Tables) (journal : List Entry) (first : Option ℕ) (owed : ℕ) → IsWellFormed plan → IsLedger plan core journal first owed → IsCoreOf plan core
is_core plan core journal first owed well facts = record {
  sized = facts.sized;
  sound = subst (IsSound plan) (sym facts.state) (sound_run plan journal well facts.legal);
}

-- the state after one entry more
pub state_one : (plan : Plan) (st new : State) (old now : List Entry) (entry : Entry) → st ≡ state_of_run plan old → new ≡ after plan st entry.event → now ≡ old ++ entry ∷ []
    → new ≡ state_of_run plan now
unfolding state_after
state_one plan st new old now entry is step grown =
    step ∙ ap (λ (s : State). after plan s entry.event) is ∙ sym (state_parts plan (start plan) old (entry ∷ [])) ∙ sym (ap (state_of_run plan) grown)

-- a legal entry more
pub run_one : (plan : Plan) (st : State) (old now : List Entry) (entry : Entry) → st ≡ state_of_run plan old → Legal plan st entry → now ≡ old ++ entry ∷ []
    → IsLegalRun plan old → IsLegalRun plan now
unfolding IsRun
run_one plan st old now entry is legal grown run =
    subst (IsLegalRun plan) (sym grown) (run_more plan (start plan) old (entry ∷ []) run (subst (λ (s : State). Legal plan s entry) is legal, tt))

-- whether there is a Pick, after one entry more
pub picks_one : (old : List Entry) (entry : Entry) → has_pick (old ++ entry ∷ []) ≡ (has_pick old || is_pick entry.event)
unfolding has_pick
picks_one [] entry = or_false (is_pick entry.event)
  where
    or_false : (b : Bool) → (b || false) ≡ b
    or_false false = refl
    or_false true = refl
picks_one (e ∷ old) entry = ap (λ (b : Bool). is_pick e.event || b) (picks_one old entry) ∙ or_assoc (is_pick e.event) (has_pick old) (is_pick entry.event)
  where
    or_assoc : (a b c : Bool) → (a || (b || c)) ≡ ((a || b) || c)
    or_assoc false b c = refl
    or_assoc true b c = refl
