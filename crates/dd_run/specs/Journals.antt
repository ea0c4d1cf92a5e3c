-- What is promised of a run's journal, whatever the store and the sink do.
use Rattle.std.specs.Prelude.{◌≡◌, ℕ, ◌+◌, ◌≤◌, false, List, [], ◌∷◌, ◌++◌, take, All}
use Rattle.dd_blocks.specs.declared.plan.Plan.{Plan}
use Rattle.dd_machine.specs.declared.entry.Entry.{Entry}
use Rattle.dd_machine.specs.declared.event.Event.TheVariants.{Begin, Claim, Close}
use Rattle.dd_machine.specs.Bytes.{resident}
use Rattle.dd_machine.specs.Carriage.{IsCarriage, Step, sends}
use Rattle.dd_machine.specs.Roomy.{AllRoomy}
use Rattle.dd_machine.specs.Runs.{IsLegalRun, has_pick, state_of_run}
use Rattle.dd_machine.specs.Words.{IsOneOf, limit, spaces}
use Rattle.dd_meaning.specs.Moves.{moved}

-- after each prefix of the journal no space holds more than its limit
abbrev pub KeepsLimits : Plan → List Entry → Type 0
KeepsLimits plan journal = (n space : ℕ) → IsOneOf (spaces plan) space → resident plan (state_of_run plan (take n journal)) space ≤ limit plan space

-- the entry begins the region; it closes it
abbrev pub begin_at : ℕ → ℕ → Entry
begin_at line region = record { line = line; event = Begin region }

abbrev pub close_at : ℕ → ℕ → Entry
close_at line region = record { line = line; event = Close region }

-- from the begin of each region to its close exactly as many elements move as its placement makes necessary
abbrev pub MovesExactly : Plan → List Entry → Type 0
MovesExactly plan journal =
    (before within rest : List Entry) (region first last : ℕ)
    → journal ≡ before ++ (begin_at first region ∷ (within ++ (close_at last region ∷ rest)))
    → (state_of_run plan (before ++ (begin_at first region ∷ (within ++ (close_at last region ∷ []))))).moved
    ≡ (state_of_run plan before).moved + moved plan region

-- and no carriage of a region has fewer sends
abbrev pub MovesFewest : Plan → Type 0
MovesFewest plan = (region : ℕ) (steps : List Step) → IsCarriage plan region steps → moved plan region ≤ sends steps

-- each Claim names one of so many workers
abbrev pub ClaimsBy : ℕ → List Entry → Type 0
ClaimsBy workers journal = All (λ (e : Entry). (task worker : ℕ) → e.event ≡ Claim task worker → IsOneOf workers worker) journal

-- the journal of a run by so many workers, in every outcome: legal, within the limits, with exactly the moves that are necessary, and
-- as many elements moved as it says. Where every space is roomy nothing was spilled
pub record IsJournal (plan : Plan) (workers : ℕ) (journal : List Entry) (count : ℕ) : Type 0 where
  pub legal : IsLegalRun plan journal
  pub limits : KeepsLimits plan journal
  pub exact : MovesExactly plan journal
  pub fewest : MovesFewest plan
  pub claims : ClaimsBy workers journal
  pub moved : count ≡ (state_of_run plan journal).moved
  pub roomy : AllRoomy plan → has_pick journal ≡ false
