-- What the laws of the machine promise of a legal journal.
use Rattle.std.proofs.Common.{◌≡◌, ℕ, List, [], ◌∷◌, ◌++◌, take, drop, sym, ap, subst, ◌∙◌}
use Rattle.std.proofs.lemmas.List.{append_assoc, take-append-drop}
use Rattle.dd_blocks.specs.declared.plan.Plan.{Plan}
use Rattle.dd_blocks.specs.WellFormed.{IsWellFormed}
use Rattle.dd_machine.specs.declared.entry.Entry.{Entry}
use Rattle.dd_machine.specs.Runs.{IsLegalRun, start, state_of_run}
use Rattle.dd_machine.proofs.RunsLemmas.{run_parts}
use Rattle.dd_run.specs.Journals.{ClaimsBy, IsJournal, KeepsLimits, MovesExactly, begin_at, close_at}
use Rattle.laws_of_machine.proofs.MovedLawLemmas.{every_moved}
use Rattle.laws_of_machine.proofs.SoundLemmas.{sound_run}
use Rattle.laws_of_machine.proofs.SpillsLawLemmas.{spills_none}
use Rattle.laws_of_moved.proofs.LeastLemmas.{least_sends}

-- the first part of a run is one
pub first_part : (plan : Plan) (front rest journal : List Entry) → front ++ rest ≡ journal → IsLegalRun plan journal → IsLegalRun plan front
first_part plan front rest journal split legal = (run_parts plan (start plan) front rest (subst (IsLegalRun plan) (sym split) legal)).0

-- each prefix keeps the limits
pub keeps_limits : (plan : Plan) (journal : List Entry) → IsWellFormed plan → IsLegalRun plan journal → KeepsLimits plan journal
keeps_limits plan journal well legal n space within =
    (sound_run plan (take n journal) well (first_part plan (take n journal) (drop n journal) journal (take-append-drop n journal) legal)).limits.within space within

-- each region moves what it has to
pub moves_exactly : (plan : Plan) (journal : List Entry) → IsWellFormed plan → IsLegalRun plan journal → MovesExactly plan journal
moves_exactly plan journal well legal before within rest region first last is =
    let b = begin_at first region in
    let c = close_at last region in
    let inner = append_assoc (b ∷ within) (c ∷ []) rest in
    let outer = append_assoc before (b ∷ (within ++ (c ∷ []))) rest in
    every_moved plan before within region first last well (first_part plan (before ++ (b ∷ (within ++ (c ∷ [])))) rest journal (outer ∙ (ap (λ l. before ++ l) inner ∙ sym is)) legal)

-- all of it
pub is_journal : (plan : Plan) (workers count : ℕ) (journal : List Entry) → IsWellFormed plan → IsLegalRun plan journal → ClaimsBy workers journal
    → count ≡ (state_of_run plan journal).moved → IsJournal plan workers journal count
is_journal plan workers count journal well legal claims moved = record {
  legal = legal;
  limits = keeps_limits plan journal well legal;
  exact = moves_exactly plan journal well legal;
  fewest = λ region steps carriage. least_sends plan region steps well carriage;
  claims = claims;
  moved = moved;
  roomy = λ roomy. spills_none plan journal well roomy legal;
}
