-- What is promised of a run's text.
use Rattle.std.specs.Prelude.{◌≡◌, ℕ, suc, ◌<◌, ◌≤◌, ◌||◌, not, Bool, true, cond, List, [], ◌++◌, length, Option, Result, IsErrOf}
use Rattle.std.specs.Io.KnownBytes.{Appends}
use Rattle.dd_blocks.specs.declared.plan.Plan.{Plan}
use Rattle.dd_causes.specs.Counts.{Rose}
use Rattle.dd_machine.specs.declared.entry.Entry.{Entry}
use Rattle.dd_machine.specs.Journal.{entries_at, journal_lines, text_with_journal}
use Rattle.dd_machine.specs.Owed.{entries_from}
use Rattle.dd_machine.specs.Runs.{has_pick, start}
use Rattle.dd_machine.specs.Words.{rows}
use Rattle.dd_meaning.specs.Text.{row_text, text_of}
use Rattle.dd_print.specs.declared.fault.PrintFault.{PrintFault}
use Rattle.dd_print.specs.declared.fault.PrintFault.TheVariants.{WriteFault}
use Rattle.laws_of_machine.specs.Asked.{asked}
use Rattle.laws_of_rows.specs.Texts.{text_before}

-- slots tell what was written, or the journal spills nothing
abbrev pub IsTold : Bool → List Entry → Type 0
IsTold tells journal = (tells || not (has_pick journal)) ≡ true

-- the text of a script, with the journal's lines of each statement below it or without
abbrev pub whole_text : Plan → Bool → List Entry → List ℕ
whole_text plan logged journal = cond logged (text_with_journal plan journal) (text_of plan)

-- what follows the row that has i rows above it: its lines of the journal, or nothing
abbrev pub lines_below : Plan → Bool → List Entry → ℕ → List ℕ
lines_below plan logged journal i = cond logged (journal_lines (entries_at plan journal (suc i))) []

-- the part of a row, and those of the first i rows
abbrev pub row_part : Plan → Bool → List Entry → ℕ → List ℕ
row_part plan logged journal i = row_text plan i ++ lines_below plan logged journal i

abbrev pub first_parts : Plan → Bool → List Entry → ℕ → List ℕ
first_parts plan logged journal i = text_before plan (lines_below plan logged journal) i

-- the journal has all entries for which the first i rows ask
abbrev pub HasEntriesOf : Plan → List Entry → ℕ → Type 0
HasEntriesOf plan journal i = (rest : List Entry) × (asked plan (start plan) journal ≡ entries_from plan 1 i ++ rest)

-- a prefix of the text was written; where it has a byte of a row's part, the journal has all entries of the rows above
pub record WritesPrefix (plan : Plan) (logged : Bool) (journal : List Entry) (taken taken' : Option (List ℕ)) : Type 0 where
  pub done : List ℕ
  pub left : List ℕ
  pub prefix : whole_text plan logged journal ≡ done ++ left
  pub written : Appends taken taken' done
  pub entries : (i : ℕ) → i < rows plan → length (first_parts plan logged journal i) < length done → HasEntriesOf plan journal i

-- what a call says of the faults that a sink counts: it counted one only where that is the answer
pub record CountsWrites (result : Result (Unit {0}) PrintFault) (faults faults' : ℕ) : Type 0 where
  pub cause : IsErrOf result WriteFault → Rose faults faults'
  pub kept : (¬ IsErrOf result WriteFault) → faults' ≡ faults
  pub later : faults ≤ faults'
