-- What a run of a Plan's statements comes to.
use Rattle.std.specs.Prelude.{◌≡◌, ℕ, Bool, List, Option}
use Rattle.std.specs.Io.KnownBytes.{Appends}
use Rattle.dd_blocks.specs.declared.plan.Plan.{Plan}
use Rattle.dd_machine.specs.declared.entry.Entry.{Entry}
use Rattle.dd_machine.specs.Runs.{IsWholeRun}
use Rattle.dd_machine.specs.Words.{rows}
use Rattle.dd_meaning.specs.Text.{moved_above}
use Rattle.dd_run.specs.Journals.{IsJournal}
use Rattle.dd_run.specs.Texts.{IsTold, WritesPrefix, whole_text}

-- The headline of a run that is whole: its journal is a whole legal run by so many workers, within the limits, with exactly the
-- moves that are necessary and none more than the fewest; all regions' moves are counted; and the whole text was written.
pub record IsWhole (plan : Plan) (tells logged : Bool) (workers : ℕ) (journal : List Entry) (count : ℕ) (taken taken' : Option (List ℕ)) : Type 0 where
  pub journal_is : IsJournal plan workers journal count
  pub whole : IsWholeRun plan journal
  pub moved_all : count ≡ moved_above plan (rows plan)
  pub bytes : IsTold tells journal → Appends taken taken' (whole_text plan logged journal)

-- a run that ended early, wherever that was
pub record IsBroken (plan : Plan) (tells logged : Bool) (workers : ℕ) (journal : List Entry) (count : ℕ) (taken taken' : Option (List ℕ)) : Type 0 where
  pub journal_is : IsJournal plan workers journal count
  pub prefix : IsTold tells journal → WritesPrefix plan logged journal taken taken'
