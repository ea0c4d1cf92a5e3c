-- What a command comes to, by its status. From where the script comes and what its run leaves are parameters.
use Rattle.std.specs.Prelude.{◌≡◌, ℕ, ◌≤◌, ◌⊎◌, Bool, false, List, [], length, Option}
use Rattle.std.specs.Io.KnownBytes.{Appends}
use Rattle.dd_causes.specs.Counts.{Rose}
use Rattle.dd_causes.specs.Appended.{AppendsFront}
use Rattle.dd_blocks.specs.declared.plan.Plan.{Plan}
use Rattle.dd_blocks.specs.Limits.{text_limit}
use Rattle.dd_check.specs.declared.fault.Fault.{Fault}
use Rattle.dd_check.specs.Faults.{IsOnlyFaultOf, IsOnlyPlanOf, too_long}
use Rattle.dd_machine.specs.declared.entry.Entry.{Entry}
use Rattle.dd_meaning.specs.Text.{text_of}
use Rattle.dd_run.specs.Runs.{IsBroken, IsWhole}
use Rattle.dd_session.specs.declared.words.Command.{Command}
use Rattle.dd_session.specs.declared.words.Command.TheVariants.{Run, Plain}
use Rattle.dd_session.specs.Origins.{Origin}
use Rattle.dd_session.specs.declared.status.Status.{Status}
use Rattle.dd_session.specs.declared.status.Status.TheVariants.{Done, Memory, Words, Script, ReadFault, WriteFault, DiskFault}

-- a text that a script may have comes from there; it is accepted with this Plan, or has this first fault
pub record IsAccepted (origin : Origin) (plan : Plan) : Type 0 where
  pub text : List ℕ
  pub comes : origin.Comes text
  pub short : length text ≤ text_limit
  pub accepted : IsOnlyPlanOf text plan

pub record IsFaulty (origin : Origin) (fault : Fault) : Type 0 where
  pub text : List ℕ
  pub comes : origin.Comes text
  pub short : length text ≤ text_limit
  pub refused : IsOnlyFaultOf text fault

-- what a command leaves: where its run is whole, where that ended early, where it ended for the disk, and where nothing was run
pub record Leaves : Type 1 where
  pub Whole : Plan → Type 0
  pub Early : Plan → Type 0
  pub Spilled : Plan → Type 0
  pub Idle : Type 0

-- By the status. Want of memory may end a command before a run begins, or in the middle of it.
abbrev pub EndsWith : Origin → Leaves → Status → Type 0
EndsWith origin leaves Done = (plan : Plan) × IsAccepted origin plan × leaves.Whole plan
EndsWith origin leaves Memory = leaves.Idle ⊎ ((plan : Plan) × IsAccepted origin plan × leaves.Early plan)
EndsWith origin leaves Words = ⊥
EndsWith origin leaves (Script fault) = (((fault ≡ too_long) × origin.Long) ⊎ IsFaulty origin fault) × leaves.Idle
EndsWith origin leaves ReadFault = leaves.Idle
EndsWith origin leaves WriteFault = (plan : Plan) × IsAccepted origin plan × leaves.Early plan
EndsWith origin leaves DiskFault = (plan : Plan) × IsAccepted origin plan × leaves.Spilled plan

-- of a script that could not be read
abbrev pub EndsUnread : Origin → Status → Type 0
EndsUnread origin Memory = Unit {0}
EndsUnread origin (Script fault) = (fault ≡ too_long) × origin.Long
EndsUnread origin ReadFault = Unit {0}
EndsUnread origin _ = ⊥

-- nothing was written, no entry was made and nothing moved
pub record RanNothing (journal : List Entry) (moved : ℕ) (taken taken' : Option (List ℕ)) : Type 0 where
  pub written : Appends taken taken' []
  pub journal_is : journal ≡ []
  pub moved_is : moved ≡ 0

-- a run over spaces by so many workers
abbrev pub over_spaces : (tells logged : Bool) (workers : ℕ) (journal : List Entry) (moved : ℕ) (taken taken' : Option (List ℕ)) → Leaves
over_spaces tells logged workers journal moved taken taken' = record {
  Whole = λ plan. IsWhole plan tells logged workers journal moved taken taken';
  Early = λ plan. IsBroken plan tells logged workers journal moved taken taken';
  Spilled = λ plan. IsBroken plan tells logged workers journal moved taken taken';
  Idle = RanNothing journal moved taken taken';
}

-- a run on whole arrays: it has no entries, nothing moves, and the disk doesn't end it
pub record RanPlain (journal : List Entry) (moved : ℕ) (Written : Type 0) : Type 0 where
  pub written : Written
  pub journal_is : journal ≡ []
  pub moved_is : moved ≡ 0

abbrev pub on_arrays : (journal : List Entry) (moved : ℕ) (taken taken' : Option (List ℕ)) → Leaves
on_arrays journal moved taken taken' = record {
  Whole = λ plan. RanPlain journal moved (Appends taken taken' (text_of plan));
  Early = λ plan. RanPlain journal moved (AppendsFront taken taken' (text_of plan));
  Spilled = λ plan. ⊥;
  Idle = RanNothing journal moved taken taken';
}

-- that of a command
abbrev pub leaves_of : Command → (tells : Bool) (journal : List Entry) (moved : ℕ) (taken taken' : Option (List ℕ)) → Leaves
leaves_of Run tells journal moved taken taken' = over_spaces tells false 1 journal moved taken taken'
leaves_of Plain tells journal moved taken taken' = on_arrays journal moved taken taken'

-- the count of an object's faults, by whether one of them ended the run: it rose, or it is as it was
abbrev pub CountsFaults : Type 0 → ℕ → ℕ → Type 0
CountsFaults Failed before now = (Failed → Rose before now) × ((Failed → ⊥) → now ≡ before) × (before ≤ now)

-- the counts of the source, of the output and of the store, by the status. A store may count a fault that ends nothing
pub record TellsFaults (status : Status) (reads reads' writes writes' disks disks' : ℕ) : Type 0 where
  pub source : CountsFaults (status ≡ ReadFault) reads reads'
  pub output : CountsFaults (status ≡ WriteFault) writes writes'
  pub store : (status ≡ DiskFault → Rose disks disks') × (disks ≤ disks')
