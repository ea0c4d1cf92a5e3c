-- What a call that prints over a table leaves on its sink.
use Rattle.std.specs.Prelude.{◌≡◌, ℕ, ◌≤◌, List, Option, Result, OnErr, OnOk, IsErrOf}
use Rattle.std.specs.Io.KnownBytes.{Appends}
use Rattle.dd_causes.specs.Counts.{Rose}
use Rattle.dd_causes.specs.Appended.{AppendsFront}
use Rattle.dd_print.specs.declared.fault.PrintFault.{PrintFault}
use Rattle.dd_print.specs.declared.fault.PrintFault.TheVariants.{WriteFault}

-- Where the values are told, the whole text was appended, or a prefix of it. `taken` and `taken'` are the bytes that the sink took
-- before and after the call, `faults` and `faults'` how many faults it counted: it counted one only where that is the answer.
pub record WritesWhere (Told : Type 0) (whole : List ℕ) (result : Result (Unit {0}) PrintFault) (taken taken' : Option (List ℕ)) (faults faults' : ℕ) : Type 0 where
  pub all : Told → OnOk result (Appends taken taken' whole)
  pub front : Told → OnErr result (AppendsFront taken taken' whole)
  pub cause : IsErrOf result WriteFault → Rose faults faults'
  pub kept : (¬ IsErrOf result WriteFault) → faults' ≡ faults
  pub later : faults ≤ faults'
