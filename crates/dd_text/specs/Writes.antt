-- What a call that prints leaves on its sink.
use Rattle.std.specs.Prelude.{◌≡◌, ℕ, ◌≤◌, List, Option, Result, OnErr, OnOk, IsErrOf}
use Rattle.std.specs.Io.KnownBytes.{Appends}
use Rattle.dd_causes.specs.Counts.{Rose}
use Rattle.dd_causes.specs.Appended.{AppendsAllBut, AppendsFront}
use Rattle.dd_text.specs.declared.fault.PrintFault.{PrintFault}
use Rattle.dd_text.specs.declared.fault.PrintFault.TheVariants.{WriteFault}

-- The call ends well with what is to be done, or with a front of `whole` appended. `taken` and `taken'` are the bytes that the sink
-- took before and after the call, `faults` and `faults'` how many faults it counted: it counted one only where that is the answer.
pub record Prints {T : Type 0} (done : Type 0) (whole : List ℕ) (result : Result T PrintFault) (taken taken' : Option (List ℕ)) (faults faults' : ℕ) : Type 0 where
  pub all : OnOk result done
  pub front : OnErr result (AppendsFront taken taken' whole)
  pub cause : IsErrOf result WriteFault → Rose faults faults'
  pub kept : (¬ IsErrOf result WriteFault) → faults' ≡ faults
  pub later : faults ≤ faults'

-- the whole text was appended, or a front of it
abbrev pub Writes : {T : Type 0} → List ℕ → Result T PrintFault → Option (List ℕ) → Option (List ℕ) → ℕ → ℕ → Type 0
Writes whole result taken taken' faults faults' = Prints (Appends taken taken' whole) whole result taken taken' faults faults'

-- the whole text but what is left of it, which waits, was appended, or a front of it
abbrev pub WritesAllBut : {T : Type 0} → List ℕ → List ℕ → Result T PrintFault → Option (List ℕ) → Option (List ℕ) → ℕ → ℕ → Type 0
WritesAllBut left whole result taken taken' faults faults' = Prints (AppendsAllBut taken taken' left whole) whole result taken taken' faults faults'
