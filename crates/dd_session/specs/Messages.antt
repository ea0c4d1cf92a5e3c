-- What each status writes to the error output, and the exit status of the program.
use Rattle.std.specs.Prelude.{ℕ, List, [], ◌∷◌, codes}
use Rattle.std.specs.List.{concat}
use Rattle.std.specs.Fmt.{decimal}
use Rattle.dd_check.specs.declared.fault.Fault.{Fault}
use Rattle.dd_check.specs.declared.kind.Kind.{Kind}
use Rattle.dd_check.specs.declared.kind.Kind.TheVariants.{NotText, TooLong, BadForm, UnknownStatement, BadNumber, UnknownPart, UnknownName, NameTaken, LateMachine, NoProc, BadShape, UnknownKernel, ArgCount, BadAccess, BadRange, NotSquare, ShapeMismatch, WrongPlace, TooMany, BlockTooLarge, TaskTooLarge, UnendedRegion}
use Rattle.dd_session.specs.declared.status.Status.{Status}
use Rattle.dd_session.specs.declared.status.Status.TheVariants.{Done, Memory, Words, Script, ReadFault, WriteFault, DiskFault}

abbrev pub kind_name : Kind → List ℕ
kind_name NotText = codes "NotText"
kind_name TooLong = codes "TooLong"
kind_name BadForm = codes "BadForm"
kind_name UnknownStatement = codes "UnknownStatement"
kind_name BadNumber = codes "BadNumber"
kind_name UnknownPart = codes "UnknownPart"
kind_name UnknownName = codes "UnknownName"
kind_name NameTaken = codes "NameTaken"
kind_name LateMachine = codes "LateMachine"
kind_name NoProc = codes "NoProc"
kind_name BadShape = codes "BadShape"
kind_name UnknownKernel = codes "UnknownKernel"
kind_name ArgCount = codes "ArgCount"
kind_name BadAccess = codes "BadAccess"
kind_name BadRange = codes "BadRange"
kind_name NotSquare = codes "NotSquare"
kind_name ShapeMismatch = codes "ShapeMismatch"
kind_name WrongPlace = codes "WrongPlace"
kind_name TooMany = codes "TooMany"
kind_name BlockTooLarge = codes "BlockTooLarge"
kind_name TaskTooLarge = codes "TaskTooLarge"
kind_name UnendedRegion = codes "UnendedRegion"

-- a fault by its line, its kind and both numbers
abbrev pub fault_text : Fault → List ℕ
fault_text fault =
    concat (codes "ddeps: line " ∷ decimal fault.line ∷ codes ": " ∷ kind_name fault.kind ∷ codes " " ∷ decimal fault.a ∷ codes " " ∷ decimal fault.b ∷ codes "\n" ∷ [])

-- one line, or nothing for a run that was done
abbrev pub message_of : Status → List ℕ
message_of Done = []
message_of Memory = codes "ddeps: out of memory\n"
message_of Words = codes "usage: ddeps [--workers N] [--journal] run|plain|gen N|demo N\n"
message_of (Script fault) = fault_text fault
message_of ReadFault = codes "ddeps: read fault\n"
message_of WriteFault = codes "ddeps: write fault\n"
message_of DiskFault = codes "ddeps: disk fault\n"

abbrev pub exit_of : Status → ℕ
exit_of Done = 0
exit_of Memory = 1
exit_of Words = 2
exit_of (Script fault) = 3
exit_of ReadFault = 4
exit_of WriteFault = 5
exit_of DiskFault = 6
