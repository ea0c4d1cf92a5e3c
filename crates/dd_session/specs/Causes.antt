-- The status of a run, by why it ended early.
use Rattle.std.specs.Prelude.{Option, None, Some}
use Rattle.dd_print.specs.declared.fault.PrintFault.{PrintFault}
use Rattle.dd_print.specs.declared.fault.PrintFault.TheVariants as fault
use Rattle.dd_session.specs.declared.status.Status.{Status}
use Rattle.dd_session.specs.declared.status.Status.TheVariants.{Done, Memory, WriteFault, DiskFault}

abbrev pub status_of : Option PrintFault → Status
status_of None = Done
status_of (Some fault.WriteFault) = WriteFault
status_of (Some fault.DiskFault) = DiskFault
status_of (Some fault.Memory) = Memory
