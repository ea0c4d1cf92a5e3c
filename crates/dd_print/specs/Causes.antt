-- Why a print ended early, by why what it stands on did.
use Rattle.dd_print.specs.declared.fault.PrintFault.{PrintFault}
use Rattle.dd_print.specs.declared.fault.PrintFault.TheVariants as print
use Rattle.dd_table.specs.declared.fault.RunFault.{RunFault}
use Rattle.dd_table.specs.declared.fault.RunFault.TheVariants as run
use Rattle.dd_text.specs.declared.fault.PrintFault.{PrintFault as TextFault}
use Rattle.dd_text.specs.declared.fault.PrintFault.TheVariants as text

abbrev pub of_run : RunFault → PrintFault
of_run run.DiskFault = print.DiskFault
of_run run.Memory = print.Memory

abbrev pub of_text : TextFault → PrintFault
of_text text.WriteFault = print.WriteFault
of_text text.Memory = print.Memory
