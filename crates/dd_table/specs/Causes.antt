-- What a fault of a store or a slot is for a run.
use Rattle.dd_store.specs.declared.fault.StoreFault.{StoreFault}
use Rattle.dd_store.specs.declared.fault.StoreFault.TheVariants as store
use Rattle.dd_table.specs.declared.fault.RunFault.{RunFault}
use Rattle.dd_table.specs.declared.fault.RunFault.TheVariants as run
use Rattle.dd_table.specs.declared.took.Took.{Took}
use Rattle.dd_table.specs.declared.took.Took.TheVariants as took

abbrev pub fault_of : StoreFault → RunFault
fault_of store.Disk = run.DiskFault
fault_of store.Memory = run.Memory

-- what a worker gets then
abbrev pub took_of : RunFault → Took
took_of run.DiskFault = took.DiskFault
took_of run.Memory = took.Memory
