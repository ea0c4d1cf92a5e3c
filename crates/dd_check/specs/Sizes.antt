-- Whether there is room for the row of a task.
use Rattle.std.specs.Prelude.{◌≡◌, ◌⊎◌, ℕ, ◌<◌, ◌≤◌, None, Some}
use Rattle.dd_blocks.specs.declared.task_row.TaskRow.{TaskRow}
use Rattle.dd_blocks.specs.Tasks.{limit_at}
use Rattle.dd_check.specs.declared.fault.AcceptFault.{AcceptFault}
use Rattle.dd_check.specs.declared.fault.AcceptFault.TheVariants.{Script, Memory}
use Rattle.dd_check.specs.declared.fault.Fault.{Fault}
use Rattle.dd_check.specs.declared.kind.Kind.TheVariants.{TaskTooLarge, TooMany}
use Rattle.dd_check.specs.Above.{Above}
use Rattle.dd_check.specs.Kinds.{amounts_of_task, limit_passed}

-- the task passes no limit, and its space has what it takes
pub record FitsIn (s : Above) (row : TaskRow) : Type 0 where
  pub limits : limit_passed (amounts_of_task s row) ≡ None
  pub space : row.charge ≤ limit_at s.plan row

-- a limit is passed
pub record PassesLimit (s : Above) (row : TaskRow) (fault : Fault) : Type 0 where
  pub kind : fault.kind ≡ TooMany
  pub limit : limit_passed (amounts_of_task s row) ≡ Some fault.a
  pub other : fault.b ≡ 0

-- none is, but the space has not what the task takes
pub record PassesSpace (s : Above) (row : TaskRow) (fault : Fault) : Type 0 where
  pub kind : fault.kind ≡ TaskTooLarge
  pub limits : limit_passed (amounts_of_task s row) ≡ None
  pub charge : fault.a ≡ row.charge
  pub limit : fault.b ≡ limit_at s.plan row
  pub above : fault.b < fault.a

-- why there is no room, on line n. Want of memory comes for no reason here
abbrev pub IsTooMuchOr : AcceptFault → ℕ → Above → TaskRow → Type 0
IsTooMuchOr (Script fault) n s row = (fault.line ≡ n) × (PassesLimit s row fault ⊎ PassesSpace s row fault)
IsTooMuchOr Memory n s row = Unit {0}
