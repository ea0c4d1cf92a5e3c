-- The kinds of fault in the groups in which they are asked, and the answers of what asks them.
use Rattle.std.specs.Prelude.{◌≡◌, ℕ, Bool, true, false, List, [], ◌∷◌}
use Rattle.dd_script.specs.declared.statement.Statement.{Statement}
use Rattle.dd_script.specs.declared.statement.Statement.TheVariants.{Task}
use Rattle.dd_check.specs.declared.fault.AcceptFault.{AcceptFault}
use Rattle.dd_check.specs.declared.fault.AcceptFault.TheVariants.{Script, Memory}
use Rattle.dd_check.specs.declared.fault.Fault.{Fault}
use Rattle.dd_check.specs.declared.kind.Kind.{Kind}
use Rattle.dd_check.specs.declared.kind.Kind.TheVariants.{UnknownName, NameTaken, LateMachine, NoProc, BadShape, UnknownKernel, ArgCount, BadAccess, BadRange, NotSquare, ShapeMismatch, WrongPlace, TooMany, BlockTooLarge, TaskTooLarge}
use Rattle.dd_check.specs.Above.{Above}
use Rattle.dd_check.specs.Faults.{IsFirstOf, IsRefused, IsUnread, Plain}

-- on names, the machine and edges; on a kernel and its arguments; on the views of a task; on where a statement stands; on
-- what there would be then
abbrev pub name_kinds : List Kind
name_kinds = UnknownName ∷ NameTaken ∷ LateMachine ∷ NoProc ∷ BadShape ∷ []

abbrev pub argument_kinds : List Kind
argument_kinds = UnknownKernel ∷ ArgCount ∷ BadAccess ∷ []

abbrev pub view_kinds : List Kind
view_kinds = BadRange ∷ NotSquare ∷ ShapeMismatch ∷ []

abbrev pub place_kinds : List Kind
place_kinds = WrongPlace ∷ []

abbrev pub size_kinds : List Kind
size_kinds = TooMany ∷ BlockTooLarge ∷ TaskTooLarge ∷ []

-- the fault is on line n, and of these kinds it has the first that holds
pub record IsFound (n : ℕ) (s : Above) (x : Statement) (asked : List Kind) (fault : Fault) : Type 0 where
  pub line : fault.line ≡ n
  pub first : IsFirstOf n s x asked fault

-- so, or want of memory, which comes for no reason here
abbrev pub IsFoundOr : AcceptFault → ℕ → Above → Statement → List Kind → Type 0
IsFoundOr (Script fault) n s x asked = IsFound n s x asked fault
IsFoundOr Memory n s x asked = Unit {0}

-- why a line is refused
abbrev pub IsRefusedOr : AcceptFault → ℕ → Above → List ℕ → Type 0
IsRefusedOr (Script fault) n s line = IsRefused n s line fault
IsRefusedOr Memory n s line = Unit {0}

-- why a line says nothing. Want of memory comes for no reason here
abbrev pub IsUnreadOr : AcceptFault → ℕ → List ℕ → Type 0
IsUnreadOr (Script fault) n line = (fault.line ≡ n) × Plain fault.a fault.b (IsUnread fault.kind line)
IsUnreadOr Memory n line = Unit {0}

-- whether the statement is a task
abbrev pub is_task : Statement → Bool
is_task (Task kernel scalar pieces) = true
is_task _ = false
