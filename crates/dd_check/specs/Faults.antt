-- The first fault of a text.
use Rattle.std.specs.Prelude.{◌≡◌, ◌⊎◌, ℕ, ◌+◌, ◌<◌, ◌≤◌, List, [], ◌∷◌, length, None, Some}
use Rattle.dd_tokens.specs.declared.fault.LineFault.TheVariants as unread
use Rattle.dd_blocks.specs.declared.plan.Plan.{Plan}
use Rattle.dd_blocks.specs.Limits.{text_limit}
use Rattle.dd_script.specs.declared.statement.Statement.{Statement}
use Rattle.dd_check.specs.Lines.{lines_of}
use Rattle.dd_script.specs.Answers.{IsLineFault}
use Rattle.dd_script.specs.Reads.{Reads}
use Rattle.dd_check.specs.declared.fault.AcceptFault.{AcceptFault}
use Rattle.dd_check.specs.declared.fault.AcceptFault.TheVariants.{Script, Memory}
use Rattle.dd_check.specs.declared.fault.Fault.{Fault}
use Rattle.dd_check.specs.declared.kind.Kind.{Kind}
use Rattle.dd_check.specs.declared.kind.Kind.TheVariants.{NotText, TooLong, BadForm, UnknownStatement, BadNumber, UnknownPart, UnknownName, NameTaken, LateMachine, NoProc, BadShape, UnknownKernel, ArgCount, BadAccess, BadRange, NotSquare, ShapeMismatch, WrongPlace, TooMany, BlockTooLarge, TaskTooLarge, UnendedRegion}
use Rattle.dd_check.specs.Above.{Above, OpenRegion, found_by, nothing_above, settle}
use Rattle.dd_check.specs.Effects.{Enters}
use Rattle.dd_check.specs.Kinds.{HasUnknownName, HasTakenName, IsLate, HasNoProc, HasBadShape, HasUnknownKernel, HasArgCount, HasBadAccess, HasRangeFault, HasNoSquare, HasMismatch, IsMisplaced, HasTooMany, HasLargeBlock, HasLargeTask}

-- neither of a kind's two numbers is given
abbrev pub Plain : ℕ → ℕ → Type 0 → Type 0
Plain a b F = F × (a ≡ 0) × (b ≡ 0)

-- The kind holds of the statement on line n, with these two numbers. The other kinds are not asked of statements.
abbrev pub Holds : Kind → ℕ → Above → Statement → ℕ → ℕ → Type 0
Holds UnknownName n s x a b = Plain a b (HasUnknownName s x)
Holds NameTaken n s x a b = Plain a b (HasTakenName s x)
Holds LateMachine n s x a b = Plain a b (IsLate s x)
Holds NoProc n s x a b = Plain a b (HasNoProc s x)
Holds BadShape n s x a b = Plain a b (HasBadShape x)
Holds UnknownKernel n s x a b = Plain a b (HasUnknownKernel x)
Holds ArgCount n s x a b = HasArgCount x a b
Holds BadAccess n s x a b = Plain a b (HasBadAccess x)
Holds BadRange n s x a b = Plain a b (HasRangeFault s x)
Holds NotSquare n s x a b = Plain a b (HasNoSquare s x)
Holds ShapeMismatch n s x a b = Plain a b (HasMismatch s x)
Holds WrongPlace n s x a b = Plain a b (IsMisplaced s x)
Holds TooMany n s x a b = HasTooMany n s x a × (b ≡ 0)
Holds BlockTooLarge n s x a b = HasLargeBlock s x a b
Holds TaskTooLarge n s x a b = HasLargeTask n s x a b
Holds _ n s x a b = ⊥

-- The order in which the kinds are asked of a statement. Before a line is a statement, its bytes are asked for NotText, its
-- tokens for BadForm and UnknownStatement, its numbers for BadNumber and its words for UnknownPart, each where those before it
-- don't hold. TooLong is asked before all lines, and UnendedRegion behind them.
abbrev pub kinds : List Kind
kinds = UnknownName ∷ NameTaken ∷ LateMachine ∷ NoProc ∷ BadShape ∷ UnknownKernel ∷ ArgCount ∷ BadAccess ∷ BadRange ∷ NotSquare ∷ ShapeMismatch ∷ WrongPlace ∷ TooMany ∷ BlockTooLarge ∷ TaskTooLarge ∷ []

-- the kind doesn't hold, whatever the numbers
abbrev pub IsClear : ℕ → Above → Statement → Kind → Type 0
IsClear n s x kind = (a b : ℕ) → Holds kind n s x a b → ⊥

-- of some kinds none holds
abbrev pub AreClear : ℕ → Above → Statement → List Kind → Type 0
AreClear n s x [] = Unit {0}
AreClear n s x (kind ∷ more) = IsClear n s x kind × AreClear n s x more

-- the first of some kinds that holds is the fault's
abbrev pub IsFirstOf : ℕ → Above → Statement → List Kind → Fault → Type 0
IsFirstOf n s x [] fault = ⊥
IsFirstOf n s x (kind ∷ more) fault =
    ((fault.kind ≡ kind) × Holds kind n s x fault.a fault.b) ⊎ (IsClear n s x kind × IsFirstOf n s x more fault)

-- why a line can't be read
abbrev pub IsUnread : Kind → List ℕ → Type 0
IsUnread NotText line = IsLineFault unread.NotText line
IsUnread BadForm line = IsLineFault unread.BadForm line
IsUnread UnknownStatement line = IsLineFault unread.UnknownStatement line
IsUnread BadNumber line = IsLineFault unread.BadNumber line
IsUnread UnknownPart line = IsLineFault unread.UnknownPart line
IsUnread _ line = ⊥

-- the line with number n says what may not stand below s
abbrev pub IsRefused : ℕ → Above → List ℕ → Fault → Type 0
IsRefused n s line fault = (fault.line ≡ n)
    × (Plain fault.a fault.b (IsUnread fault.kind line)
    ⊎ ((x : Statement) × Reads line (Some x) × IsFirstOf n (found_by s x) x kinds fault))

-- the line with number n says what may stand below s, or nothing, and this is left then
abbrev pub IsTaken : ℕ → Above → List ℕ → Above → Type 0
IsTaken n s line after = (Reads line None × (after ≡ s))
    ⊎ ((x : Statement) × Reads line (Some x) × AreClear n (found_by s x) x kinds × Enters n (found_by s x) x after)

-- so these lines, the first with number n
abbrev pub AreTaken : ℕ → Above → List (List ℕ) → Above → Type 0
AreTaken n s [] after = after ≡ s
AreTaken n s (line ∷ lines) after = (next : Above) × IsTaken n s line next × AreTaken (n + 1) next lines after

-- the first of these lines that is refused has the fault
abbrev pub IsRefusedIn : ℕ → Above → List (List ℕ) → Fault → Type 0
IsRefusedIn n s [] fault = ⊥
IsRefusedIn n s (line ∷ lines) fault =
    IsRefused n s line fault ⊎ ((next : Above) × IsTaken n s line next × IsRefusedIn (n + 1) next lines fault)

-- no line is refused, and a region is open at the end
pub record IsUnended (text : List ℕ) (fault : Fault) : Type 0 where
  pub after : Above
  pub taken : AreTaken 1 nothing_above (lines_of text) after
  pub region : OpenRegion
  pub opened : after.opened ≡ Some region
  pub is : fault ≡ record { line = region.line; kind = UnendedRegion; a = 0; b = 0 }

-- the text has more bytes than a script may have, and this is the fault then
abbrev pub too_long : Fault
too_long = record { line = 0; kind = TooLong; a = text_limit; b = 0 }

abbrev pub IsTooLong : List ℕ → Fault → Type 0
IsTooLong text fault = (text_limit < length text) × (fault ≡ too_long)

-- the first fault of a text
abbrev pub IsFault : List ℕ → Fault → Type 0
IsFault text fault =
    IsTooLong text fault
    ⊎ ((length text ≤ text_limit) × (IsRefusedIn 1 nothing_above (lines_of text) fault ⊎ IsUnended text fault))

-- the text has no fault, and makes this Plan
pub record IsPlanOf (text : List ℕ) (plan : Plan) : Type 0 where
  pub short : length text ≤ text_limit
  pub after : Above
  pub taken : AreTaken 1 nothing_above (lines_of text) after
  pub closed : after.opened ≡ None
  pub is : plan ≡ (settle after).plan

-- The answers that a text may get.

-- the Plan is that of the text, which has no other and no fault
pub record IsOnlyPlanOf (text : List ℕ) (plan : Plan) : Type 0 where
  pub is : IsPlanOf text plan
  pub only : (other : Plan) → IsPlanOf text other → other ≡ plan
  pub faultless : (fault : Fault) → ¬ IsFault text fault

-- the fault is that of the text, which has no other and no Plan
pub record IsOnlyFaultOf (text : List ℕ) (fault : Fault) : Type 0 where
  pub is : IsFault text fault
  pub only : (other : Fault) → IsFault text other → other ≡ fault
  pub planless : (plan : Plan) → ¬ IsPlanOf text plan

-- why a text gets no Plan. Want of memory comes for no reason here
abbrev pub IsAcceptFault : AcceptFault → List ℕ → Type 0
IsAcceptFault (Script fault) text = IsOnlyFaultOf text fault
IsAcceptFault Memory text = Unit {0}
