-- The kinds of lines that can't be read.
use Rattle.std.specs.Prelude.{◌≡◌, ℕ}
use Rattle.dd_tokens.specs.declared.fault.LineFault.{LineFault}
use Rattle.dd_tokens.specs.declared.fault.LineFault.TheVariants as unread
use Rattle.dd_check.specs.declared.fault.AcceptFault.{AcceptFault}
use Rattle.dd_check.specs.declared.fault.AcceptFault.TheVariants.{Script, Memory}
use Rattle.dd_check.specs.declared.kind.Kind.{Kind}
use Rattle.dd_check.specs.declared.kind.Kind.TheVariants.{NotText, BadForm, UnknownStatement, BadNumber, UnknownPart}

-- the answer is a fault of the kind on line n, without numbers
abbrev pub IsPlainOn : ℕ → Kind → AcceptFault → Type 0
IsPlainOn n kind answer = answer ≡ Script (record { line = n; kind = kind; a = 0; b = 0 })

-- the answer for a line that can't be read for this reason
abbrev pub IsKindOf : ℕ → LineFault → AcceptFault → Type 0
IsKindOf n unread.NotText answer = IsPlainOn n NotText answer
IsKindOf n unread.BadForm answer = IsPlainOn n BadForm answer
IsKindOf n unread.UnknownStatement answer = IsPlainOn n UnknownStatement answer
IsKindOf n unread.BadNumber answer = IsPlainOn n BadNumber answer
IsKindOf n unread.UnknownPart answer = IsPlainOn n UnknownPart answer
IsKindOf n unread.Memory answer = answer ≡ Memory
