-- Why words give no access.
use Rattle.std.specs.Prelude.{◌≡◌, List, ◌++◌, Option, None, Some}
use Rattle.dd_tokens.specs.declared.fault.LineFault.{LineFault}
use Rattle.dd_tokens.specs.declared.fault.LineFault.TheVariants.{NotText, BadForm, UnknownStatement, BadNumber, UnknownPart, Memory}

-- a word that is unknown, so that there is nothing to find; want of memory comes for no reason here
abbrev pub IsPartFault : {A : Type 0} → LineFault → Option A → Type 0
IsPartFault UnknownPart found = found ≡ None
IsPartFault Memory found = Unit {0}
IsPartFault NotText found = ⊥
IsPartFault BadForm found = ⊥
IsPartFault UnknownStatement found = ⊥
IsPartFault BadNumber found = ⊥

-- what was found was added
pub record Adds {A : Type 0} (found : Option (List A)) (old new : List A) : Type 0 where
  pub made : List A
  pub is : found ≡ Some made
  pub added : new ≡ old ++ made
