-- The one answer that a line gets: what it says, or why it says nothing.
use Rattle.std.specs.Prelude.{◌≡◌, ◌⊎◌, ℕ, List, Option}
use Rattle.dd_tokens.specs.declared.fault.LineFault.{LineFault}
use Rattle.dd_tokens.specs.declared.fault.LineFault.TheVariants.{NotText, BadForm, UnknownStatement, BadNumber, UnknownPart, Memory}
use Rattle.dd_tokens.specs.declared.token.Token.{Token}
use Rattle.dd_tokens.specs.Lexeme.{lexemes_of}
use Rattle.dd_tokens.specs.Tokens.{AreTokensOf, IsTokenFault}
use Rattle.dd_script.specs.declared.statement.Statement.{Statement}
use Rattle.dd_script.specs.Reads.{IsStatementFault, Reads}

-- the line has tokens that are no statement for this reason
abbrev pub HasNoStatement : LineFault → List ℕ → Type 0
HasNoStatement fault line = (tokens : List Token) × AreTokensOf line tokens × IsStatementFault fault (lexemes_of line tokens)

-- why a line says nothing that is a statement; want of memory is no fault of a line
abbrev pub IsLineFault : LineFault → List ℕ → Type 0
IsLineFault NotText line = IsTokenFault NotText line
IsLineFault BadForm line = IsTokenFault BadForm line ⊎ HasNoStatement BadForm line
IsLineFault UnknownStatement line = HasNoStatement UnknownStatement line
IsLineFault BadNumber line = HasNoStatement BadNumber line
IsLineFault UnknownPart line = HasNoStatement UnknownPart line
IsLineFault Memory line = ⊥

-- the line says this, nothing else, and has no fault
pub record IsOnlyReadingOf (line : List ℕ) (x : Option Statement) : Type 0 where
  pub is : Reads line x
  pub only : (y : Option Statement) → Reads line y → y ≡ x
  pub faultless : (fault : LineFault) → ¬ IsLineFault fault line

-- the line has this fault, no other, and says nothing
pub record IsOnlyLineFaultOf (line : List ℕ) (fault : LineFault) : Type 0 where
  pub is : IsLineFault fault line
  pub only : (other : LineFault) → IsLineFault other line → other ≡ fault
  pub unsaid : (x : Option Statement) → ¬ Reads line x
