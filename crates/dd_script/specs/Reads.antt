-- What a line says: at most one statement.
use Rattle.std.specs.Prelude.{◌≡◌, ℕ, true, false, List, [], ◌∷◌, Option, None, Some, unsigned_abs}
use Rattle.dd_causes.specs.Steps.{◌>>=◌}
use Rattle.dd_tokens.specs.declared.token.Token.{Token}
use Rattle.dd_tokens.specs.declared.fault.LineFault.{LineFault}
use Rattle.dd_tokens.specs.declared.fault.LineFault.TheVariants.{NotText, BadForm, UnknownStatement, BadNumber, UnknownPart, Memory}
use Rattle.dd_tokens.specs.Tokens.{AreTokensOf}
use Rattle.dd_tokens.specs.Lexeme.{Lexeme, word, number, mark, lexemes_of}
use Rattle.dd_blocks.specs.declared.fill.Fill.{Fill}
use Rattle.dd_blocks.specs.declared.fill.Fill.TheVariants as fill
use Rattle.dd_script.specs.declared.filling.Filling.{Filling}
use Rattle.dd_script.specs.declared.filling.Filling.TheVariants.{Zeros, Const, Iota, Lcg}
use Rattle.dd_script.specs.declared.written.Written.{Written}
use Rattle.dd_script.specs.declared.written.Written.TheVariants as written
use Rattle.dd_script.specs.declared.statement.Statement.{Statement}
use Rattle.dd_script.specs.declared.statement.Statement.TheVariants.{Space, Proc, PolicyIs, PlaceIs, Array, Same, Drop, MoveTo, Region, Task, End, Print, Sum, Moved}
use Rattle.dd_script.specs.declared.keyword.Keyword.{Keyword}
use Rattle.dd_script.specs.Keywords.{keyword_word}
use Rattle.dd_script.specs.Spelling.{spelling}
use Rattle.dd_script.specs.Numbers.{numbers_fit}
use Rattle.dd_script.specs.Pieces.{gathered, pieces_of}

abbrev pub fill_of : Filling → Fill
fill_of Zeros = fill.Zeros
fill_of (Const k) = fill.Const k
fill_of Iota = fill.Iota
fill_of (Lcg k) = fill.Lcg k

-- the statement, or `None` where a word of an argument is unknown
unfoldable pub meaning : Written → Option Statement
meaning (written.Space name limit) = Some (Space name (unsigned_abs limit))
meaning (written.Proc name on) = Some (Proc name on)
meaning (written.PolicyIs p) = Some (PolicyIs p)
meaning (written.PlaceIs r) = Some (PlaceIs r)
meaning (written.Array name rows cols brows bcols f) = Some (Array name rows cols brows bcols (fill_of f))
meaning (written.Same name old) = Some (Same name old)
meaning (written.Drop name) = Some (Drop name)
meaning (written.MoveTo name to) = Some (MoveTo name to)
meaning written.Region = Some Region
meaning (written.Task kernel scalar arguments) = gathered pieces_of arguments >>= λ pieces. Some (Task kernel scalar pieces)
meaning written.End = Some End
meaning (written.Print name) = Some (Print name)
meaning (written.Sum name) = Some (Sum name)
meaning written.Moved = Some Moved

-- the tokens spell a statement whose numbers fit and whose words are known
pub record SayStatement (ls : List Lexeme) (x : Statement) : Type 0 where
  pub form : Written
  pub spelled : ls ≡ spelling form
  pub fits : numbers_fit form ≡ true
  pub means : meaning form ≡ Some x

-- no tokens say nothing
abbrev pub Say : List Lexeme → Option Statement → Type 0
Say ls None = ls ≡ []
Say ls (Some x) = SayStatement ls x

-- the line, cut into its tokens, says x, or nothing
pub record Reads (line : List ℕ) (x : Option Statement) : Type 0 where
  pub tokens : List Token
  pub cut : AreTokensOf line tokens
  pub say : Say (lexemes_of line tokens) x

-- the first token is a word that begins no statement
abbrev pub BeginUnknown : List Lexeme → Type 0
BeginUnknown [] = ⊥
BeginUnknown (word w ∷ rest) = (k : Keyword) → w ≡ keyword_word k → ⊥
BeginUnknown (number z ∷ rest) = ⊥
BeginUnknown (mark b ∷ rest) = ⊥

-- there are tokens, no unknown statement is begun, and they spell none
pub record HaveBadForm (ls : List Lexeme) : Type 0 where
  pub some : ls ≡ [] → ⊥
  pub known : BeginUnknown ls → ⊥
  pub unspelled : (form : Written) → ls ≡ spelling form → ⊥

-- the tokens spell a statement, and a number is out of range
pub record HaveBadNumber (ls : List Lexeme) : Type 0 where
  pub form : Written
  pub spelled : ls ≡ spelling form
  pub out : numbers_fit form ≡ false

-- the tokens spell a statement, the numbers fit, and a word of an argument is unknown
pub record HaveUnknownPart (ls : List Lexeme) : Type 0 where
  pub form : Written
  pub spelled : ls ≡ spelling form
  pub fits : numbers_fit form ≡ true
  pub unknown : meaning form ≡ None

-- why tokens have no form. Want of memory comes for no reason here
abbrev pub IsFormFault : LineFault → List Lexeme → Type 0
IsFormFault BadForm ls = HaveBadForm ls
IsFormFault UnknownStatement ls = BeginUnknown ls
IsFormFault Memory ls = Unit {0}
IsFormFault NotText ls = ⊥
IsFormFault BadNumber ls = ⊥
IsFormFault UnknownPart ls = ⊥

-- why tokens say nothing that is a statement. Want of memory comes for no reason here
abbrev pub IsStatementFault : LineFault → List Lexeme → Type 0
IsStatementFault NotText ls = ⊥
IsStatementFault BadForm ls = HaveBadForm ls
IsStatementFault UnknownStatement ls = BeginUnknown ls
IsStatementFault BadNumber ls = HaveBadNumber ls
IsStatementFault UnknownPart ls = HaveUnknownPart ls
IsStatementFault Memory ls = Unit {0}
