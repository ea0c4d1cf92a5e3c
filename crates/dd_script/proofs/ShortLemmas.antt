-- What a line says on the machine is short.
use Rattle.std.proofs.Common.{◌≡◌, ℕ, ◌≤◌, true, nat_le, List, length, ℤ, pos, negsuc, Option, None, Some, subst, arith, unsigned_abs}
use Rattle.std.specs.List.{All}
use Rattle.std.proofs.lemmas.Bool.{and_parts, leb-true}
use Rattle.std.proofs.lemmas.List.Elements.{All-map, All-weaker}
use Rattle.std.proofs.lemmas.Option.{same_Some}
use Rattle.dd_causes.specs.Steps.{◌>>=◌}
use Rattle.dd_tokens.specs.declared.token.Token.{Token}
use Rattle.dd_tokens.specs.declared.token.TokenKind.{TokenKind}
use Rattle.dd_tokens.specs.declared.token.TokenKind.TheVariants as kinds
use Rattle.dd_tokens.specs.Lexeme.{Lexeme, lexeme_by_kind, lexeme_of, lexemes_of, mark, number, token_bytes, word}
use Rattle.dd_tokens.specs.TokenIn.{AreBytesOf, IsTokenIn}
use Rattle.dd_tokens.specs.Tokens.{AreTokensOf}
use Rattle.dd_tokens.proofs.TokensLemmas.{tokens_of_line_in}
use Rattle.dd_blocks.specs.Limits.{name_limit, space_limit}
use Rattle.dd_script.specs.declared.piece.Piece.{Piece}
use Rattle.dd_script.specs.declared.statement.Statement.{Statement}
use Rattle.dd_script.specs.declared.statement.Statement.TheVariants.{Space, Proc, PolicyIs, PlaceIs, Same, Drop, MoveTo, Region, Task, End, Print, Sum, Moved}
use Rattle.dd_script.specs.declared.written.Written.{Written}
use Rattle.dd_script.specs.declared.written.Written.TheVariants as written
use Rattle.dd_script.specs.Numbers.{is_limit, numbers_fit}
use Rattle.dd_script.specs.Reads.{Reads, meaning}
use Rattle.dd_script.specs.Spelling.{spelling}
use Rattle.dd_script.specs.Short.{IsShort}

-- a word has 64 bytes at most
abbrev IsShortLexeme : Lexeme → Type 0
IsShortLexeme (word w) = length w ≤ name_limit
IsShortLexeme (number z) = Unit {0}
IsShortLexeme (mark b) = Unit {0}

short_lexeme : (kind : TokenKind) (bs : List ℕ) → AreBytesOf kind bs → IsShortLexeme (lexeme_by_kind kind bs)
short_lexeme kinds.Word bs are = are.2
short_lexeme kinds.Number bs are = tt
short_lexeme kinds.Mark bs are = tt

short_lexemes : (line : List ℕ) (tokens : List Token) → AreTokensOf line tokens → All IsShortLexeme (lexemes_of line tokens)
short_lexemes line tokens cut = All-map IsShortLexeme (lexeme_of line) tokens
    (All-weaker (IsTokenIn line) (λ (t : Token). IsShortLexeme (lexeme_of line t)) (λ t inside. short_lexeme t.kind (token_bytes line t) inside.by_kind) tokens (tokens_of_line_in line tokens cut))

limit_is : (z : ℤ) → is_limit z ≡ true → (1 ≤ unsigned_abs z) × (unsigned_abs z ≤ space_limit)
limit_is (pos n) within =
    let parts : (nat_le 1 n ≡ true) × (nat_le n space_limit ≡ true) = and_parts (nat_le 1 n) (nat_le n space_limit) within in
    (leb-true 1 n parts.0, leb-true n space_limit parts.1)
limit_is (negsuc n) within = absurd (cc)

said : (a x : Statement) → IsShort a → Some a ≡ Some x → IsShort x
said a x short is = subst IsShort (same_Some a x is) short

task_said : (kernel : List ℕ) (scalar : Option ℤ) (o : Option (List Piece)) (x : Statement) → (o >>= λ pieces. Some (Task kernel scalar pieces)) ≡ Some x → IsShort x
task_said kernel scalar None x is = absurd (cc)
task_said kernel scalar (Some pieces) x is = said (Task kernel scalar pieces) x tt is

short_form : (form : Written) (x : Statement) → All IsShortLexeme (spelling form) → numbers_fit form ≡ true → meaning form ≡ Some x → IsShort x
unfolding meaning
short_form (written.Space name limit) x short fits means = let bounds : (1 ≤ unsigned_abs limit) × (unsigned_abs limit ≤ space_limit) = limit_is limit fits in said (Space name (unsigned_abs limit)) x (short 1 (mark 0) (omega arith), bounds.0, bounds.1) means
short_form (written.Proc name on) x short fits means = said (Proc name on) x (short 1 (mark 0) (omega arith)) means
short_form (written.PolicyIs p) x short fits means = said (PolicyIs p) x tt means
short_form (written.PlaceIs r) x short fits means = said (PlaceIs r) x tt means
short_form (written.Array name rows cols brows bcols f) x short fits means = said _ x tt means
short_form (written.Same name old) x short fits means = said (Same name old) x tt means
short_form (written.Drop name) x short fits means = said (Drop name) x tt means
short_form (written.MoveTo name to) x short fits means = said (MoveTo name to) x tt means
short_form written.Region x short fits means = said Region x tt means
short_form (written.Task kernel scalar arguments) x short fits means = task_said kernel scalar _ x means
short_form written.End x short fits means = said End x tt means
short_form (written.Print name) x short fits means = said (Print name) x tt means
short_form (written.Sum name) x short fits means = said (Sum name) x (short 1 (mark 0) (omega arith)) means
short_form written.Moved x short fits means = said Moved x tt means

pub short_reading : (line : List ℕ) (x : Statement) → Reads line (Some x) → IsShort x
short_reading line x reads = short_form reads.say.form x (subst (λ (ls : List Lexeme). All IsShortLexeme ls) reads.say.spelled (short_lexemes line reads.tokens reads.cut)) reads.say.fits reads.say.means
