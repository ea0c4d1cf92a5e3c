-- A line says one thing, or has one fault.
use Rattle.std.proofs.Common.{◌≡◌, ◌≢◌, ℕ, ◌⊎◌, inl, inr, Result, Ok, Err, IfErr, ⊎_elim, List, Option, refl, sym, subst, ◌∙◌}
use Rattle.dd_tokens.specs.declared.fault.LineFault.{LineFault}
use Rattle.dd_tokens.specs.declared.fault.LineFault.TheVariants.{NotText, BadForm, UnknownStatement, BadNumber, UnknownPart, Memory}
use Rattle.dd_tokens.specs.declared.token.Token.{Token}
use Rattle.dd_tokens.specs.Bytes.{IsText, before_comment}
use Rattle.dd_tokens.specs.Lexeme.{lexemes_of}
use Rattle.dd_tokens.specs.Tokens.{AreTokensOf}
use Rattle.dd_tokens.proofs.TextLemmas.{text_of_tokens}
use Rattle.dd_tokens.proofs.TokensLemmas.{one_cutting}
use Rattle.dd_script.specs.declared.statement.Statement.{Statement}
use Rattle.dd_script.specs.Answers.{HasNoStatement, IsLineFault, IsOnlyLineFaultOf, IsOnlyReadingOf}
use Rattle.dd_script.specs.Reads.{IsStatementFault, Reads, Say}
use Rattle.dd_script.proofs.OneLemmas.{one_reason, said_faultless}
use Rattle.dd_script.proofs.ReadsLemmas.{one_reading}

-- bytes that are no tokens
record HasNoTokens (line : List ℕ) : Type 0 where
  text : IsText line
  none : (tokens : List Token) → AreTokensOf line tokens → ⊥

-- tokens that are no statement
record HasNoForm (fault : LineFault) (line : List ℕ) : Type 0 where
  known : fault ≡ Memory → ⊥
  tokens : List Token
  cut : AreTokensOf line tokens
  why : IsStatementFault fault (lexemes_of line tokens)

-- a line that can't be read is no text, has no tokens, or has tokens that are no statement
data Unreadable (fault : LineFault) (line : List ℕ) : Type 0 where
  no_text : fault ≡ NotText → (IsText line → ⊥) → Unreadable fault line
  no_tokens : fault ≡ BadForm → HasNoTokens line → Unreadable fault line
  no_form : HasNoForm fault line → Unreadable fault line

formless : (fault : LineFault) (line : List ℕ) → (fault ≡ Memory → ⊥) → HasNoStatement fault line → Unreadable fault line
formless fault line known h = no_form (record { known = known; tokens = h.0; cut = h.1; why = h.2 })

unreadable : (fault : LineFault) (line : List ℕ) → IsLineFault fault line → Unreadable fault line
unreadable NotText line h = no_text refl h
unreadable BadForm line h = ⊎_elim (λ bytes. no_tokens refl (record { text = bytes.0; none = bytes.1 })) (formless BadForm line (λ e. absurd (cc))) h
unreadable UnknownStatement line h = formless UnknownStatement line (λ e. absurd (cc)) h
unreadable BadNumber line h = formless BadNumber line (λ e. absurd (cc)) h
unreadable UnknownPart line h = formless UnknownPart line (λ e. absurd (cc)) h
unreadable Memory line h = absurd h

same_tokens : (line : List ℕ) (ts us : List Token) → AreTokensOf line ts → AreTokensOf line us → ts ≡ us
same_tokens line ts us h g = one_cutting 0 (before_comment line) ts us h g

one_unreadable : (d e : LineFault) (line : List ℕ) → Unreadable d line → Unreadable e line → d ≡ e
one_unreadable d e line (no_text is h) (no_text other g) = is ∙ sym other
one_unreadable d e line (no_text is h) (no_tokens other g) = absurd (h g.text)
one_unreadable d e line (no_text is h) (no_form g) = absurd (h (text_of_tokens line g.tokens g.cut))
one_unreadable d e line (no_tokens is h) (no_text other g) = absurd (g h.text)
one_unreadable d e line (no_tokens is h) (no_tokens other g) = is ∙ sym other
one_unreadable d e line (no_tokens is h) (no_form g) = absurd (h.none g.tokens g.cut)
one_unreadable d e line (no_form h) (no_text other g) = absurd (g (text_of_tokens line h.tokens h.cut))
one_unreadable d e line (no_form h) (no_tokens other g) = absurd (g.none h.tokens h.cut)
one_unreadable d e line (no_form h) (no_form g) =
    let same : h.tokens ≡ g.tokens = same_tokens line h.tokens g.tokens h.cut g.cut in
    let why : IsStatementFault d (lexemes_of line g.tokens) = subst (λ (ts : List Token). IsStatementFault d (lexemes_of line ts)) same h.why in
    one_reason d e (lexemes_of line g.tokens) h.known g.known why g.why

unreadable_unsaid : (e : LineFault) (line : List ℕ) (x : Option Statement) → Unreadable e line → Reads line x → ⊥
unreadable_unsaid e line x (no_text is h) g = h (text_of_tokens line g.tokens g.cut)
unreadable_unsaid e line x (no_tokens is h) g = h.none g.tokens g.cut
unreadable_unsaid e line x (no_form h) g =
    let same : g.tokens ≡ h.tokens = same_tokens line g.tokens h.tokens g.cut h.cut in
    let said : Say (lexemes_of line h.tokens) x = subst (λ (ts : List Token). Say (lexemes_of line ts) x) same g.say in
    said_faultless e (lexemes_of line h.tokens) x h.known h.why said

pub one_fault : (d e : LineFault) (line : List ℕ) → IsLineFault d line → IsLineFault e line → d ≡ e
one_fault d e line h g = one_unreadable d e line (unreadable d line h) (unreadable e line g)

pub read_faultless : (e : LineFault) (line : List ℕ) (x : Option Statement) → IsLineFault e line → Reads line x → ⊥
read_faultless e line x h g = unreadable_unsaid e line x (unreadable e line h) g

pub only_reading : (line : List ℕ) (x : Option Statement) → Reads line x → IsOnlyReadingOf line x
only_reading line x reads = record { is = reads; only = λ y other. one_reading line y x other reads; faultless = λ e fault. read_faultless e line x fault reads }

pub only_fault : (line : List ℕ) (fault : LineFault) → IsLineFault fault line → IsOnlyLineFaultOf line fault
only_fault line fault is = record { is = is; only = λ other holds. one_fault other fault line holds is; unsaid = λ x reads. read_faultless fault line x is reads }

-- tokens that are no statement, for a reason that isn't want of memory
pub fault_of_tokens : (e : LineFault) (line : List ℕ) (tokens : List Token) → (e ≡ Memory → ⊥) → AreTokensOf line tokens → IsStatementFault e (lexemes_of line tokens) → IsLineFault e line
fault_of_tokens NotText line tokens known cut why = absurd why
fault_of_tokens BadForm line tokens known cut why = inr (tokens, cut, why)
fault_of_tokens UnknownStatement line tokens known cut why = (tokens, cut, why)
fault_of_tokens BadNumber line tokens known cut why = (tokens, cut, why)
fault_of_tokens UnknownPart line tokens known cut why = (tokens, cut, why)
fault_of_tokens Memory line tokens known cut why = known refl

-- so of an answer
pub faults_of_tokens : (r : Result (Option Statement) LineFault) (line : List ℕ) (tokens : List Token) → AreTokensOf line tokens → IfErr r (λ e. IsStatementFault e (lexemes_of line tokens)) → IfErr r (λ e. e ≢ Memory → IsOnlyLineFaultOf line e)
faults_of_tokens (Ok x) line tokens cut why = tt
faults_of_tokens (Err e) line tokens cut why = λ known. only_fault line e (fault_of_tokens e line tokens known cut why)
