-- Tokens say one thing alone: a statement, nothing, or why they are none.
use Rattle.std.proofs.Common.{◌≡◌, true, false, true≢false, List, [], Option, Some, None, refl, sym, ap, subst, ◌∙◌}
use Rattle.std.proofs.lemmas.Option.{none-some}
use Rattle.dd_tokens.specs.declared.fault.LineFault.{LineFault}
use Rattle.dd_tokens.specs.declared.fault.LineFault.TheVariants.{NotText, BadForm, UnknownStatement, BadNumber, UnknownPart, Memory}
use Rattle.dd_tokens.specs.Lexeme.{Lexeme}
use Rattle.dd_script.specs.declared.written.Written.{Written}
use Rattle.dd_script.specs.declared.statement.Statement.{Statement}
use Rattle.dd_script.specs.Spelling.{spelling}
use Rattle.dd_script.specs.Numbers.{numbers_fit}
use Rattle.dd_script.specs.Reads.{BeginUnknown, HaveBadForm, HaveBadNumber, HaveUnknownPart, IsStatementFault, Say, SayStatement, meaning}
use Rattle.dd_script.proofs.FormStepsLemmas.{read_again}
use Rattle.dd_script.proofs.ReadsLemmas.{one_form}

begun : (form : Written) → BeginUnknown (spelling form) → ⊥
begun form h = let r = read_again form in (subst BeginUnknown r.spelled h) r.keyword refl

-- a form begins with a keyword
begun_known : (ls : List Lexeme) (form : Written) → ls ≡ spelling form → BeginUnknown ls → ⊥
begun_known ls form is h = begun form (subst BeginUnknown is h)

no_form : (form : Written) → [] ≡ spelling form → ⊥
no_form form is = let r = read_again form in absurd (cc (is ∙ r.spelled))

same_form : (ls : List Lexeme) (x y : Written) → ls ≡ spelling x → ls ≡ spelling y → x ≡ y
same_form ls x y h g = one_form x y (sym h ∙ g)

-- no form has numbers that fit and numbers that don't
fit_or_not : (ls : List Lexeme) (x y : Written) → ls ≡ spelling x → ls ≡ spelling y → numbers_fit x ≡ true → numbers_fit y ≡ false → ⊥
fit_or_not ls x y h g fits out = true≢false (sym fits ∙ ap numbers_fit (same_form ls x y h g) ∙ out)

-- no form has a meaning and none
means_or_not : (ls : List Lexeme) (x y : Written) (s : Statement) → ls ≡ spelling x → ls ≡ spelling y → meaning x ≡ Some s → meaning y ≡ None → ⊥
means_or_not ls x y s h g means unknown = none-some s (sym unknown ∙ ap meaning (sym (same_form ls x y h g)) ∙ means)

-- tokens of which it is known why they are no statement are none
statement_faultless : (e : LineFault) (ls : List Lexeme) (s : Statement) → (e ≡ Memory → ⊥) → IsStatementFault e ls → SayStatement ls s → ⊥
statement_faultless NotText ls s known h g = h
statement_faultless BadForm ls s known h g = h.unspelled g.form g.spelled
statement_faultless UnknownStatement ls s known h g = begun_known ls g.form g.spelled h
statement_faultless BadNumber ls s known h g = fit_or_not ls g.form h.form g.spelled h.spelled g.fits h.out
statement_faultless UnknownPart ls s known h g = means_or_not ls g.form h.form s g.spelled h.spelled g.means h.unknown
statement_faultless Memory ls s known h g = known refl

nothing_faultless : (e : LineFault) (ls : List Lexeme) → (e ≡ Memory → ⊥) → IsStatementFault e ls → ls ≡ [] → ⊥
nothing_faultless NotText ls known h none = h
nothing_faultless BadForm ls known h none = h.some none
nothing_faultless UnknownStatement ls known h none = subst BeginUnknown none h
nothing_faultless BadNumber ls known h none = no_form h.form (sym none ∙ h.spelled)
nothing_faultless UnknownPart ls known h none = no_form h.form (sym none ∙ h.spelled)
nothing_faultless Memory ls known h none = known refl

pub said_faultless : (e : LineFault) (ls : List Lexeme) (x : Option Statement) → (e ≡ Memory → ⊥) → IsStatementFault e ls → Say ls x → ⊥
said_faultless e ls None known h g = nothing_faultless e ls known h g
said_faultless e ls (Some s) known h g = statement_faultless e ls s known h g

only_bad_form : (e : LineFault) (ls : List Lexeme) → (e ≡ Memory → ⊥) → HaveBadForm ls → IsStatementFault e ls → BadForm ≡ e
only_bad_form NotText ls known h g = absurd g
only_bad_form BadForm ls known h g = refl
only_bad_form UnknownStatement ls known h g = absurd (h.known g)
only_bad_form BadNumber ls known h g = absurd (h.unspelled g.form g.spelled)
only_bad_form UnknownPart ls known h g = absurd (h.unspelled g.form g.spelled)
only_bad_form Memory ls known h g = absurd (known refl)

only_unknown_statement : (e : LineFault) (ls : List Lexeme) → (e ≡ Memory → ⊥) → BeginUnknown ls → IsStatementFault e ls → UnknownStatement ≡ e
only_unknown_statement NotText ls known h g = absurd g
only_unknown_statement BadForm ls known h g = absurd (g.known h)
only_unknown_statement UnknownStatement ls known h g = refl
only_unknown_statement BadNumber ls known h g = absurd (begun_known ls g.form g.spelled h)
only_unknown_statement UnknownPart ls known h g = absurd (begun_known ls g.form g.spelled h)
only_unknown_statement Memory ls known h g = absurd (known refl)

only_bad_number : (e : LineFault) (ls : List Lexeme) → (e ≡ Memory → ⊥) → HaveBadNumber ls → IsStatementFault e ls → BadNumber ≡ e
only_bad_number NotText ls known h g = absurd g
only_bad_number BadForm ls known h g = absurd (g.unspelled h.form h.spelled)
only_bad_number UnknownStatement ls known h g = absurd (begun_known ls h.form h.spelled g)
only_bad_number BadNumber ls known h g = refl
only_bad_number UnknownPart ls known h g = absurd (fit_or_not ls g.form h.form g.spelled h.spelled g.fits h.out)
only_bad_number Memory ls known h g = absurd (known refl)

only_unknown_part : (e : LineFault) (ls : List Lexeme) → (e ≡ Memory → ⊥) → HaveUnknownPart ls → IsStatementFault e ls → UnknownPart ≡ e
only_unknown_part NotText ls known h g = absurd g
only_unknown_part BadForm ls known h g = absurd (g.unspelled h.form h.spelled)
only_unknown_part UnknownStatement ls known h g = absurd (begun_known ls h.form h.spelled g)
only_unknown_part BadNumber ls known h g = absurd (fit_or_not ls h.form g.form h.spelled g.spelled h.fits g.out)
only_unknown_part UnknownPart ls known h g = refl
only_unknown_part Memory ls known h g = absurd (known refl)

-- tokens that are no statement are none for one reason
pub one_reason : (d e : LineFault) (ls : List Lexeme) → (d ≡ Memory → ⊥) → (e ≡ Memory → ⊥) → IsStatementFault d ls → IsStatementFault e ls → d ≡ e
one_reason NotText e ls here known h g = absurd h
one_reason BadForm e ls here known h g = only_bad_form e ls known h g
one_reason UnknownStatement e ls here known h g = only_unknown_statement e ls known h g
one_reason BadNumber e ls here known h g = only_bad_number e ls known h g
one_reason UnknownPart e ls here known h g = only_unknown_part e ls known h g
one_reason Memory e ls here known h g = absurd (here refl)
