-- A line says one thing at most, and which answers of its form say what.
use Rattle.std.proofs.Common.{◌≡◌, ◌↔◌, ℕ, suc, ◌<◌, true, List, [], ◌∷◌, length, Option, Some, None, refl, sym, ap, subst, ◌∙◌, arith}
use Rattle.std.proofs.lemmas.Option.{same_Some, none-some}
use Rattle.dd_tokens.specs.declared.token.Token.{Token}
use Rattle.dd_tokens.specs.declared.fault.LineFault.{LineFault}
use Rattle.dd_tokens.specs.declared.fault.LineFault.TheVariants.{NotText, BadForm, UnknownStatement, BadNumber, UnknownPart, Memory}
use Rattle.dd_tokens.specs.Bytes.{before_comment}
use Rattle.dd_tokens.specs.Lexeme.{Lexeme, word, number, mark, lexemes_of}
use Rattle.std.specs.List.{All, AllByRecursion}
use Rattle.dd_tokens.specs.Tokens.{AreTokensOf}
use Rattle.dd_tokens.specs.TokenIn.{IsTokenIn}
use Rattle.dd_tokens.proofs.TokensLemmas.{one_cutting, tokens_of_line_in}
use Rattle.dd_script.specs.declared.written.Written.{Written}
use Rattle.dd_script.specs.declared.keyword.Keyword.{Keyword}
use Rattle.dd_script.specs.declared.statement.Statement.{Statement}
use Rattle.dd_script.specs.Front.{word_at}
use Rattle.dd_script.specs.Keywords.{keyword_word}
use Rattle.dd_script.specs.FormSteps.{form_by}
use Rattle.dd_script.specs.Spelling.{spelling}
use Rattle.dd_script.specs.Numbers.{numbers_fit}
use Rattle.dd_script.specs.PieceFaults.{IsPartFault}
use Rattle.dd_script.specs.Reads.{meaning, Say, Reads, BeginUnknown, HaveBadForm, IsFormFault, IsStatementFault}
use Rattle.dd_script.proofs.KeywordsLemmas.{one_keyword}
use Rattle.dd_script.proofs.FrontLemmas.{word_takes}
use Rattle.dd_script.proofs.FormStepsLemmas.{form_takes, read_again}

-- what was spelled is read in one way
reads_as : (x : Written) (w : List ℕ) (rest : List Lexeme) (k : Keyword) → word w ∷ rest ≡ spelling x → w ≡ keyword_word k → form_by k rest ≡ Some x
unfolding word_at
reads_as x w rest k e is =
    let r = read_again x in
    let front : (w, rest) ≡ (keyword_word r.keyword, r.rest) = same_Some _ _ (ap word_at (e ∙ r.spelled)) in
    let word_same : keyword_word k ≡ keyword_word r.keyword = sym is ∙ ap (λ (p : List ℕ × List Lexeme). p.0) front in
    let key_same : k ≡ r.keyword = same_Some _ _ (one_keyword k r.keyword word_same) in
    ap (λ j. form_by j rest) key_same ∙ ap (λ (p : List ℕ × List Lexeme). form_by r.keyword p.1) front ∙ r.again

pub one_form : (x y : Written) → spelling x ≡ spelling y → x ≡ y
one_form x y e =
    let r = read_again x in
    same_Some _ _ (sym r.again ∙ reads_as y (keyword_word r.keyword) r.rest r.keyword (sym r.spelled ∙ e) refl)

-- a statement is not spelled by no tokens
spelled_by_some : (x : Written) → [] ≡ spelling x → ⊥
spelled_by_some x e = let r = read_again x in absurd (nothing_first _ (e ∙ r.spelled))
  where
    nothing_first : (l : Lexeme × List Lexeme) → [] ≡ l.0 ∷ l.1 → ⊥
    nothing_first l e = absurd cc

one_say : (ls : List Lexeme) (x y : Option Statement) → Say ls x → Say ls y → x ≡ y
one_say ls None None h g = refl
one_say ls None (Some y) h g = absurd (spelled_by_some g.form (sym h ∙ g.spelled))
one_say ls (Some x) None h g = absurd (spelled_by_some h.form (sym g ∙ h.spelled))
one_say ls (Some x) (Some y) h g = sym h.means ∙ ap meaning (one_form h.form g.form (sym h.spelled ∙ g.spelled)) ∙ g.means

pub one_reading : (line : List ℕ) (x y : Option Statement) → Reads line x → Reads line y → x ≡ y
one_reading line x y h g =
    let same : h.tokens ≡ g.tokens = one_cutting 0 (before_comment line) h.tokens g.tokens h.cut g.cut in
    one_say (lexemes_of line g.tokens) x y (subst (λ ts. Say (lexemes_of line ts) x) same h.say) g.say

-- ---- the form of some tokens

pub some_lexemes : (line : List ℕ) (ts : List Token) → 0 < length ts → lexemes_of line ts ≡ [] → ⊥
some_lexemes line [] l e = absurd (omega arith)
some_lexemes line (t ∷ ts) l e = absurd cc

-- no statement begins with another token than a word
pub no_word : (ls : List Lexeme) → (ls ≡ [] → ⊥) → None ≡ word_at ls → HaveBadForm ls
unfolding word_at
no_word [] some e = absurd (some refl)
no_word (word w ∷ rest) some e = absurd cc
no_word (number z ∷ rest) some e = record { some = some; known = λ h. h; unspelled = λ x s. none-some _ (ap word_at (s ∙ (read_again x).spelled)) }
no_word (mark b ∷ rest) some e = record { some = some; known = λ h. h; unspelled = λ x s. none-some _ (ap word_at (s ∙ (read_again x).spelled)) }

pub unknown : (ls : List Lexeme) (w : List ℕ) (rest : List Lexeme) → Some (w, rest) ≡ word_at ls → ((k : Keyword) → (None ≡ Some k) ↔ (w ≡ keyword_word k)) → BeginUnknown ls
unknown ls w rest e none = subst BeginUnknown (sym (word_takes ls (w, rest) (sym e))) (λ k is. none-some _ ((none k).1 is))

pub form_found : (ls : List Lexeme) (w : List ℕ) (rest : List Lexeme) (k : Keyword) (x : Written) → Some (w, rest) ≡ word_at ls → w ≡ keyword_word k → form_by k rest ≡ Some x → ls ≡ spelling x
form_found ls w rest k x e is f = word_takes ls (w, rest) (sym e) ∙ ap (λ v. word v ∷ rest) is ∙ form_takes k rest x f

pub form_missing : (ls : List Lexeme) (w : List ℕ) (rest : List Lexeme) (k : Keyword) → Some (w, rest) ≡ word_at ls → w ≡ keyword_word k → form_by k rest ≡ None → HaveBadForm ls
form_missing ls w rest k e is f =
    let front : ls ≡ word w ∷ rest = word_takes ls (w, rest) (sym e) in
    subst HaveBadForm (sym front) (record {
      some = λ n. absurd cc;
      known = λ h. h k is;
      unspelled = λ x s. none-some _ (sym f ∙ reads_as x w rest k s is);
    })

-- ---- faults

pub form_fault : (e : LineFault) (ls : List Lexeme) → IsFormFault e ls → IsStatementFault e ls
form_fault NotText ls h = h
form_fault BadForm ls h = h
form_fault UnknownStatement ls h = h
form_fault BadNumber ls h = absurd h
form_fault UnknownPart ls h = absurd h
form_fault Memory ls h = h

pub part_fault : (e : LineFault) (ls : List Lexeme) (x : Written) → ls ≡ spelling x → numbers_fit x ≡ true → IsPartFault e (meaning x) → IsStatementFault e ls
part_fault NotText ls x s f h = h
part_fault BadForm ls x s f h = absurd h
part_fault UnknownStatement ls x s f h = absurd h
part_fault BadNumber ls x s f h = absurd h
part_fault UnknownPart ls x s f h = record { form = x; spelled = s; fits = f; unknown = h }
part_fault Memory ls x s f h = h

pub no_lexemes : (line : List ℕ) (ts : List Token) → length ts ≡ 0 → lexemes_of line ts ≡ []
no_lexemes line [] l = refl
no_lexemes line (t ∷ ts) l = absurd (omega arith)

by_recursion : {X : Type 0} (P : X → Type 0) (xs : List X) → All P xs → AllByRecursion P xs
by_recursion P [] all = tt
by_recursion P (x ∷ xs) all = (all 0 x (omega arith), by_recursion P xs (λ k d l. all (suc k) d (omega arith)))

pub tokens_inside : (line : List ℕ) (ts : List Token) → AreTokensOf line ts → AllByRecursion (IsTokenIn line) ts
tokens_inside line ts cut = by_recursion (IsTokenIn line) ts (tokens_of_line_in line ts cut)
