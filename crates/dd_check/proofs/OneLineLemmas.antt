-- A line is taken in one way, or refused for one fault.
use Rattle.std.proofs.Common.{◌≡◌, ℕ, ◌⊎◌, inl, inr, List, Option, Some, None, refl, sym, ap, subst, ◌∙◌}
use Rattle.std.proofs.lemmas.Option.{none-some, same_Some}
use Rattle.dd_tokens.specs.declared.fault.LineFault.{LineFault}
use Rattle.dd_tokens.specs.declared.fault.LineFault.TheVariants as unread
use Rattle.dd_script.specs.declared.statement.Statement.{Statement}
use Rattle.dd_script.specs.Answers.{IsLineFault}
use Rattle.dd_script.specs.Reads.{Reads}
use Rattle.dd_script.proofs.AnswersLemmas.{one_fault, read_faultless}
use Rattle.dd_script.proofs.ReadsLemmas.{one_reading}
use Rattle.dd_check.specs.declared.fault.Fault.{Fault}
use Rattle.dd_check.specs.declared.kind.Kind.{Kind}
use Rattle.dd_check.specs.declared.kind.Kind.TheVariants.{NotText, BadForm, UnknownStatement, BadNumber, UnknownPart, UnendedRegion}
use Rattle.dd_check.specs.Above.{Above, found_by}
use Rattle.dd_check.specs.Effects.{Enters}
use Rattle.dd_check.specs.Faults.{AreClear, IsFirstOf, IsRefused, IsTaken, IsUnread, Plain, kinds}
use Rattle.dd_check.proofs.OneEnteredLemmas.{one_entered}
use Rattle.dd_check.proofs.OneFoundLemmas.{found_not_clear, one_found, same_fault}

-- the kind of a line that can't be read, by its fault. Want of memory is none, and any kind will do there
kind_of : LineFault → Kind
kind_of unread.NotText = NotText
kind_of unread.BadForm = BadForm
kind_of unread.UnknownStatement = UnknownStatement
kind_of unread.BadNumber = BadNumber
kind_of unread.UnknownPart = UnknownPart
kind_of unread.Memory = UnendedRegion

-- a line that can't be read has a fault
record HasFault (kind : Kind) (line : List ℕ) : Type 0 where
  fault : LineFault
  kind_is : kind ≡ kind_of fault
  holds : IsLineFault fault line

fault_of : (kind : Kind) (line : List ℕ) → IsUnread kind line → HasFault kind line
unfolding kind_of
fault_of NotText line h = record { fault = unread.NotText; kind_is = refl; holds = h }
fault_of BadForm line h = record { fault = unread.BadForm; kind_is = refl; holds = h }
fault_of UnknownStatement line h = record { fault = unread.UnknownStatement; kind_is = refl; holds = h }
fault_of BadNumber line h = record { fault = unread.BadNumber; kind_is = refl; holds = h }
fault_of UnknownPart line h = record { fault = unread.UnknownPart; kind_is = refl; holds = h }
fault_of _ line h = absurd h

one_unread : (j k : Kind) (line : List ℕ) → IsUnread j line → IsUnread k line → j ≡ k
one_unread j k line h g =
    let f = fault_of j line h in
    let e = fault_of k line g in
    f.kind_is ∙ ap kind_of (one_fault f.fault e.fault line f.holds e.holds) ∙ sym e.kind_is

unread_unsaid : (k : Kind) (line : List ℕ) (x : Option Statement) → IsUnread k line → Reads line x → ⊥
unread_unsaid k line x h g = let f = fault_of k line h in read_faultless f.fault line x f.holds g

-- what a line says
same_said : (line : List ℕ) (x y : Statement) → Reads line (Some x) → Reads line (Some y) → x ≡ y
same_said line x y h g = same_Some x y (one_reading line (Some x) (Some y) h g)

said_or_not : (line : List ℕ) (x : Statement) → Reads line None → Reads line (Some x) → ⊥
said_or_not line x h g = none-some x (one_reading line None (Some x) h g)

one_taking : (n : ℕ) (s : Above) (line : List ℕ) (x y : Statement) (a b : Above) → Reads line (Some x) → Enters n (found_by s x) x a → Reads line (Some y) → Enters n (found_by s y) y b → a ≡ b
one_taking n s line x y a b h enters g others =
    one_entered n (found_by s y) y a b (subst (λ (z : Statement). Enters n (found_by s z) z a) (same_said line x y h g) enters) others

pub one_taken : (n : ℕ) (s : Above) (line : List ℕ) (a b : Above) → IsTaken n s line a → IsTaken n s line b → a ≡ b
one_taken n s line a b (inl h) (inl g) = h.1 ∙ sym g.1
one_taken n s line a b (inl h) (inr g) = absurd (said_or_not line g.0 h.0 g.1)
one_taken n s line a b (inr h) (inl g) = absurd (said_or_not line h.0 g.0 h.1)
one_taken n s line a b (inr h) (inr g) = one_taking n s line h.0 g.0 a b h.1 h.3 g.1 g.3

abbrev Found : ℕ → Above → List ℕ → Fault → Type 0
Found n s line fault = (x : Statement) × Reads line (Some x) × IsFirstOf n (found_by s x) x kinds fault

abbrev Reason : ℕ → Above → List ℕ → Fault → Type 0
Reason n s line fault = Plain fault.a fault.b (IsUnread fault.kind line) ⊎ Found n s line fault

one_finding : (n : ℕ) (s : Above) (line : List ℕ) (f g : Fault) → f.line ≡ g.line → Found n s line f → Found n s line g → f ≡ g
one_finding n s line f g same h j =
    one_found n (found_by s j.0) j.0 kinds f g same (subst (λ (z : Statement). IsFirstOf n (found_by s z) z kinds f) (same_said line h.0 j.0 h.1 j.1) h.2) j.2

one_cause : (n : ℕ) (s : Above) (line : List ℕ) (f g : Fault) → f.line ≡ g.line → Reason n s line f → Reason n s line g → f ≡ g
one_cause n s line f g same (inl h) (inl j) = same_fault f g same (one_unread f.kind g.kind line h.0 j.0) (h.1 ∙ sym j.1) (h.2 ∙ sym j.2)
one_cause n s line f g same (inl h) (inr j) = absurd (unread_unsaid f.kind line (Some j.0) h.0 j.1)
one_cause n s line f g same (inr h) (inl j) = absurd (unread_unsaid g.kind line (Some h.0) j.0 h.1)
one_cause n s line f g same (inr h) (inr j) = one_finding n s line f g same h j

pub one_refused : (n : ℕ) (s : Above) (line : List ℕ) (f g : Fault) → IsRefused n s line f → IsRefused n s line g → f ≡ g
one_refused n s line f g h j = one_cause n s line f g (h.0 ∙ sym j.0) h.1 j.1

abbrev Clear : ℕ → Above → List ℕ → Above → Type 0
Clear n s line after = (x : Statement) × Reads line (Some x) × AreClear n (found_by s x) x kinds × Enters n (found_by s x) x after

clear_unfound : (n : ℕ) (s : Above) (line : List ℕ) (f : Fault) (a : Above) → Found n s line f → Clear n s line a → ⊥
clear_unfound n s line f a h g =
    found_not_clear n (found_by s g.0) g.0 kinds f (subst (λ (z : Statement). IsFirstOf n (found_by s z) z kinds f) (same_said line h.0 g.0 h.1 g.1) h.2) g.2

refused_not : (n : ℕ) (s : Above) (line : List ℕ) (f : Fault) (a : Above) → Reason n s line f → (Reads line None × (a ≡ s)) ⊎ Clear n s line a → ⊥
refused_not n s line f a (inl h) (inl g) = unread_unsaid f.kind line None h.0 g.0
refused_not n s line f a (inl h) (inr g) = unread_unsaid f.kind line (Some g.0) h.0 g.1
refused_not n s line f a (inr h) (inl g) = said_or_not line h.0 g.0 h.1
refused_not n s line f a (inr h) (inr g) = clear_unfound n s line f a h g

pub refused_not_taken : (n : ℕ) (s : Above) (line : List ℕ) (f : Fault) (a : Above) → IsRefused n s line f → IsTaken n s line a → ⊥
refused_not_taken n s line f a h g = refused_not n s line f a h.1 g
