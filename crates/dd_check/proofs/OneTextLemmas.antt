-- A text has one Plan or one fault.
use Rattle.std.proofs.Common.{◌≡◌, ℕ, ◌+◌, ◌⊎◌, inl, inr, ⊎_elim, List, [], ◌∷◌, sym, ap, subst, ◌∙◌, arith}
use Rattle.std.proofs.lemmas.Option.{none-some, same_Some}
use Rattle.dd_blocks.specs.declared.plan.Plan.{Plan}
use Rattle.dd_check.specs.Lines.{lines_of}
use Rattle.dd_check.specs.declared.fault.Fault.{Fault}
use Rattle.dd_check.specs.declared.kind.Kind.TheVariants.{UnendedRegion}
use Rattle.dd_check.specs.Above.{Above, OpenRegion, nothing_above, settle}
use Rattle.dd_check.specs.Faults.{AreTaken, IsFault, IsOnlyFaultOf, IsOnlyPlanOf, IsPlanOf, IsRefused, IsRefusedIn, IsTaken, IsUnended}
use Rattle.dd_check.proofs.OneLineLemmas.{one_refused, one_taken, refused_not_taken}

one_after : (n : ℕ) (s : Above) (lines : List (List ℕ)) (a b : Above) → AreTaken n s lines a → AreTaken n s lines b → a ≡ b
one_after n s [] a b h g = h ∙ sym g
one_after n s (line ∷ lines) a b h g =
    let same : h.0 ≡ g.0 = one_taken n s line h.0 g.0 h.1 g.1 in
    one_after (n + 1) g.0 lines a b (subst (λ (next : Above). AreTaken (n + 1) next lines a) same h.2) g.2

-- what stands below a line that is taken
abbrev Below : (ℕ → Above → List (List ℕ) → Type 0) → ℕ → Above → List ℕ → List (List ℕ) → Type 0
Below rest n s line lines = (next : Above) × IsTaken n s line next × rest (n + 1) next lines

abbrev RefusedIn : Fault → ℕ → Above → List (List ℕ) → Type 0
RefusedIn f n s lines = IsRefusedIn n s lines f

refused_or_taken : (n : ℕ) (s : Above) (lines : List (List ℕ)) (f : Fault) (a : Above) → IsRefusedIn n s lines f → AreTaken n s lines a → ⊥
refused_or_taken n s [] f a h g = h
refused_or_taken n s (line ∷ lines) f a h g = ⊎_elim
    (λ (here : IsRefused n s line f). refused_not_taken n s line f g.0 here g.1)
    (λ (below : Below (RefusedIn f) n s line lines).
    let same : below.0 ≡ g.0 = one_taken n s line below.0 g.0 below.1 g.1 in
    refused_or_taken (n + 1) g.0 lines f a (subst (λ (next : Above). IsRefusedIn (n + 1) next lines f) same below.2) g.2)
    h

one_refusal : (n : ℕ) (s : Above) (line : List ℕ) (lines : List (List ℕ)) (f g : Fault)
    → ((next : Above) → IsRefusedIn (n + 1) next lines f → IsRefusedIn (n + 1) next lines g → f ≡ g)
    → IsRefused n s line f ⊎ Below (RefusedIn f) n s line lines → IsRefused n s line g ⊎ Below (RefusedIn g) n s line lines → f ≡ g
one_refusal n s line lines f g later (inl h) (inl j) = one_refused n s line f g h j
one_refusal n s line lines f g later (inl h) (inr j) = absurd (refused_not_taken n s line f j.0 h j.1)
one_refusal n s line lines f g later (inr h) (inl j) = absurd (refused_not_taken n s line g h.0 j h.1)
one_refusal n s line lines f g later (inr h) (inr j) =
    let same : h.0 ≡ j.0 = one_taken n s line h.0 j.0 h.1 j.1 in
    later j.0 (subst (λ (next : Above). IsRefusedIn (n + 1) next lines f) same h.2) j.2

one_refused_in : (n : ℕ) (s : Above) (lines : List (List ℕ)) (f g : Fault) → IsRefusedIn n s lines f → IsRefusedIn n s lines g → f ≡ g
one_refused_in n s [] f g h j = absurd h
one_refused_in n s (line ∷ lines) f g h j = one_refusal n s line lines f g (λ next p q. one_refused_in (n + 1) next lines f g p q) h j

unended_or_closed : (text : List ℕ) (f : Fault) (plan : Plan) → IsUnended text f → IsPlanOf text plan → ⊥
unended_or_closed text f plan h g =
    let same : h.after ≡ g.after = one_after 1 nothing_above (lines_of text) h.after g.after h.taken g.taken in
    none-some h.region (sym g.closed ∙ ap (λ (s : Above). s.opened) (sym same) ∙ h.opened)

one_unended : (text : List ℕ) (f g : Fault) → IsUnended text f → IsUnended text g → f ≡ g
one_unended text f g h j =
    let same : h.after ≡ j.after = one_after 1 nothing_above (lines_of text) h.after j.after h.taken j.taken in
    let region : h.region ≡ j.region = same_Some _ _ (sym h.opened ∙ ap (λ (s : Above). s.opened) same ∙ j.opened) in
    h.is ∙ ap (λ (r : OpenRegion). record { line = r.line; kind = UnendedRegion; a = 0; b = 0 }) region ∙ sym j.is

fault_or_plan : (text : List ℕ) (f : Fault) (plan : Plan) → IsFault text f → IsPlanOf text plan → ⊥
fault_or_plan text f plan (inl long) g = absurd (omega (arith, long.0, g.short))
fault_or_plan text f plan (inr (short, inl refused)) g = refused_or_taken 1 nothing_above (lines_of text) f g.after refused g.taken
fault_or_plan text f plan (inr (short, inr unended)) g = unended_or_closed text f plan unended g

one_text_fault : (text : List ℕ) (f g : Fault) → IsFault text f → IsFault text g → f ≡ g
one_text_fault text f g (inl h) (inl j) = h.1 ∙ sym j.1
one_text_fault text f g (inl h) (inr j) = absurd (omega (arith, h.0, j.0))
one_text_fault text f g (inr h) (inl j) = absurd (omega (arith, h.0, j.0))
one_text_fault text f g (inr (_, inl h)) (inr (_, inl j)) = one_refused_in 1 nothing_above (lines_of text) f g h j
one_text_fault text f g (inr (_, inl h)) (inr (_, inr j)) = absurd (refused_or_taken 1 nothing_above (lines_of text) f j.after h j.taken)
one_text_fault text f g (inr (_, inr h)) (inr (_, inl j)) = absurd (refused_or_taken 1 nothing_above (lines_of text) g h.after j h.taken)
one_text_fault text f g (inr (_, inr h)) (inr (_, inr j)) = one_unended text f g h j

one_plan_of : (text : List ℕ) (plan other : Plan) → IsPlanOf text plan → IsPlanOf text other → other ≡ plan
one_plan_of text plan other h g =
    let same : g.after ≡ h.after = one_after 1 nothing_above (lines_of text) g.after h.after g.taken h.taken in
    g.is ∙ ap (λ (s : Above). (settle s).plan) same ∙ sym h.is

pub plan_only : (text : List ℕ) (plan : Plan) → IsPlanOf text plan → IsOnlyPlanOf text plan
plan_only text plan h = record {
  is = h;
  only = λ other g. one_plan_of text plan other h g;
  faultless = λ fault g. fault_or_plan text fault plan g h;
}

pub fault_only : (text : List ℕ) (fault : Fault) → IsFault text fault → IsOnlyFaultOf text fault
fault_only text fault h = record {
  is = h;
  only = λ other g. one_text_fault text other fault g h;
  planless = λ plan g. fault_or_plan text fault plan h g;
}
