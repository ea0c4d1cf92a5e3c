-- What items give one after another.
use Rattle.std.proofs.Common.{◌≡◌, ℕ, zero, suc, ◌+◌, ◌<◌, List, [], ◌∷◌, ◌++◌, length, take, get_or, take-suc, Option, Some, None, Result, IfErr, refl, sym, ap, ◌∙◌, arith, add-one, Bool, true, false, ◌&&◌}
use Rattle.std.specs.List.{list_all}
use Rattle.std.proofs.lemmas.List.{append_assoc, append-nil}
use Rattle.std.proofs.lemmas.Option.{same_Some}
use Rattle.std.proofs.lemmas.Result.{IfErr-weaker}
use Rattle.dd_causes.proofs.StepsLemmas.{bind_some}
use Rattle.dd_causes.specs.Steps.{◌>>=◌}
use Rattle.dd_script.specs.Pieces.{gathered}
use Rattle.dd_tokens.specs.declared.fault.LineFault.{LineFault}
use Rattle.dd_tokens.specs.declared.fault.LineFault.TheVariants.{NotText, BadForm, UnknownStatement, BadNumber, UnknownPart, Memory}
use Rattle.dd_script.specs.PieceFaults.{Adds, IsPartFault}

-- two lists of items give what the first gives, and then what the second gives
both : {A B : Type 0} (f : A → Option (List B)) (xs ys : List A) (made more : List B) → gathered f xs ≡ Some made → gathered f ys ≡ Some more → gathered f (xs ++ ys) ≡ Some (made ++ more)
unfolding gathered
both f [] ys made more e g = rw (sym (same_Some _ _ e)) g
both {A} {B} f (x ∷ xs) ys made more e g =
    let first = bind_some (f x) _ made e in
    let rest = bind_some (gathered f xs) _ made first.2 in
    rw (first.1, both f xs ys rest.0 more rest.1 g) (ap (λ l. Some l) (sym (append_assoc first.0 rest.0 more) ∙ ap (λ l. l ++ more) (same_Some _ _ rest.2)))

one : {A B : Type 0} (f : A → Option (List B)) (x : A) (made : List B) → f x ≡ Some made → gathered f (x ∷ []) ≡ Some made
unfolding gathered
one f x made e = rw e (ap (λ l. Some l) (append-nil made))

stopped : {A B : Type 0} (first : Option A) (next : A → Option B) → ((a : A) → next a ≡ None) → (first >>= next) ≡ None
stopped None next none = refl
stopped (Some a) next none = none a

-- an item that gives nothing, so that all give nothing
gathered_none : {A B : Type 0} (f : A → Option (List B)) (xs : List A) (i : ℕ) (x : A) → i < length xs → x ≡ get_or xs i x → f x ≡ None → gathered f xs ≡ None
unfolding gathered
gathered_none f [] i x l at e = absurd (omega arith)
gathered_none f (y ∷ xs) zero x l at e = rw (sym at, e) refl
gathered_none f (y ∷ xs) (suc i) x l at e = stopped (f y) _ (λ a. rw (gathered_none f xs i x (omega arith) at e) refl)

-- one item more
pub adds_more : {A B : Type 0} (f : A → Option (List B)) (xs : List A) (i : ℕ) (x : A) (old now new : List B) → i < length xs → x ≡ get_or xs i x → Adds (gathered f (take i xs)) old now → Adds (f x) now new → Adds (gathered f (take (i + 1) xs)) old new
adds_more f xs i x old now new l at before step = record {
  made = before.made ++ step.made;
  is = rw (add-one, take-suc xs i x l, sym at) (both f (take i xs) (x ∷ []) before.made step.made before.is (one f x step.made step.is));
  added = step.added ∙ ap (λ l. l ++ step.made) before.added ∙ append_assoc old before.made step.made;
}

-- nothing yet
pub adds_none : {A B : Type 0} (f : A → Option (List B)) (old : List B) → Adds (gathered f []) old old
unfolding gathered
adds_none f old = record { made = []; is = refl; added = sym (append-nil old) }

-- why an item gives nothing is why all give nothing
pub item_fault : {A B : Type 0} (f : A → Option (List B)) (xs : List A) (i : ℕ) (x : A) (e : LineFault) → i < length xs → x ≡ get_or xs i x → IsPartFault e (f x) → IsPartFault e (gathered f xs)
item_fault f xs i x NotText l at h = h
item_fault f xs i x BadForm l at h = h
item_fault f xs i x UnknownStatement l at h = h
item_fault f xs i x BadNumber l at h = h
item_fault f xs i x UnknownPart l at h = gathered_none f xs i x l at h
item_fault f xs i x Memory l at h = h

-- the same of an answer
pub item_faults : {T A B : Type 0} (r : Result T LineFault) (f : A → Option (List B)) (xs : List A) (i : ℕ) (x : A) → i < length xs → x ≡ get_or xs i x → IfErr r (λ e. IsPartFault e (f x)) → IfErr r (λ e. IsPartFault e (gathered f xs))
item_faults r f xs i x l at h = IfErr-weaker r (λ e. IsPartFault e (f x)) (λ e. IsPartFault e (gathered f xs)) (λ e fault. item_fault f xs i x e l at fault) h

and_true : (a b : Bool) → (a && b) ≡ true → (a ≡ true) × (b ≡ true)
and_true true b e = (refl, e)
and_true false b e = absurd cc

-- a test that all pass is passed by each
pub all_at : {A : Type 0} (p : A → Bool) (xs : List A) (i : ℕ) (x : A) → list_all p xs ≡ true → i < length xs → x ≡ get_or xs i x → p x ≡ true
all_at p [] i x all l at = absurd (omega arith)
all_at p (y ∷ xs) zero x all l at = rw at (and_true _ _ all).0
all_at p (y ∷ xs) (suc i) x all l at = all_at p xs i x (and_true _ _ all).1 (omega arith) at
