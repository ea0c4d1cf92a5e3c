-- The first legal one of some events, by the parts of the list.
use Rattle.std.proofs.Common.{◌≡◌, ◌≢◌, ℕ, true, eqb, List, [], ◌∷◌, ◌++◌, Option, Some, None, refl, ap, sym, subst, inl, inr, ⊎_elim}
use Rattle.std.specs.Prelude.{map}
use Rattle.std.proofs.lemmas.Bool.{cases_eq, eqb-true, or_cases}
use Rattle.dd_blocks.specs.declared.plan.Plan.{Plan}
use Rattle.dd_machine.specs.declared.event.Event.{Event}
use Rattle.dd_machine.specs.Legal.{May}
use Rattle.dd_machine.specs.States.{State}
use Rattle.dd_machine.specs.Words.{has_number}
use Rattle.dd_next.specs.First.{IsFirstLegal}

-- of none there is none
pub none_of_none : (plan : Plan) (st : State) → IsFirstLegal plan st [] None
unfolding IsFirstLegal
none_of_none plan st = refl

-- the head is legal, or it isn't
pub first_head : (plan : Plan) (st : State) (event : Event) (events : List Event) → May plan st event → IsFirstLegal plan st (event ∷ events) (Some event)
unfolding IsFirstLegal
first_head plan st event events may = inl (may, refl)

pub first_tail : (plan : Plan) (st : State) (event : Event) (events : List Event) (found : Option Event) → (May plan st event → ⊥) → IsFirstLegal plan st events found → IsFirstLegal plan st (event ∷ events) found
unfolding IsFirstLegal
first_tail plan st event events found not rest = inr (not, rest)

-- what is the first of a list is the first of a longer one
pub first_some : (plan : Plan) (st : State) (xs ys : List Event) (event : Event) → IsFirstLegal plan st xs (Some event) → IsFirstLegal plan st (xs ++ ys) (Some event)
unfolding IsFirstLegal
first_some plan st [] ys event first = absurd (let no_way : Some event ≡ None = first in cc)
first_some plan st (x ∷ xs) ys event first = ⊎_elim
    (λ (h : May plan st x × (Some event ≡ Some x)). inl h)
    (λ (h : (May plan st x → ⊥) × IsFirstLegal plan st xs (Some event)). inr (h.0, first_some plan st xs ys event h.1))
    first

-- where a list has none, the first of what follows it is the first of both
pub first_none : (plan : Plan) (st : State) (xs ys : List Event) (found : Option Event) → IsFirstLegal plan st xs None → IsFirstLegal plan st ys found → IsFirstLegal plan st (xs ++ ys) found
unfolding IsFirstLegal
first_none plan st [] ys found none rest = rest
first_none plan st (x ∷ xs) ys found none rest = ⊎_elim
    (λ (h : May plan st x × (None ≡ Some x)). absurd (let no_way : None ≡ Some x = h.1 in cc))
    (λ (h : (May plan st x → ⊥) × IsFirstLegal plan st xs None). inr (h.0, first_none plan st xs ys found h.1 rest))
    none

-- none of some events is legal
pub none_legal : (plan : Plan) (st : State) (f : ℕ → Event) (xs : List ℕ) → ((x : ℕ) → May plan st (f x) → ⊥) → IsFirstLegal plan st (map f xs) None
unfolding IsFirstLegal
none_legal plan st f [] not = refl
none_legal plan st f (x ∷ xs) not = inr (not x, none_legal plan st f xs not)

-- one of them is
pub only_legal : (plan : Plan) (st : State) (f : ℕ → Event) (xs : List ℕ) (n : ℕ) → has_number xs n ≡ true → May plan st (f n) → ((x : ℕ) → x ≢ n → May plan st (f x) → ⊥) → IsFirstLegal plan st (map f xs) (Some (f n))
unfolding IsFirstLegal
only_legal plan st f [] n has may not = absurd cc
only_legal plan st f (x ∷ xs) n has may not = ⊎_elim
    (λ (e : x ≡ n). inl (subst (λ (y : ℕ). May plan st (f y)) (sym e) may, ap (λ (y : ℕ). Some (f y)) (sym e)))
    (λ (ne : x ≡ n → ⊥). inr (not x ne, only_legal plan st f xs n (rest ne) may not))
    (cases_eq x n)
  where
    rest : (x ≡ n → ⊥) → has_number xs n ≡ true
    rest ne = ⊎_elim (λ (e : eqb x n ≡ true). absurd (ne (eqb-true x n e))) (λ (h : has_number xs n ≡ true). h) (or_cases (eqb x n) (has_number xs n) has)

-- the first one is legal
pub first_may : (plan : Plan) (st : State) (xs : List Event) (event : Event) → IsFirstLegal plan st xs (Some event) → May plan st event
unfolding IsFirstLegal
first_may plan st [] event first = absurd (let no_way : Some event ≡ None = first in cc)
first_may plan st (x ∷ xs) event first = ⊎_elim
    (λ (h : May plan st x × (Some event ≡ Some x)). subst (May plan st) (let e : x ≡ event = let s : Some event ≡ Some x = h.1 in cc in e) h.0)
    (λ (h : (May plan st x → ⊥) × IsFirstLegal plan st xs (Some event)). first_may plan st xs event h.1)
    first
