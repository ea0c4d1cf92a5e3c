-- Changes at two places, and the entry that an event says is next.
use Rattle.std.proofs.Common.{◌≡◌, ◌≢◌, ◌⊎◌, ℕ, List, Option, Some, None, IsSome, ap, sym, ◌∙◌, inl, inr, refl}
use Rattle.std.proofs.Math.Path.{fun_ext}
use Rattle.std.proofs.lemmas.Bool.{cases_eq}
use Rattle.std.specs.Prelude.{option_map}
use Rattle.dd_blocks.specs.declared.plan.Plan.{Plan}
use Rattle.dd_machine.specs.declared.entry.Entry.{Entry}
use Rattle.dd_machine.specs.declared.event.Event.{Event}
use Rattle.dd_machine.specs.Effects.{order_front, order_without}
use Rattle.dd_machine.specs.Orderly.{ComesNext}
use Rattle.dd_machine.specs.Owed.{left, next_entry}
use Rattle.dd_machine.specs.States.{Progress, at_one}
use Rattle.dd_machine.proofs.ChangesLemmas.{at_one_other, at_one_same}
use Rattle.dd_recency.specs.Recency.{to_front, without}

-- an entry is left where an event is next
pub some_next : (plan : Plan) (p : Progress) (event : Event) → ComesNext plan p event → IsSome (next_entry (left plan p))
some_next plan p event next = by (next_entry (left plan p)) next
  where
    by : (o : Option Entry) → option_map (λ (entry : Entry). entry.event) o ≡ Some event → IsSome o
    by None e = absurd cc
    by (Some entry) e = refl

one_swapped : {A : Type 0} (f : ℕ → A) (m n : ℕ) (a b : A) → m ≢ n → at_one (at_one f m a) n b ≡ at_one (at_one f n b) m a
one_swapped {A = A} f m n a b apart = fun_ext (λ k. by k (cases_eq k m) (cases_eq k n))
  where
    by : (k : ℕ) → (k ≡ m) ⊎ (k ≢ m) → (k ≡ n) ⊎ (k ≢ n) → at_one (at_one f m a) n b k ≡ at_one (at_one f n b) m a k
    by k (inl e) (inl g) = absurd (apart (sym e ∙ g))
    by k (inl e) (inr g) =
        at_one_other (at_one f m a) n b k g ∙ ap (at_one f m a) e ∙ at_one_same f m a
        ∙ sym (ap (at_one (at_one f n b) m a) e ∙ at_one_same (at_one f n b) m a)
    by k (inr e) (inl g) =
        ap (at_one (at_one f m a) n b) g ∙ at_one_same (at_one f m a) n b
        ∙ sym (at_one_other (at_one f n b) m a k e ∙ ap (at_one f n b) g ∙ at_one_same f n b)
    by k (inr e) (inr g) =
        at_one_other (at_one f m a) n b k g ∙ at_one_other f m a k e
        ∙ sym (at_one_other (at_one f n b) m a k e ∙ at_one_other f n b k g)

-- a block in front of one order and out of another, in either order
pub front_then_without : (orders : ℕ → List ℕ) (home space block : ℕ) → home ≢ space
    → order_without (order_front orders space block) home block ≡ order_front (order_without orders home block) space block
front_then_without orders home space block apart =
    let front = to_front block (orders space) in
    let less = without block (orders home) in
    ap (λ (xs : List ℕ). at_one (at_one orders space front) home (without block xs)) (at_one_other orders space front home apart)
    ∙ one_swapped orders space home front less (λ e. apart (sym e))
    ∙ sym (ap (λ (xs : List ℕ). at_one (at_one orders home less) space (to_front block xs)) (at_one_other orders home less space (λ e. apart (sym e))))
