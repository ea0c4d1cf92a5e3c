-- An order lists no block twice.
use Rattle.std.proofs.Common.{◌≡◌, ◌≢◌, ℕ, Bool, true, false, cond, eqb, List, [], ◌∷◌, refl, sym, ◌∙◌, subst, ⊎_elim}
use Rattle.std.specs.Prelude.{filter, not}
use Rattle.std.specs.List.{fold}
use Rattle.std.proofs.lemmas.Bool.{false_from_ne_true, or_cases, or_left, or_right}
use Rattle.dd_recency.specs.Recency.{to_front, without}
use Rattle.dd_blocks.specs.declared.plan.Plan.{Plan}
use Rattle.dd_blocks.specs.Numbered.{task_row}
use Rattle.dd_machine.specs.declared.event.Event.{Event}
use Rattle.dd_machine.specs.declared.event.Event.TheVariants.{Ask, Rest, Put, Shift, Free, Begin, Hold, Pick, Gone, Make, Call, Come, Lend, Copy, Claim, Finish, Back, Close}
use Rattle.dd_machine.specs.Effects.{after, order_front, order_without}
use Rattle.dd_machine.specs.Legal.{May}
use Rattle.dd_machine.specs.States.{State, at_one}
use Rattle.dd_machine.specs.Words.{has_number, place}
use Rattle.dd_machine.proofs.ChangesLemmas.{at_one_tells}
use Rattle.dd_machine.proofs.TestsLemmas.{pin_of, rested_at}
use Rattle.laws_of_limits.proofs.OrdersKept.{without_has}
use Rattle.dd_machine.specs.SoundProgress.{SoundProgress, IsOnce}

filter_less : (p : ℕ → Bool) (xs : List ℕ) (b : ℕ) → has_number (filter p xs) b ≡ true → has_number xs b ≡ true
filter_less p [] b has = has
filter_less p (x ∷ xs) b has = by (p x) (filter_less p xs b) has
  where
    by : (t : Bool) → (has_number (filter p xs) b ≡ true → has_number xs b ≡ true) → has_number (cond t (x ∷ filter p xs) (filter p xs)) b ≡ true → has_number (x ∷ xs) b ≡ true
    by true more h = ⊎_elim
        (λ (e : eqb x b ≡ true). or_left (eqb x b) (has_number xs b) e)
        (λ (e : has_number (filter p xs) b ≡ true). or_right (eqb x b) (has_number xs b) (more e))
        (or_cases (eqb x b) (has_number (filter p xs) b) h)
    by false more h = or_right (eqb x b) (has_number xs b) (more h)

filter_once : (p : ℕ → Bool) (xs : List ℕ) → IsOnce xs → IsOnce (filter p xs)
filter_once p [] once = once
filter_once p (x ∷ xs) once = by (p x) (filter_once p xs once.1)
  where
    by : (t : Bool) → IsOnce (filter p xs) → IsOnce (cond t (x ∷ filter p xs) (filter p xs))
    by true rest = (false_from_ne_true (has_number (filter p xs) x) (λ has. let h : true ≡ false = sym (filter_less p xs x has) ∙ once.0 in cc), rest)
    by false rest = rest

front_once : (block : ℕ) (xs : List ℕ) → IsOnce xs → IsOnce (to_front block xs)
front_once block xs once = (false_from_ne_true (has_number (without block xs) block) (λ has. (without_has block xs block has).1 refl), filter_once (λ other. not (eqb block other)) xs once)

fronts_once : (blocks xs : List ℕ) → IsOnce xs → IsOnce (fold (λ order x. to_front x order) xs blocks)
fronts_once [] xs once = once
fronts_once (x ∷ blocks) xs once = fronts_once blocks (to_front x xs) (front_once x xs once)

abbrev pub OrderOnce : State → Type 0
OrderOnce st = (s : ℕ) → IsOnce (st.orders s)

-- one order changes
order_at : (orders : ℕ → List ℕ) (space : ℕ) (new : List ℕ) → IsOnce new → ((s : ℕ) → IsOnce (orders s)) → (s : ℕ) → IsOnce (at_one orders space new s)
order_at orders space new once old s = ⊎_elim
    (λ (e : (s ≡ space) × (at_one orders space new s ≡ new)). subst IsOnce (sym e.1) once)
    (λ (e : (s ≢ space) × (at_one orders space new s ≡ orders s)). subst IsOnce (sym e.1) (old s))
    (at_one_tells orders space new s)

to_front_at : (orders : ℕ → List ℕ) (space block : ℕ) → ((s : ℕ) → IsOnce (orders s)) → (s : ℕ) → IsOnce (order_front orders space block s)
to_front_at orders space block old = order_at orders space (to_front block (orders space)) (front_once block (orders space) (old space)) old

without_at : (orders : ℕ → List ℕ) (space block : ℕ) → ((s : ℕ) → IsOnce (orders s)) → (s : ℕ) → IsOnce (order_without orders space block s)
without_at orders space block old = order_at orders space (without block (orders space)) (filter_once (λ other. not (eqb block other)) (orders space) (old space)) old

pub keeps_order_once : (plan : Plan) (st : State) (event : Event) → SoundProgress plan st → May plan st event → OrderOnce (after plan st event)
keeps_order_once plan st (Ask space block) able may = able.order_once
keeps_order_once plan st Rest able may = subst OrderOnce (sym (rested_at plan st may)) (to_front_at st.orders (pin_of plan st may).0 (pin_of plan st may).1 able.order_once)
keeps_order_once plan st (Put block) able may = to_front_at st.orders (st.homes block) block able.order_once
keeps_order_once plan st (Shift block space) able may = to_front_at (order_without st.orders (st.homes block) block) space block (without_at st.orders (st.homes block) block able.order_once)
keeps_order_once plan st (Free space block) able may = without_at st.orders space block able.order_once
keeps_order_once plan st (Begin r) able may = able.order_once
keeps_order_once plan st (Close r) able may = able.order_once
keeps_order_once plan st (Hold task) able may = able.order_once
keeps_order_once plan st (Pick space block) able may = without_at st.orders space block able.order_once
keeps_order_once plan st (Gone space block) able may = able.order_once
keeps_order_once plan st (Make task block) able may = to_front_at st.orders (place plan task) block able.order_once
keeps_order_once plan st (Call space block) able may = able.order_once
keeps_order_once plan st (Come space block) able may = to_front_at st.orders space block able.order_once
keeps_order_once plan st (Lend task block source) able may = able.order_once
keeps_order_once plan st (Copy task block source count) able may = able.order_once
keeps_order_once plan st (Claim task worker) able may = able.order_once
keeps_order_once plan st (Finish task) able may = order_at st.orders (place plan task) (fold (λ order b. to_front b order) (st.orders (place plan task)) (task_row plan task).blocks)
    (fronts_once (task_row plan task).blocks (st.orders (place plan task)) (able.order_once (place plan task))) able.order_once
keeps_order_once plan st (Back block source count) able may = able.order_once
