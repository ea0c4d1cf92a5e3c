-- What an order of a sound state has room for.
use Rattle.std.proofs.Common.{◌≡◌, ℕ, ◌+◌, ◌-◌, ◌≤◌, Bool, true, false, ◌||◌, eqb, List, [], ◌∷◌, get_or, length, Option, Some, None, refl, ap, sym, ◌∙◌, ⊎_elim, arith}
use Rattle.std.specs.List.{AllByRecursion, Contains, IsDistinct, list_any}
use Rattle.std.proofs.lemmas.Bool.{cases_eq, eq-eqb, ne_eqb}
use Rattle.std.proofs.lemmas.List.Elements.{All-get_or}
use Rattle.std.proofs.lemmas.Map.Steps.{length-le_from_distinct_below}
use Rattle.dd_blocks.specs.declared.plan.Plan.{Plan}
use Rattle.dd_lists.proofs.ListsLemmas.{has_number as in_number, or_false}
use Rattle.dd_machine.specs.Sound.{IsSound}
use Rattle.dd_machine.specs.SoundProgress.{IsOnce}
use Rattle.dd_machine.specs.States.{Copy, State}
use Rattle.dd_machine.specs.Tests.{is_any, is_here, is_in_state}
use Rattle.dd_machine.specs.Words.{IsOneOf, blocks, has_number, spaces}
use Rattle.dd_recency.specs.Recency.{Recency}
use Rattle.dd_tables.specs.Sized.{IsSized}
use Rattle.dd_tables.specs.declared.tables.Tables.{Tables}

swap : (a b : ℕ) → eqb a b ≡ eqb b a
swap a b = ⊎_elim
    (λ (e : a ≡ b). eq-eqb a b e ∙ sym (eq-eqb b a (sym e)))
    (λ (ne : a ≡ b → ⊥). ne_eqb a b ne ∙ sym (ne_eqb b a (λ e. ne (sym e))))
    (cases_eq a b)

any_swap : (q : ℕ) (xs : List ℕ) → list_any (eqb q) xs ≡ has_number xs q
any_swap q [] = refl
any_swap q (x ∷ xs) = ap (λ (t : Bool). t || list_any (eqb q) xs) (swap q x) ∙ ap (λ (t : Bool). eqb x q || t) (any_swap q xs)

apart : (x : ℕ) (xs : List ℕ) → has_number xs x ≡ false → AllByRecursion (λ y. eqb x y ≡ false) xs
apart x [] none = tt
apart x (y ∷ ys) none = let both = or_false (eqb y x) (has_number ys x) none in (swap x y ∙ both.0, apart x ys both.1)

distinct : (xs : List ℕ) → IsOnce xs → IsDistinct eqb xs
unfolding IsDistinct
distinct [] once = tt
distinct (x ∷ xs) once = (apart x xs once.0, distinct xs once.1)

here_any : (c : Option Copy) → is_in_state is_here c ≡ true → is_in_state is_any c ≡ true
here_any None here = here
here_any (Some copy) here = refl

-- an order of a sound state has the Plan's blocks alone, and none twice
pub short : (plan : Plan) (st : State) (space : ℕ) → IsSound plan st → length (st.orders space) ≤ blocks plan + 1
short plan st space sound =
    length-le_from_distinct_below (st.orders space) (blocks plan + 1) (distinct (st.orders space) (sound.progress.order_once space))
    (λ q has.
    let here = sound.limits.order_here space q (sym (any_swap q (st.orders space)) ∙ has) in
    let known = sound.progress.copy_known space q (here_any (st.copies space q) here) in
    let high = known.1.1 in
    omega (arith, high))

-- a space of the Plan has an order, with room for its blocks and two more
pub order_known : (plan : Plan) (tables : Tables) (space : ℕ) → IsSized plan tables → IsOneOf (spaces plan) space → IsOneOf (length tables.orders.items) space
order_known plan tables space sized is = (is.0, (let h = is.1 in let o = sized.orders in omega (arith, h, o)))

pub room_at : (plan : Plan) (tables : Tables) (space : ℕ) (d : Recency) → IsSized plan tables → IsOneOf (spaces plan) space → (get_or tables.orders.items (space - 1) d).room ≡ blocks plan + 2
room_at plan tables space d sized is =
    let known = order_known plan tables space sized is in
    All-get_or (λ (order : Recency). order.room ≡ blocks plan + 2) tables.orders.items (space - 1) d (let l = known.0 in let h = known.1 in omega (arith, l, h)) sized.room

pub not_there : (xs : List ℕ) (n : ℕ) → has_number xs n ≡ false → Contains xs n → ⊥
not_there xs n none there = (let no : true ≡ false = sym (in_number xs n there) ∙ none in cc)
