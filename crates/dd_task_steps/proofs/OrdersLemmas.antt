-- What stays in an order while blocks are used.
use Rattle.std.proofs.Common.{◌≡◌, ℕ, ◌+◌, ◌<◌, Bool, true, false, ◌||◌, cond, eqb, not, List, [], ◌∷◌, get_or, length, take, refl, ap, sym, ◌∙◌, ⊎_elim}
use Rattle.std.proofs.Math.Path.{fun_ext}
use Rattle.std.specs.List.{fold}
use Rattle.std.proofs.lemmas.Bool.{cases_eq, eq-eqb, ne_eqb}
use Rattle.std.proofs.lemmas.List.Elements.{Contains-get_or}
use Rattle.std.proofs.lemmas.List.Sums.{fold_more}
use Rattle.dd_lists.proofs.ListsLemmas.{has_number as in_number}
use Rattle.dd_machine.specs.States.{State, at_one}
use Rattle.dd_machine.specs.Effects.{order_front}
use Rattle.dd_machine.specs.Words.{has_number}
use Rattle.dd_machine.proofs.ChangesLemmas.{at_one_other, at_one_same, at_one_tells}
use Rattle.dd_recency.specs.Recency.{to_front, without}

-- the order once some blocks were used, one after the other
abbrev pub used : List ℕ → List ℕ → List ℕ
used order blocks = fold (λ order b. to_front b order) order blocks

without_keeps : (block : ℕ) (xs : List ℕ) (b : ℕ) → (b ≡ block → ⊥) → has_number xs b ≡ true → has_number (without block xs) b ≡ true
without_keeps block [] b ne has = has
without_keeps block (x ∷ xs) b ne has = ⊎_elim
    (λ (e : block ≡ x).
    let gone : without block (x ∷ xs) ≡ without block xs = ap (λ (t : Bool). cond (not t) (x ∷ without block xs) (without block xs)) (eq-eqb block x e) in
    let other : eqb x b ≡ false = ne_eqb x b (λ h. ne (sym (e ∙ h))) in
    ap (λ (ys : List ℕ). has_number ys b) gone ∙ without_keeps block xs b ne (sym (ap (λ (t : Bool). t || has_number xs b) other) ∙ has))
    (λ (e : block ≡ x → ⊥).
    let stays : without block (x ∷ xs) ≡ x ∷ without block xs = ap (λ (t : Bool). cond (not t) (x ∷ without block xs) (without block xs)) (ne_eqb block x e) in
    ap (λ (ys : List ℕ). has_number ys b) stays ∙ by (eqb x b) (without_keeps block xs b ne) has)
    (cases_eq block x)
  where
    by : (t : Bool) → (has_number xs b ≡ true → has_number (without block xs) b ≡ true) → (t || has_number xs b) ≡ true → (t || has_number (without block xs) b) ≡ true
    by true f h = refl
    by false f h = f h

front_keeps : (block : ℕ) (xs : List ℕ) (b : ℕ) → has_number xs b ≡ true → has_number (to_front block xs) b ≡ true
front_keeps block xs b has = ⊎_elim
    (λ (e : b ≡ block). ap (λ (t : Bool). t || has_number (without block xs) b) (eq-eqb block b (sym e)))
    (λ (ne : b ≡ block → ⊥). ap (λ (t : Bool). t || has_number (without block xs) b) (ne_eqb block b (λ e. ne (sym e))) ∙ without_keeps block xs b ne has)
    (cases_eq b block)

pub used_keeps : (blocks xs : List ℕ) (b : ℕ) → has_number xs b ≡ true → has_number (used xs blocks) b ≡ true
used_keeps [] xs b has = has
used_keeps (block ∷ blocks) xs b has = used_keeps blocks (to_front block xs) b (front_keeps block xs b has)

-- a block of the list that is used next
pub next_there : (st a : State) (space i : ℕ) (found : List ℕ) → i < length found
    → ((b : ℕ) → has_number found b ≡ true → has_number (st.orders space) b ≡ true)
    → a ≡ record st { orders = at_one st.orders space (used (st.orders space) (take i found)) }
    → has_number (a.orders space) (get_or found i 0) ≡ true
next_there st a space i found lt there a_is =
    let block = get_or found i 0 in
    ap (λ (s : State). has_number (s.orders space) block) a_is
    ∙ ap (λ (xs : List ℕ). has_number xs block) (at_one_same st.orders space (used (st.orders space) (take i found)))
    ∙ used_keeps (take i found) (st.orders space) block (there block (in_number found block (Contains-get_or found i 0 lt)))

-- no block was used yet
pub used_none : (st : State) (space : ℕ) → st ≡ record st { orders = at_one st.orders space (st.orders space) }
used_none st space = ap (λ (orders : ℕ → List ℕ). record st { orders = orders }) (sym (fun_ext (λ s. same s)))
  where
    same : (s : ℕ) → at_one st.orders space (st.orders space) s ≡ st.orders s
    same s = ⊎_elim
        (λ (e : (s ≡ space) × (at_one st.orders space (st.orders space) s ≡ st.orders space)). e.1 ∙ ap st.orders (sym e.0))
        (λ (e : (s ≡ space → ⊥) × (at_one st.orders space (st.orders space) s ≡ st.orders s)). e.1)
        (at_one_tells st.orders space (st.orders space) s)

one_twice : (orders : ℕ → List ℕ) (space : ℕ) (xs ys : List ℕ) → at_one (at_one orders space xs) space ys ≡ at_one orders space ys
one_twice orders space xs ys = fun_ext (λ s. point s)
  where
    point : (s : ℕ) → at_one (at_one orders space xs) space ys s ≡ at_one orders space ys s
    point s = ⊎_elim
        (λ (e : (s ≡ space) × (at_one (at_one orders space xs) space ys s ≡ ys)). e.1 ∙ sym (rw e.0 (at_one_same orders space ys)))
        (λ (e : (s ≡ space → ⊥) × (at_one (at_one orders space xs) space ys s ≡ at_one orders space xs s)).
        e.1 ∙ at_one_other orders space xs s e.0 ∙ sym (at_one_other orders space ys s e.0))
        (at_one_tells (at_one orders space xs) space ys s)

-- one more
pub used_more : (st a b : State) (space i block : ℕ) (found : List ℕ) → i < length found → block ≡ get_or found i 0
    → a ≡ record st { orders = at_one st.orders space (used (st.orders space) (take i found)) }
    → b ≡ record a { orders = order_front a.orders space block }
    → b ≡ record st { orders = at_one st.orders space (used (st.orders space) (take (i + 1) found)) }
used_more st a b space i block found lt block_is a_is b_is =
    let so_far = used (st.orders space) (take i found) in
    let fronted : to_front block (at_one st.orders space so_far space) ≡ used (st.orders space) (take (i + 1) found) =
    ap (to_front block) (at_one_same st.orders space so_far) ∙ ap (λ (k : ℕ). to_front k so_far) block_is
    ∙ sym (fold_more (λ (order : List ℕ) (x : ℕ). to_front x order) (st.orders space) found i 0 lt) in
    b_is ∙ ap (λ (s : State). record s { orders = order_front s.orders space block }) a_is
    ∙ ap (λ (orders : ℕ → List ℕ). record st { orders = orders })
    (one_twice st.orders space so_far (to_front block (at_one st.orders space so_far space)) ∙ ap (at_one st.orders space) fronted)
