-- What a task stores, element by element.
use Rattle.std.proofs.Common.{◌≡◌, ℕ, ℤ, true, false, ◌&&◌, List, [], ◌∷◌, length, refl, ap, arith, ⊎_elim}
use Rattle.std.specs.Prelude.{nat_eq}
use Rattle.std.specs.List.{list_any}
use Rattle.std.proofs.lemmas.Bool.{cases_Bool}
use Rattle.dd_views.specs.IndexList.{index_list}
use Rattle.dd_blocks.specs.declared.access_row.AccessRow.{AccessRow}
use Rattle.dd_blocks.specs.Elements.{writes}
use Rattle.dd_blocks.specs.Elements.{Element, has}
use Rattle.dd_meaning.specs.Written.{HaveLengths, put_value, value_stored, value_stored_one}

-- what stood at a position counts for nothing once something was put there
put_any : (qs : List ℕ) (values : List ℤ) (p : ℕ) (a b : ℤ) → length values ≡ length qs → list_any (λ q. nat_eq q p) qs ≡ true → put_value qs values p a ≡ put_value qs values p b
put_any [] values p a b long some = absurd (cc)
put_any (q ∷ qs) [] p a b long some = absurd (omega (arith, long))
put_any (q ∷ qs) (v ∷ values) p a b long some = ⊎_elim
    (λ (here : nat_eq q p ≡ true). rw here refl)
    (λ (not : nat_eq q p ≡ false).
    let rest : list_any (λ r. nat_eq r p) qs ≡ true = rw not at some in
    rw not (put_any qs values p a b (omega (arith, long)) rest))
    (cases_Bool (nat_eq q p))

pub stored_any : (accesses : List AccessRow) (lists : List (List ℤ)) (e : Element) (a b : ℤ) → HaveLengths accesses lists
    → list_any (λ (x : AccessRow). writes x.mode && has x e) accesses ≡ true → value_stored accesses lists e a ≡ value_stored accesses lists e b
stored_any [] lists e a b long some = absurd (cc)
stored_any (x ∷ more) [] e a b long some = absurd long
stored_any (x ∷ more) (values ∷ lists) e a b long some = ⊎_elim
    (λ (w : writes x.mode ≡ true). ⊎_elim
    (λ (s : nat_eq x.view.array e.array ≡ true). ⊎_elim
    (λ (h : list_any (λ p. nat_eq p e.pos) (index_list x.view) ≡ true).
    let one : value_stored_one x values e a ≡ value_stored_one x values e b = rw (w, s) (put_any (index_list x.view) values e.pos a b long.0 h) in
    ap (value_stored more lists e) one)
    (λ (n : list_any (λ p. nat_eq p e.pos) (index_list x.view) ≡ false).
    let rest : list_any (λ (y : AccessRow). writes y.mode && has y e) more ≡ true = rw (w, s, n) at some in
    stored_any more lists e (value_stored_one x values e a) (value_stored_one x values e b) long.1 rest)
    (cases_Bool (list_any (λ p. nat_eq p e.pos) (index_list x.view))))
    (λ (n : nat_eq x.view.array e.array ≡ false).
    let rest : list_any (λ (y : AccessRow). writes y.mode && has y e) more ≡ true = rw (w, n) at some in
    stored_any more lists e (value_stored_one x values e a) (value_stored_one x values e b) long.1 rest)
    (cases_Bool (nat_eq x.view.array e.array)))
    (λ (n : writes x.mode ≡ false).
    let rest : list_any (λ (y : AccessRow). writes y.mode && has y e) more ≡ true = rw n at some in
    stored_any more lists e (value_stored_one x values e a) (value_stored_one x values e b) long.1 rest)
    (cases_Bool (writes x.mode))
