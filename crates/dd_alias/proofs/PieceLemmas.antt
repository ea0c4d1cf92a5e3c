-- Lists in pieces.
use Rattle.std.proofs.Common.{◌≡◌, ◌<◌, ◌↔◌, ℕ, zero, suc, List, [], ◌∷◌, ◌++◌, length, get_or, ⊎_elim, take, drop, ◌+◌, ◌-◌, ◌≤◌, refl, ap, sym, ◌∙◌, arith}
use Rattle.std.specs.List.{All, Any, Contains, flat_map}
use Rattle.std.proofs.lemmas.Grind.{flat_map-append}
use Rattle.std.proofs.lemmas.List.{append-nil, drop-take, take-append-drop, take-take}
use Rattle.std.proofs.lemmas.List.Elements.{All-contains, Contains-append_cases, Contains-append_left, Contains-append_right, Contains-get_or}

-- all pieces one after another
abbrev pub joined : {X : Type 0} → List (List X) → List X
joined {X} pieces = flat_map (λ (p : List X). p) pieces

-- an element of a piece is one of all
has_joined : {X : Type 0} (pieces : List (List X)) (k : ℕ) (p : List X) (x : X) → k < length pieces → get_or pieces k p ≡ p → Contains p x → Contains (joined pieces) x
has_joined [] k p x within at has = absurd (omega arith)
has_joined (q ∷ qs) zero p x within at has = Contains-append_left q (joined qs) x (rw at has)
has_joined (q ∷ qs) (suc k) p x within at has = Contains-append_right q (joined qs) x (has_joined qs k p x (omega arith) at has)

in_joined : {X : Type 0} (pieces : List (List X)) (x : X) → Contains (joined pieces) x → (k : ℕ) × (p : List X) × (k < length pieces) × (get_or pieces k p ≡ p) × Contains p x
in_joined [] x has = absurd (omega (arith, has.1))
in_joined {X} (q ∷ qs) x has = ⊎_elim
    (λ (here : Contains q x). (0, q, omega arith, refl, here))
    (λ (later : Contains (joined qs) x).
    let there = in_joined qs x later in
    (suc there.0, there.1, omega (arith, there.2), there.3, there.4))
    (Contains-append_cases q (joined qs) x has)

-- something holds of some element of a piece where it holds of one of all
pub any_joined : {X : Type 0} (P : X → Type 0) (pieces : List (List X)) → Any P (joined pieces) ↔ Any (λ (p : List X). Any P p) pieces
any_joined {X} P pieces = (
  (λ any.
      let there = in_joined pieces any.1 (any.0, any.2, any.3) in
      (there.0, there.1, there.2, there.3, (there.4.0, any.1, there.4.1, there.4.2, any.4))),
  (λ any.
      let has = has_joined pieces any.0 any.1 any.4.1 any.2 any.3 (any.4.0, any.4.2, any.4.3) in
      (has.0, any.4.1, has.1, has.2, any.4.4)),
)

-- what holds of all holds in each piece
pub all_in_piece : {X : Type 0} (P : X → Type 0) (pieces : List (List X)) (k : ℕ) (p : List X) → All P (joined pieces) → k < length pieces → get_or pieces k p ≡ p → All P p
all_in_piece P pieces k p all within at i d below =
    All-contains P (joined pieces) (get_or p i d) all (has_joined pieces k p (get_or p i d) within at (Contains-get_or p i d below))

-- one piece more behind the others
pub joined_more : {X : Type 0} (xs : List X) (first end : ℕ) (pieces : List (List X)) (piece : List X) → first ≤ end → joined pieces ≡ take first xs → piece ≡ take (end - first) (drop first xs) → joined (pieces ++ piece ∷ []) ≡ take end xs
joined_more {X} xs first end pieces piece le so_far is =
    let sum : first + (end - first) ≡ end = omega arith in
    let front : take first (take (first + (end - first)) xs) ≡ take first xs = take-take first (first + (end - first)) xs (omega arith) in
    flat_map-append (λ (p : List X). p) pieces (piece ∷ [])
    ∙ ap (λ (ys : List X). joined pieces ++ ys) (append-nil piece ∙ is ∙ sym (drop-take first (end - first) xs))
    ∙ ap (λ (ys : List X). ys ++ drop first (take (first + (end - first)) xs)) (so_far ∙ sym front)
    ∙ take-append-drop first (take (first + (end - first)) xs)
    ∙ ap (λ (n : ℕ). take n xs) sum
