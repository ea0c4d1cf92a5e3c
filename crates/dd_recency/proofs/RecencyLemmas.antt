-- What stays true of a list of blocks after a use or a removal.
use Rattle.std.proofs.Common.{◌≡◌, ℕ, ◌≤◌, Bool, true, false, ◌||◌, not, cond, nat_eq, List, [], ◌∷◌, length, filter, refl, ap, arith}
use Rattle.std.specs.List.{AllByRecursion, IsDistinct, list_any}
use Rattle.std.proofs.lemmas.Map.Keys.{IsDistinct-head, IsDistinct-tail, IsDistinct-cons}
use Rattle.dd_recency.specs.Recency.{to_front, without}

-- no block of the list is this one
abbrev pub IsAbsent : ℕ → List ℕ → Type 0
IsAbsent block = AllByRecursion (λ b. nat_eq block b ≡ false)

IsAbsent-filter : (block : ℕ) (p : ℕ → Bool) (bs : List ℕ) → IsAbsent block bs → IsAbsent block (filter p bs)
IsAbsent-filter block p [] h = tt
IsAbsent-filter block p (b ∷ bs) h =
    let rest = IsAbsent-filter block p bs h.1 in
    elim (p b) as (λ y. IsAbsent block (cond y (b ∷ filter p bs) (filter p bs))) [ true ↦ (h.0, rest) | false ↦ rest ]

IsAbsent-without : (block : ℕ) (bs : List ℕ) → IsAbsent block (without block bs)
IsAbsent-without block [] = tt
IsAbsent-without block (b ∷ bs) =
    let rest = IsAbsent-without block bs in
    (elim (nat_eq block b) as (λ y. nat_eq block b ≡ y → IsAbsent block (cond (not y) (b ∷ without block bs) (without block bs))) [ true ↦ λ t. rest | false ↦ λ t. (t, rest) ]) refl

IsDistinct-filter : (p : ℕ → Bool) (bs : List ℕ) → IsDistinct nat_eq bs → IsDistinct nat_eq (filter p bs)
IsDistinct-filter p [] d = d
IsDistinct-filter p (b ∷ bs) d =
    let rest = IsDistinct-filter p bs (IsDistinct-tail nat_eq b bs d) in
    elim (p b) as (λ y. IsDistinct nat_eq (cond y (b ∷ filter p bs) (filter p bs))) [
      | true ↦ IsDistinct-cons nat_eq b (filter p bs) (IsAbsent-filter b p bs (IsDistinct-head nat_eq b bs d)) rest
      | false ↦ rest
    ]

pub IsDistinct-without : (block : ℕ) (bs : List ℕ) → IsDistinct nat_eq bs → IsDistinct nat_eq (without block bs)
IsDistinct-without block bs = IsDistinct-filter (λ other. not (nat_eq block other)) bs

pub IsDistinct-to_front : (block : ℕ) (bs : List ℕ) → IsDistinct nat_eq bs → IsDistinct nat_eq (to_front block bs)
IsDistinct-to_front block bs d = IsDistinct-cons nat_eq block (without block bs) (IsAbsent-without block bs) (IsDistinct-without block bs d)

-- a block that isn't there leaves all others
pub without-absent : (block : ℕ) (bs : List ℕ) → IsAbsent block bs → without block bs ≡ bs
without-absent block [] h = refl
without-absent block (b ∷ bs) h = rw h.0 (ap (λ rest. b ∷ rest) (without-absent block bs h.1))

pub length-le-without : (block : ℕ) (bs : List ℕ) → length (without block bs) ≤ length bs
length-le-without block [] = omega arith
length-le-without block (b ∷ bs) =
    let rest : length (without block bs) ≤ length bs = length-le-without block bs in
    elim (nat_eq block b) as (λ y. length (cond (not y) (b ∷ without block bs) (without block bs)) ≤ length (b ∷ bs)) [ true ↦ omega arith | false ↦ omega arith ]

pub length-le-to_front : (block : ℕ) (bs : List ℕ) → list_any (nat_eq block) bs ≡ true → length (to_front block bs) ≤ length bs
length-le-to_front block [] h = cc
length-le-to_front block (b ∷ bs) h =
    let rest : length (without block bs) ≤ length bs = length-le-without block bs in
    (elim (nat_eq block b) as (λ y. (y || list_any (nat_eq block) bs) ≡ true → length (block ∷ cond (not y) (b ∷ without block bs) (without block bs)) ≤ length (b ∷ bs)) [
      | true ↦ λ _. omega arith
      | false ↦ λ some. let more : length (to_front block bs) ≤ length bs = length-le-to_front block bs some in omega arith
    ]) h

-- where a search finds no such block, there is none
pub IsAbsent-unfound : (block : ℕ) (bs : List ℕ) → list_any (nat_eq block) bs ≡ false → IsAbsent block bs
IsAbsent-unfound block [] h = tt
IsAbsent-unfound block (b ∷ bs) h =
    (elim (nat_eq block b) as (λ y. nat_eq block b ≡ y → (y || list_any (nat_eq block) bs) ≡ false → IsAbsent block (b ∷ bs)) [
      | true ↦ λ t some. cc
      | false ↦ λ t rest. (t, IsAbsent-unfound block bs rest)
    ]) refl h
