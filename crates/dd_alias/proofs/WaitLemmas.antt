-- The tasks that one must wait for, found one extent after another.
use Rattle.std.proofs.Common.{◌≡◌, ◌≢◌, ◌≤◌, ◌<◌, ◌+◌, ◌↔◌, ◌⊎◌, ℕ, List, [], ◌∷◌, ◌++◌, length, get_or, ⊎_elim, inl, inr, sym, ◌∙◌, subst, arith}
use Rattle.std.specs.List.{Any, Contains}
use Rattle.std.proofs.lemmas.Bool.{cases_eq, cases_lt}
use Rattle.std.proofs.lemmas.List.{get_or_default}
use Rattle.std.proofs.lemmas.List.Elements.{Contains-append_left, Contains-push, Contains-push_cases}
use Rattle.dd_alias.specs.declared.extent.Extent.{Extent}
use Rattle.dd_alias.specs.Clashes.{Clash}
use Rattle.dd_alias.specs.Waits.{AreWaits, IsBefore, IsBeforeOne}
use Rattle.dd_alias.proofs.PieceLemmas.{any_joined, joined}

-- P holds of one of the first n elements
abbrev pub AnyBefore : {X : Type 0} → ℕ → (X → Type 0) → List X → Type 0
AnyBefore n P xs = (k : ℕ) × (x : _) × (k < n) × (k < length xs) × (get_or xs k x ≡ x) × P x

before_more : {X : Type 0} (P : X → Type 0) (xs : List X) (n : ℕ) (x : X) → n < length xs → x ≡ get_or xs n x → AnyBefore (n + 1) P xs ↔ (AnyBefore n P xs ⊎ P x)
before_more P xs n x within is = (
  (λ any.
      ⊎_elim
      (λ (last : any.0 ≡ n).
      let same : any.1 ≡ x = sym any.4 ∙ subst (λ (k : ℕ). get_or xs k any.1 ≡ get_or xs n x) (sym last) (get_or_default xs n any.1 x within) ∙ sym is in
      inr (subst P same any.5))
      (λ (other : any.0 ≢ n). inl (any.0, any.1, omega (arith, any.2), any.3, any.4, any.5))
      (cases_eq any.0 n)),
  (λ either.
      ⊎_elim
      (λ (before : AnyBefore n P xs). (before.0, before.1, omega (arith, before.2), before.3, before.4, before.5))
      (λ (here : P x). (n, x, omega arith, within, sym is, here))
      either),
)

before_pass : {X : Type 0} (P : X → Type 0) (xs : List X) (n m : ℕ) → n ≤ m → ((k : ℕ) (x : X) → n ≤ k → k < m → k < length xs → get_or xs k x ≡ x → ¬ P x) → AnyBefore m P xs ↔ AnyBefore n P xs
before_pass P xs n m le none = (
  (λ any.
      ⊎_elim
      (λ (below : any.0 < n). (any.0, any.1, below, any.3, any.4, any.5))
      (λ (above : n ≤ any.0). absurd (none any.0 any.1 above any.2 any.3 any.4 any.5))
      (cases_lt any.0 n)),
  (λ any. (any.0, any.1, omega (arith, any.2), any.3, any.4, any.5)),
)

before_all : {X : Type 0} (P : X → Type 0) (xs : List X) (n : ℕ) → length xs ≤ n → AnyBefore n P xs ↔ Any P xs
before_all P xs n all = (
  (λ any. (any.0, any.1, any.3, any.4, any.5)),
  (λ any. (any.0, any.1, omega (arith, any.2), any.2, any.3, any.4)),
)

-- the numbers found so far: some old ones, and those that are found by the first n of some extents, or of their pieces
abbrev pub AreFoundBefore : {X : Type 0} → (ℕ → X → Type 0) → List X → ℕ → List ℕ → List ℕ → Type 0
AreFoundBefore P xs n old found = (u : ℕ) → Contains found u ↔ (Contains old u ⊎ AnyBefore n (P u) xs)

pub found_none : {X : Type 0} (P : ℕ → X → Type 0) (xs : List X) (old : List ℕ) → AreFoundBefore P xs 0 old old
found_none {X} P xs old u = (
  (λ has. inl has),
  (λ either. ⊎_elim (λ (before : Contains old u). before) (λ (any : AnyBefore 0 (P u) xs). absurd (omega (arith, any.2))) either),
)

pub found_more : {X : Type 0} (P : ℕ → X → Type 0) (xs : List X) (n : ℕ) (old found new : List ℕ) (e : X) → n < length xs → e ≡ get_or xs n e → AreFoundBefore P xs n old found
    → ((u : ℕ) → Contains new u ↔ (Contains found u ⊎ P u e)) → AreFoundBefore P xs (n + 1) old new
found_more {X} P xs n old found new e within is so_far adds u =
    let more = before_more (P u) xs n e within is in (
      (λ has.
          ⊎_elim
          (λ (there : Contains found u).
          ⊎_elim
          (λ (before : Contains old u). inl before)
          (λ (any : AnyBefore n (P u) xs). inr (more.1 (inl any)))
          ((so_far u).0 there))
          (λ (here : P u e). inr (more.1 (inr here)))
          ((adds u).0 has)),
      (λ either.
          (adds u).1 (⊎_elim
          (λ (before : Contains old u). inl ((so_far u).1 (inl before)))
          (λ (any : AnyBefore (n + 1) (P u) xs).
          ⊎_elim
          (λ (below : AnyBefore n (P u) xs). inl ((so_far u).1 (inr below)))
          (λ (here : P u e). inr here)
          (more.0 any))
          either)),
    )

pub found_pass : {X : Type 0} (P : ℕ → X → Type 0) (xs : List X) (n m : ℕ) (old found : List ℕ) → n ≤ m → ((k : ℕ) (e : X) → n ≤ k → k < m → k < length xs → get_or xs k e ≡ e → (u : ℕ) → ¬ P u e)
    → AreFoundBefore P xs n old found → AreFoundBefore P xs m old found
found_pass {X} P xs n m old found le none so_far u =
    let pass = before_pass (P u) xs n m le (λ k e low high within at. none k e low high within at u) in (
      (λ has. ⊎_elim (λ (before : Contains old u). inl before) (λ (any : AnyBefore n (P u) xs). inr (pass.1 any)) ((so_far u).0 has)),
      (λ either. (so_far u).1 (⊎_elim (λ (before : Contains old u). inl before) (λ (any : AnyBefore m (P u) xs). inr (pass.0 any)) either)),
    )

pub found_all : {X : Type 0} (P : ℕ → X → Type 0) (xs : List X) (n : ℕ) (old found : List ℕ) → length xs ≤ n → AreFoundBefore P xs n old found → (u : ℕ) → Contains found u ↔ (Contains old u ⊎ Any (P u) xs)
found_all {X} P xs n old found all so_far u =
    let same = before_all (P u) xs n all in (
      (λ has. ⊎_elim (λ (before : Contains old u). inl before) (λ (any : AnyBefore n (P u) xs). inr (same.0 any)) ((so_far u).0 has)),
      (λ either. (so_far u).1 (⊎_elim (λ (before : Contains old u). inl before) (λ (any : Any (P u) xs). inr (same.1 any)) either)),
    )

-- from all pieces
pub found_in_pieces : {X : Type 0} (P : ℕ → X → Type 0) (pieces : List (List X)) (n : ℕ) (old found : List ℕ) → length pieces ≤ n → AreFoundBefore (λ (u : ℕ) (p : List X). Any (P u) p) pieces n old found
    → (u : ℕ) → Contains found u ↔ (Contains old u ⊎ Any (P u) (joined pieces))
found_in_pieces {X} P pieces n old found all so_far u =
    let same = found_all (λ (u : ℕ) (p : List X). Any (P u) p) pieces n old found all so_far u in
    let flat = any_joined (P u) pieces in (
      (λ has. ⊎_elim (λ (before : Contains old u). inl before) (λ (any : Any (λ (p : List X). Any (P u) p) pieces). inr (flat.1 any)) (same.0 has)),
      (λ either. same.1 (⊎_elim (λ (before : Contains old u). inl before) (λ (any : Any (P u) (joined pieces)). inr (flat.0 any)) either)),
    )

-- from no old ones
pub waits_all : (extents own : List Extent) (number n : ℕ) (found : List ℕ) → length extents ≤ n → AreFoundBefore (IsBefore own number) extents n [] found → AreWaits extents own number found
waits_all extents own number n found all so_far u =
    let same = found_all (IsBefore own number) extents n [] found all so_far u in (
      (λ has.
          ⊎_elim
          (λ (before : Contains [] u). absurd (omega (arith, before.1)))
          (λ (any : Any (λ (e : Extent). IsBefore own number u e) extents). any)
          (same.0 has)),
      (λ any. same.1 (inr any)),
    )

-- a number that is pushed, and one that is there or isn't asked for
pub pushed : (C : Type 0) (number : ℕ) (e : Extent) (old new : List ℕ) → new ≡ old ++ e.task ∷ [] → e.task < number → C
    → (u : ℕ) → Contains new u ↔ (Contains old u ⊎ ((e.task ≡ u) × (u < number) × C))
pushed C number e old new is below clash u = rw is (
  (λ has.
      ⊎_elim
      (λ (before : Contains old u). inl before)
      (λ (last : e.task ≡ u). inr (last, omega arith, clash))
      (Contains-push_cases old e.task u has)),
  (λ either.
      ⊎_elim
      (λ (before : Contains old u). Contains-append_left old (e.task ∷ []) u before)
      (λ (here : (e.task ≡ u) × (u < number) × C). subst (λ (n : ℕ). Contains (old ++ e.task ∷ []) n) here.0 (Contains-push old e.task))
      either),
)

pub unchanged : {X : Type 0} (P : ℕ → X → Type 0) (e : X) (old : List ℕ) → ((u : ℕ) → P u e → Contains old u) → (u : ℕ) → Contains old u ↔ (Contains old u ⊎ P u e)
unchanged P e old there u = (
  (λ has. inl has),
  (λ either. ⊎_elim (λ (before : Contains old u). before) (λ (here : P u e). there u here) either),
)

-- what is found for the first k of the task's own extents
abbrev pub AreWaitsOf : List Extent → List Extent → ℕ → ℕ → List ℕ → Type 0
AreWaitsOf extents own number k found = (u : ℕ) → Contains found u ↔ Any (λ (e : Extent). (e.task ≡ u) × (u < number) × AnyBefore k (λ (o : Extent). Clash e.access.now o.access.now) own) extents

pub of_none : (extents own : List Extent) (number : ℕ) → AreWaitsOf extents own number 0 []
of_none extents own number u = (
  (λ has. absurd (omega (arith, has.1))),
  (λ any. absurd (omega (arith, any.4.2.2))),
)

pub of_more : (extents own : List Extent) (number k : ℕ) (old new : List ℕ) (o : Extent) → k < length own → o ≡ get_or own k o → AreWaitsOf extents own number k old
    → ((u : ℕ) → Contains new u ↔ (Contains old u ⊎ Any (λ (e : Extent). IsBeforeOne o number u e) extents)) → AreWaitsOf extents own number (k + 1) new
of_more extents own number k old new o within is so_far adds u =
    let C = λ (e o : Extent). Clash e.access.now o.access.now in
    let more = λ (e : Extent). before_more (C e) own k o within is in
    let P = λ (e : Extent). (e.task ≡ u) × (u < number) × AnyBefore k (C e) own in (
      (λ has.
          ⊎_elim
          (λ (before : Contains old u).
          let any = (so_far u).0 before in
          (any.0, any.1, any.2, any.3, (any.4.0, any.4.1, (more any.1).1 (inl any.4.2))))
          (λ (any : Any (λ (e : Extent). IsBeforeOne o number u e) extents). (any.0, any.1, any.2, any.3, (any.4.0, any.4.1, (more any.1).1 (inr any.4.2))))
          ((adds u).0 has)),
      (λ any.
          (adds u).1 (⊎_elim
          (λ (below : AnyBefore k (C any.1) own). inl ((so_far u).1 (any.0, any.1, any.2, any.3, (any.4.0, any.4.1, below))))
          (λ (here : C any.1 o). inr (any.0, any.1, any.2, any.3, (any.4.0, any.4.1, here)))
          ((more any.1).0 any.4.2))),
    )

pub of_all : (extents own : List Extent) (number k : ℕ) (found : List ℕ) → length own ≤ k → AreWaitsOf extents own number k found → AreWaits extents own number found
of_all extents own number k found all so_far u =
    let same = λ (e : Extent). before_all (λ (o : Extent). Clash e.access.now o.access.now) own k all in (
      (λ has.
          let any = (so_far u).0 has in
          (any.0, any.1, any.2, any.3, (any.4.0, any.4.1, (same any.1).0 any.4.2))),
      (λ any. (so_far u).1 (any.0, any.1, any.2, any.3, (any.4.0, any.4.1, (same any.1).1 any.4.2))),
    )
