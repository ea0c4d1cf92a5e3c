-- What a search from one end of the list finds, and what holds of the block that goes first.
use Rattle.std.proofs.Common.{◌≡◌, ◌↔◌, ℕ, Bool, true, false, not, cond, nat_eq, List, [], ◌∷◌, reverse, filter, find, All, Contains, Option, Some, None, is_some, IsNone, IfSome, slice_get, refl, sym, ap, ◌∙◌}
use Rattle.std.specs.Cmp.{nat_eq_equiv, unsigned_Decides}
use Rattle.std.specs.List.{last_or, list_any}
use Rattle.std.specs.Option.{option_or}
use Rattle.std.specs.Set.{is_member}
use Rattle.std.proofs.lemmas.List.{reverse-append}
use Rattle.std.proofs.lemmas.List.Elements.{All-cons, All-contains_itself, All-filter, All-head, All-nil, All-tail, All-weaker, filter_passes}
use Rattle.std.proofs.lemmas.List.Folds.{find-append}
use Rattle.std.proofs.lemmas.Map.Made.{is_member-Decides}
use Rattle.dd_recency.specs.declared.policy.Policy.{Policy}
use Rattle.dd_recency.specs.declared.policy.Policy.TheVariants.{Lru, Mru}
use Rattle.dd_recency.specs.Victim.{unpinned, victim}

-- ---- searches
pub find_is_first : (p : ℕ → Bool) (xs : List ℕ) → find p xs ≡ slice_get (filter p xs) 0
find_is_first p [] = refl
find_is_first p (x ∷ xs) =
    elim (p x) as (λ y. cond y (Some x) (find p xs) ≡ slice_get (cond y (x ∷ filter p xs) (filter p xs)) 0) [ true ↦ refl | false ↦ find_is_first p xs ]

option_or-assoc : (a b c : Option ℕ) → option_or (option_or a b) c ≡ option_or a (option_or b c)
option_or-assoc None b c = refl
option_or-assoc (Some x) b c = refl

option_or-none : (a : Option ℕ) → option_or a None ≡ a
option_or-none None = refl
option_or-none (Some x) = refl

last_from_back : (p : ℕ → Bool) (o : Option ℕ) (xs : List ℕ) → option_or (find p (reverse xs)) o ≡ last_or o (filter p xs)
last_from_back p o [] = refl
last_from_back p o (x ∷ xs) =
    let back = find p (reverse xs) in
    ap (λ l. option_or (find p l) o) (reverse-append (x ∷ []) xs)
    ∙ ap (λ f. option_or f o) (find-append p (reverse xs) (x ∷ []))
    ∙ option_or-assoc back (find p (x ∷ [])) o
    ∙ elim (p x) as (λ y. option_or back (option_or (cond y (Some x) None) o) ≡ last_or o (cond y (x ∷ filter p xs) (filter p xs))) [
      | true ↦ last_from_back p (Some x) xs
      | false ↦ last_from_back p o xs
    ]

pub find_is_last : (p : ℕ → Bool) (xs : List ℕ) → find p (reverse xs) ≡ last_or None (filter p xs)
find_is_last p xs = sym (option_or-none (find p (reverse xs))) ∙ last_from_back p None xs

-- ---- the block that goes first
last_or-passes : (P : ℕ → Type 0) (o : Option ℕ) (xs : List ℕ) → IfSome o P → All P xs → IfSome (last_or o xs) P
last_or-passes P o [] h all = h
last_or-passes P o (x ∷ xs) h all = last_or-passes P (Some x) xs (All-head P x xs all) (All-tail P x xs all)

first_passes : (P : ℕ → Type 0) (xs : List ℕ) → All P xs → IfSome (slice_get xs 0) P
first_passes P [] all = tt
first_passes P (x ∷ xs) all = All-head P x xs all

-- what holds of each block that isn't pinned holds of it
victim-passes : (policy : Policy) (is_pinned : ℕ → Bool) (blocks : List ℕ) (P : ℕ → Type 0) → All P (unpinned is_pinned blocks) → IfSome (victim policy is_pinned blocks) P
victim-passes Lru is_pinned blocks P = last_or-passes P None (unpinned is_pinned blocks) tt
victim-passes Mru is_pinned blocks P = first_passes P (unpinned is_pinned blocks)

pub victim-among : (policy : Policy) (is_pinned : ℕ → Bool) (blocks : List ℕ) → IfSome (victim policy is_pinned blocks) (Contains blocks)
victim-among policy is_pinned blocks =
    victim-passes policy is_pinned blocks (Contains blocks) (All-filter (λ b. not (is_pinned b)) (Contains blocks) blocks (All-contains_itself blocks))

free_of : (b : Bool) → not b ≡ true → b ≡ false
free_of true free = cc
free_of false free = refl

pub victim-unpinned : (policy : Policy) (is_pinned : ℕ → Bool) (blocks : List ℕ) → IfSome (victim policy is_pinned blocks) (λ b. is_pinned b ≡ false)
victim-unpinned policy is_pinned blocks =
    let free = λ (b : ℕ). not (is_pinned b) in
    victim-passes policy is_pinned blocks (λ b. is_pinned b ≡ false) (All-weaker (λ b. free b ≡ true) (λ b. is_pinned b ≡ false) (λ b. free_of (is_pinned b)) (unpinned is_pinned blocks) (filter_passes free blocks))

-- ---- where there is none
last_or-some : (x : ℕ) (xs : List ℕ) → is_some (last_or (Some x) xs) ≡ true
last_or-some x [] = refl
last_or-some x (y ∷ ys) = last_or-some y ys

nil_from_last : (xs : List ℕ) → IsNone (last_or None xs) → xs ≡ []
nil_from_last [] h = refl
nil_from_last (x ∷ xs) h = let some : is_some (last_or (Some x) xs) ≡ true = last_or-some x xs in cc

nil_from_first : (xs : List ℕ) → IsNone (slice_get xs 0) → xs ≡ []
nil_from_first [] h = refl
nil_from_first (x ∷ xs) h = cc

nil_from_none : (policy : Policy) (is_pinned : ℕ → Bool) (blocks : List ℕ) → IsNone (victim policy is_pinned blocks) → unpinned is_pinned blocks ≡ []
nil_from_none Lru is_pinned blocks = nil_from_last (unpinned is_pinned blocks)
nil_from_none Mru is_pinned blocks = nil_from_first (unpinned is_pinned blocks)

none_from_nil : (policy : Policy) (is_pinned : ℕ → Bool) (blocks : List ℕ) → unpinned is_pinned blocks ≡ [] → IsNone (victim policy is_pinned blocks)
none_from_nil Lru is_pinned blocks e = ap (λ l. is_some (last_or None l)) e
none_from_nil Mru is_pinned blocks e = ap (λ l. is_some (slice_get l 0)) e

pinned_from_nil : (is_pinned : ℕ → Bool) (blocks : List ℕ) → unpinned is_pinned blocks ≡ [] → All (λ b. is_pinned b ≡ true) blocks
pinned_from_nil is_pinned [] e = All-nil (λ b. is_pinned b ≡ true)
pinned_from_nil is_pinned (b ∷ bs) e =
    (elim (is_pinned b) as (λ y. is_pinned b ≡ y → cond (not y) (b ∷ unpinned is_pinned bs) (unpinned is_pinned bs) ≡ [] → All (λ b. is_pinned b ≡ true) (b ∷ bs)) [
      | true ↦ λ t rest. All-cons (λ b. is_pinned b ≡ true) b bs t (pinned_from_nil is_pinned bs rest)
      | false ↦ λ t rest. cc
    ]) refl e

nil_from_pinned : (is_pinned : ℕ → Bool) (blocks : List ℕ) → All (λ b. is_pinned b ≡ true) blocks → unpinned is_pinned blocks ≡ []
nil_from_pinned is_pinned [] all = refl
nil_from_pinned is_pinned (b ∷ bs) all =
    let t : is_pinned b ≡ true = All-head (λ b. is_pinned b ≡ true) b bs all in
    rw t (nil_from_pinned is_pinned bs (All-tail (λ b. is_pinned b ≡ true) b bs all))

pub all_pinned : (policy : Policy) (is_pinned : ℕ → Bool) (blocks : List ℕ) → IsNone (victim policy is_pinned blocks) → All (λ b. is_pinned b ≡ true) blocks
all_pinned policy is_pinned blocks none = pinned_from_nil is_pinned blocks (nil_from_none policy is_pinned blocks none)

pub none_left : (policy : Policy) (is_pinned : ℕ → Bool) (blocks : List ℕ) → All (λ b. is_pinned b ≡ true) blocks → IsNone (victim policy is_pinned blocks)
none_left policy is_pinned blocks all = none_from_nil policy is_pinned blocks (nil_from_pinned is_pinned blocks all)

-- ---- what is pinned by a list
is_listed : (pinned : List ℕ) (b : ℕ) → Contains pinned b → is_member nat_eq pinned b ≡ true
is_listed pinned b = (is_member-Decides unsigned_Decides pinned b).1

pub none_listed : (pinned blocks : List ℕ) → All (λ b. is_member nat_eq pinned b ≡ true) blocks ↔ All (Contains pinned) blocks
none_listed pinned blocks = (
  All-weaker (λ b. is_member nat_eq pinned b ≡ true) (Contains pinned) (λ b. (is_member-Decides unsigned_Decides pinned b).0) blocks,
  All-weaker (Contains pinned) (λ b. is_member nat_eq pinned b ≡ true) (is_listed pinned) blocks,
)

not_listed : (pinned : List ℕ) (b : ℕ) → is_member nat_eq pinned b ≡ false → ¬ Contains pinned b
not_listed pinned b free has = let t : is_member nat_eq pinned b ≡ true = is_listed pinned b has in cc

pub unlisted : (pinned : List ℕ) (o : Option ℕ) → IfSome o (λ b. is_member nat_eq pinned b ≡ false) → IfSome o (λ b. ¬ Contains pinned b)
unlisted pinned None free = tt
unlisted pinned (Some b) free = not_listed pinned b free

-- a slice's `contains` asks the other way round
pub member_from_contains : (xs : List ℕ) (b : ℕ) → list_any (λ y. nat_eq y b) xs ≡ is_member nat_eq xs b
member_from_contains [] b = refl
member_from_contains (x ∷ xs) b =
    let turned : nat_eq x b ≡ nat_eq b x = nat_eq_equiv.symm x b in
    let rest : list_any (λ y. nat_eq y b) xs ≡ is_member nat_eq xs b = member_from_contains xs b in
    cc
