-- Lemmas on lists that a loop changes in place.
use Rattle.std.proofs.Common.{◌≡◌, ℕ, ℤ, ◌+◌, ◌<◌, List, [], ◌∷◌, ◌++◌, length, take, drop, set, get_or, map, append_assoc, add-one, ap, sym, ◌∙◌, pos, zero, suc, ◌≤◌, refl, arith}
use Rattle.std.proofs.lemmas.List.{take_more_set, drop-set-lt, drop_more, drop-drop, get_or-drop, take_all}
use Rattle.std.proofs.Math.Seq.{take-suc}
use Rattle.dd_kernels.specs.Lists.{element, zip_with, tabulate}

pub ap2 : {A B C : Type 0} (f : A → B → C) {a a' : A} {b b' : B} → a ≡ a' → b ≡ b' → f a b ≡ f a' b'
ap2 f {a = a} {b' = b'} p q = ap (f a) q ∙ ap (λ x. f x b') p

-- one place more: a list that is done below `i`, with what is still to come, keeps its value where the place `i` gets its own
pub zip_with_more : (f : ℤ → ℤ → ℤ) (xs ys all : List ℤ) (i : ℕ) (z d : ℤ) → i < length xs → i < length ys → z ≡ f (get_or xs i d) (get_or ys i d) → take i xs ++ zip_with f (drop i xs) (drop i ys) ≡ all → take (i + 1) (set xs i z) ++ zip_with f (drop (i + 1) (set xs i z)) (drop (i + 1) ys) ≡ all
zip_with_more f xs ys all i z d in_xs in_ys value so_far =
    let done = take_more_set xs i z in_xs in
    let left = drop-set-lt (i + 1) xs i z (omega arith) in
    let next_x = drop_more xs i d in_xs in
    let next_y = drop_more ys i d in_ys in
    let joined = append_assoc (take i xs) (z ∷ []) (zip_with f (drop (i + 1) xs) (drop (i + 1) ys)) in
    cc

-- the same for a list alone
pub map_more_set : (f : ℤ → ℤ) (xs all : List ℤ) (i : ℕ) (z d : ℤ) → i < length xs → z ≡ f (get_or xs i d) → take i xs ++ map f (drop i xs) ≡ all → take (i + 1) (set xs i z) ++ map f (drop (i + 1) (set xs i z)) ≡ all
map_more_set f xs all i z d in_xs value so_far =
    let done = take_more_set xs i z in_xs in
    let left = drop-set-lt (i + 1) xs i z (omega arith) in
    let next = drop_more xs i d in_xs in
    let joined = append_assoc (take i xs) (z ∷ []) (map f (drop (i + 1) xs)) in
    cc

-- one place more of a list that has `f` at each place
pub tabulate_more : (f : ℕ → ℤ) (xs : List ℤ) (i : ℕ) (z : ℤ) → i < length xs → z ≡ f i → take i xs ≡ tabulate i f → take (i + 1) (set xs i z) ≡ tabulate (i + 1) f
tabulate_more f xs i z within value so_far =
    let done = take_more_set xs i z within in
    let one : tabulate (i + 1) f ≡ tabulate i f ++ f i ∷ [] = rw add-one in
    cc

-- two lists that are the same from `i` on have one element there
pub same_ahead : (xs ys : List ℤ) (i : ℕ) → drop i xs ≡ drop i ys → element xs i ≡ element ys i
same_ahead xs ys i same =
    let at : i + 0 ≡ i = omega arith in
    let left = get_or-drop i xs 0 (pos 0) in
    let right = get_or-drop i ys 0 (pos 0) in
    cc

-- a write at `i` leaves what is past it
pub drop_past_set : (xs ys : List ℤ) (i : ℕ) (z : ℤ) → drop i xs ≡ drop i ys → drop (i + 1) (set xs i z) ≡ drop (i + 1) ys
drop_past_set xs ys i z same = drop-set-lt (i + 1) xs i z (omega arith) ∙ (sym (drop-drop 1 i xs) ∙ (ap (λ (l : List ℤ). drop 1 l) same ∙ drop-drop 1 i ys))

-- a list that has `f` at each place
pub tabulated : (f : ℕ → ℤ) (n : ℕ) (xs : List ℤ) → n ≤ length xs → ((i : ℕ) → i < n → element xs i ≡ f i) → take n xs ≡ tabulate n f
tabulated f zero xs within each = refl
tabulated f (suc n) xs within each =
    take-suc xs n (pos 0) (omega arith) ∙ ap2 (λ (l : List ℤ) (z : ℤ). l ++ z ∷ []) (tabulated f n xs (omega arith) (λ i below. each i (omega arith))) (each n (omega arith))

pub tabulated_whole : (f : ℕ → ℤ) (xs : List ℤ) → ((i : ℕ) → i < length xs → element xs i ≡ f i) → xs ≡ tabulate (length xs) f
tabulated_whole f xs each = sym (take_all (length xs) xs (omega arith)) ∙ tabulated f (length xs) xs (omega arith) each

-- a list of one element with that element written
pub one_element : (xs : List ℤ) (z : ℤ) → length xs ≡ 1 → set xs 0 z ≡ z ∷ []
one_element [] z single = absurd (omega arith)
one_element (x ∷ []) z single = refl
one_element (x ∷ y ∷ more) z single = absurd (omega arith)
