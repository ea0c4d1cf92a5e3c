-- Rows by their numbers, and what holds of rows where some are appended.
use Rattle.std.proofs.Common.{◌≡◌, ℕ, zero, suc, ◌-◌, ◌+◌, ◌<◌, ◌≤◌, List, [], ◌∷◌, ◌++◌, length, get_or, map, refl, ap, sym, subst, ◌∙◌, ◌⊎◌, inl, inr, ⊎_elim, arith}
use Rattle.std.specs.List.{All, Any}
use Rattle.std.specs.List.Sorted.{IsNonDecreasingBy}
use Rattle.std.proofs.lemmas.Bool.{cases_lt}
use Rattle.std.proofs.lemmas.List.{get_or_append_left, get_or-append_right, get_or-append-add, get_or_push, length-append}
use Rattle.std.proofs.lemmas.List.Elements.{All-cons, All-from_get_or, All-nil}
use Rattle.dd_blocks.specs.Numbered.{IsNumberIn, numbered}

-- a row that is there stays where rows are appended
pub numbered_kept : {Row : Type 0} (none : Row) (rows more : List Row) (n : ℕ) → IsNumberIn rows n → numbered none (rows ++ more) n ≡ numbered none rows n
numbered_kept none rows more zero number = refl
numbered_kept none rows more (suc n) number = get_or_append_left rows more none n (omega arith)

pub numbered_more : {Row : Type 0} (none : Row) (rows more : List Row) (n : ℕ) → 1 ≤ n → numbered none (rows ++ more) (length rows + n) ≡ numbered none more n
numbered_more none rows more zero some = absurd (omega arith)
numbered_more none rows more (suc n) some =
    let e : length rows + suc n ≡ suc (length rows + n) = omega arith in
    ap (numbered none (rows ++ more)) e ∙ get_or-append-add rows more n none

pub IsNumberIn_more : {Row : Type 0} (rows more : List Row) (n : ℕ) → IsNumberIn rows n → IsNumberIn (rows ++ more) n
IsNumberIn_more rows more n number = (number.0, rw length-append (omega arith))

pub number_within : {A B : Type 0} (xs : List A) (ys : List B) (n : ℕ) → length xs ≤ length ys → IsNumberIn xs n → IsNumberIn ys n
number_within xs ys n le number = (number.0, omega arith)

pub All_numbered : {Row : Type 0} (P : Row → Type 0) (none : Row) (rows : List Row) (n : ℕ) → All P rows → IsNumberIn rows n → P (numbered none rows n)
All_numbered P none rows zero all number = absurd (omega arith)
All_numbered P none rows (suc n) all number = all n none (omega arith)

pub All_from_numbered : {Row : Type 0} (P : Row → Type 0) (none : Row) (rows : List Row) → ((n : ℕ) → IsNumberIn rows n → P (numbered none rows n)) → All P rows
All_from_numbered P none rows each = All-from_get_or P rows none (λ i lt. each (suc i) (omega arith, omega arith))

-- of an element of a list all holds that holds of each
pub All_any : {X : Type 0} (P Q : X → Type 0) (xs : List X) → All P xs → (any : Any Q xs) → P any.1
All_any P Q xs all any = subst P any.3 (all any.0 any.1 any.2)

pub All_one : {X : Type 0} (P : X → Type 0) (x : X) → P x → All P (x ∷ [])
All_one P x holds = All-cons P x [] holds (All-nil P)

pub All_none : {X : Type 0} (P : X → Type 0) (xs : List X) → xs ≡ [] → All P xs
All_none P xs none = rw none (λ k d lt. absurd (omega arith))

pub Any_push_cases : {X : Type 0} (P : X → Type 0) (xs : List X) (y : X) → Any P (xs ++ y ∷ []) → Any P xs ⊎ P y
Any_push_cases P xs y any = ⊎_elim
    (λ (lt : any.0 < length xs). inl (any.0, any.1, lt, sym (get_or_append_left xs (y ∷ []) any.1 any.0 lt) ∙ any.3, any.4))
    (λ (ge : length xs ≤ any.0).
    let within : any.0 < length xs + 1 = rw length-append at any.2 in
    let last : length xs ≡ any.0 = omega arith in
    inr (subst P (sym any.3 ∙ get_or_push xs y any.1 any.0 last) any.4))
    (cases_lt any.0 (length xs))

-- numbers that never fall, where higher ones are appended
pub rises_append : {X : Type 0} (f : X → ℕ) (m : ℕ) (xs ys : List X) → IsNonDecreasingBy f xs → IsNonDecreasingBy f ys → All (λ x. f x ≤ m) xs → All (λ y. m ≤ f y) ys → IsNonDecreasingBy f (xs ++ ys)
rises_append f m xs ys rise_x rise_y low high i j d le lt =
    let long : j < length xs + length ys = rw length-append at lt in
    ⊎_elim
    (λ (in_x : j < length xs). rw (get_or_append_left xs ys d j in_x) (rw (get_or_append_left xs ys d i (omega arith)) (rise_x i j d le in_x)))
    (λ (in_y : length xs ≤ j).
    let right : f (get_or (xs ++ ys) j d) ≡ f (get_or ys (j - length xs) d) = ap f (get_or-append_right xs ys (length xs) j d refl in_y) in
    ⊎_elim
    (λ (i_x : i < length xs).
    let left : f (get_or (xs ++ ys) i d) ≡ f (get_or xs i d) = ap f (get_or_append_left xs ys d i i_x) in
    omega (arith, left, right, low i d i_x, high (j - length xs) d (omega arith)))
    (λ (i_y : length xs ≤ i).
    let left : f (get_or (xs ++ ys) i d) ≡ f (get_or ys (i - length xs) d) = ap f (get_or-append_right xs ys (length xs) i d refl i_y) in
    omega (arith, left, right, rise_y (i - length xs) (j - length xs) d (omega arith) (omega arith)))
    (cases_lt i (length xs)))
    (cases_lt j (length xs))

pub rises_one : {X : Type 0} (f : X → ℕ) (y : X) → IsNonDecreasingBy f (y ∷ [])
rises_one f y i j d le lt =
    let e : i ≡ j = omega arith in rw e (omega arith)

-- two functions that agree at each element
pub map_agree : {X Y : Type 0} (f g : X → Y) (xs : List X) → All (λ x. f x ≡ g x) xs → map f xs ≡ map g xs
map_agree f g [] all = refl
map_agree f g (x ∷ xs) all =
    let first : f x ≡ g x = all 0 x (omega arith) in
    let rest : map f xs ≡ map g xs = map_agree f g xs (λ k d lt. all (suc k) d (omega arith)) in
    cc
