-- A list after a write to all but its first elements.
use Rattle.std.proofs.Common.{◌≡◌, ℕ, zero, suc, ◌+◌, ◌-◌, ◌<◌, ◌≤◌, ℤ, pos, List, [], ◌∷◌, ◌++◌, length, take, drop, append_assoc, refl, ap, sym, ◌∙◌, arith}
use Rattle.std.proofs.lemmas.List.{drop_all, length-drop, append-nil, get_or-append_right, drop-drop, length_push}
use Rattle.std.proofs.lemmas.Slice.{drop-put_mid}
use Rattle.std.proofs.Math.Seq.{take-append_seam}
use borrow.Rule.Slice.PartMut.{put_mid}
use Rattle.dd_kernels.specs.Lists.{element}

-- what is past the first `a` elements is another list
pub put_rest : (a k : ℕ) (xs ys : List ℤ) → length xs ≤ a + k → put_mid a k xs ys ≡ take a xs ++ ys
put_rest a k xs ys short =
    let none = drop_all k (drop a xs) (omega (arith, length-drop a xs)) in
    ap (λ (l : List ℤ). take a xs ++ (ys ++ l)) none ∙ ap (λ (l : List ℤ). take a xs ++ l) (append-nil ys)

pub take_first : (xs : List ℤ) → 0 < length xs → take 1 xs ≡ element xs 0 ∷ []
take_first [] some = absurd (omega arith)
take_first (x ∷ xs) some = refl

-- all but the first element
pub put_tail : (k : ℕ) (xs ys : List ℤ) → 0 < length xs → length xs ≤ 1 + k → put_mid 1 k xs ys ≡ element xs 0 ∷ ys
put_tail k xs ys some short =
    put_rest 1 k xs ys short ∙ ap (λ (l : List ℤ). l ++ ys) (take_first xs some)

-- a list with an element between its front and its rest
pub up_to : (front ys : List ℤ) (k : ℤ) (c : ℕ) → length front ≡ c → take (c + 1) (front ++ k ∷ ys) ≡ front ++ k ∷ []
up_to front ys k c long =
    let whole : length (front ++ k ∷ []) ≡ c + 1 = omega (arith, length_push front k) in
    sym (ap (λ (l : List ℤ). take (c + 1) l) (append_assoc front (k ∷ []) ys)) ∙ (ap (λ (n : ℕ). take n ((front ++ k ∷ []) ++ ys)) (sym whole) ∙ take-append_seam (front ++ k ∷ []) ys)

pub past : (front ys : List ℤ) (k : ℤ) (c i : ℕ) → length front ≡ c → c + 1 ≤ i → element (front ++ k ∷ ys) i ≡ element ys (i - (c + 1))
past front ys k c i long beyond =
    let next : i - c ≡ suc (i - (c + 1)) = omega arith in
    get_or-append_right front (k ∷ ys) c i (pos 0) long (omega arith) ∙ ap (element (k ∷ ys)) next

-- what is before the rest
pub before_rest : (front ys : List ℤ) (c : ℕ) → length front ≡ c → take c (front ++ ys) ≡ front
before_rest front ys c long =
    sym (ap (λ (n : ℕ). take n (front ++ ys)) long) ∙ take-append_seam front ys

pub at_seam : (front ys : List ℤ) (k : ℤ) (c : ℕ) → length front ≡ c → element (front ++ k ∷ ys) c ≡ k
at_seam front ys k c long =
    let first : c - c ≡ zero = omega arith in
    get_or-append_right front (k ∷ ys) c c (pos 0) long (omega arith) ∙ ap (element (k ∷ ys)) first

-- what is past a part stays when the part is written
pub past_part : (start end k : ℕ) (xs ys old : List ℤ) → start ≤ end → end ≤ length xs → k ≡ end - start → length ys ≡ k → drop start xs ≡ drop start old → drop end (put_mid start k xs ys) ≡ drop end old
past_part start end k xs ys old order within width long same =
    let at : start + (end - start) ≡ end = omega arith in
    let left = drop-drop (end - start) start xs ∙ ap (λ (n : ℕ). drop n xs) at in
    let right = drop-drop (end - start) start old ∙ ap (λ (n : ℕ). drop n old) at in
    drop-put_mid start k xs ys end (omega arith) (omega arith) long ∙ (sym left ∙ (ap (λ (l : List ℤ). drop (end - start) l) same ∙ right))
