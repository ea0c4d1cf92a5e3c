-- The place of an element in a list that is moved round its end.
use Rattle.std.proofs.Common.{◌≡◌, ℕ, ◌+◌, ◌-◌, ◌*◌, ◌/◌, ◌%◌, ◌<◌, ◌≤◌, ℤ, pos, negsuc, ◌+ℤ◌, unsigned_abs, List, length, inl, inr, refl, ap, sym, ◌∙◌, arith}
use Rattle.std.specs.Int.{int_rem_euclid}
use Rattle.std.proofs.lemmas.Int.{ints, int_rem_euclid_is}
use Rattle.std.proofs.lemmas.Bool.{cases_lt}
use Rattle.std.proofs.Math.Nat.{add-mul-mod_self_right, add-mod_right, mod-add-div', mod-eq_of_lt}
use Rattle.std.specs.List.{RotatedLeft}
use Rattle.dd_kernels.specs.Lists.{element, rotated, tabulate}
use Rattle.dd_kernels.proofs.ListsLemmas.{tabulated_whole}

-- what is left of `k` round `n` places
left_of : ℤ → ℕ → ℕ
left_of k n = unsigned_abs (int_rem_euclid k (pos n))

left_is : (k : ℤ) (n : ℕ) → int_rem_euclid k (pos n) ≡ pos (left_of k n)
unfolding left_of
left_is (pos a) n = refl
left_is (negsuc a) n = refl

left_below : (k : ℤ) (n : ℕ) → 0 < n → left_of k n < n
unfolding left_of
left_below (pos a) n some = omega arith
left_below (negsuc a) n some = omega arith

-- a place counted on by `k` is the place counted on by what is left of `k` round the end
place_on : (k : ℤ) (n i m : ℕ) → 0 < n → int_rem_euclid k (pos n) ≡ pos m → int_rem_euclid (pos i +ℤ k) (pos n) ≡ pos ((i + m) % n)
place_on (pos a) n i m some is =
    let rest : a % n ≡ m = cc in
    let whole : i + a ≡ (i + m) + a / n * n = omega (arith, mod-add-div' a n) in
    ap (λ (t : ℕ). pos (t % n)) whole ∙ ap pos (add-mul-mod_self_right (i + m) (a / n) n)
place_on (negsuc a) n i m some is =
    let rest : n - 1 - a % n ≡ m = cc in
    int_rem_euclid_is (pos i +ℤ negsuc a) (pos n) n (a / n + 1) (i + m) some refl (omega (arith, ints, mod-add-div' a n))

-- the place, where it stays below the end and where it goes past it
place_below : (i m n : ℕ) → i + m < n → (i + m) % n ≡ i + m
place_below i m n below = mod-eq_of_lt below

place_past : (i m n : ℕ) → i < n → m < n → n ≤ i + m → (i + m) % n ≡ i + m - n
place_past i m n in_i in_m past =
    let split : i + m ≡ (i + m - n) + n = omega arith in
    ap (λ (t : ℕ). t % n) split ∙ (add-mod_right (i + m - n) n ∙ mod-eq_of_lt (omega arith))

moved_to : (k : ℤ) (xs ys : List ℤ) (m i : ℕ) → m < length xs → i < length xs → int_rem_euclid k (pos (length xs)) ≡ pos m → RotatedLeft xs ys (length xs) m → element ys i ≡ element xs (unsigned_abs (int_rem_euclid (pos i +ℤ k) (pos (length xs))))
moved_to k xs ys m i within in_i is moved =
    let at = ap unsigned_abs (place_on k (length xs) i m (omega arith) is) in
    elim (cases_lt (i + m) (length xs)) [
      | inl below ↦ moved.0 i (pos 0) below ∙ sym (ap (element xs) (at ∙ place_below i m (length xs) below))
      | inr past ↦ moved.1 i (pos 0) past in_i ∙ sym (ap (element xs) (at ∙ place_past i m (length xs) in_i within past))
    ]

-- a list moved to the front by what is left of `k` round its end
pub rotated_is : (k : ℤ) (xs ys : List ℤ) (m : ℤ) → 0 < length xs → length ys ≡ length xs → m ≡ int_rem_euclid k (pos (length xs)) → RotatedLeft xs ys (length xs) (unsigned_abs m) → ys ≡ rotated k xs
rotated_is k xs ys m some same is moved =
    let f : ℕ → ℤ = λ i. element xs (unsigned_abs (int_rem_euclid (pos i +ℤ k) (pos (length xs)))) in
    let n = length xs in
    let at : m ≡ pos (left_of k n) = is ∙ left_is k n in
    let turned = rw at at moved in
    tabulated_whole f ys (λ i below. moved_to k xs ys (left_of k n) i (left_below k n some) (omega arith) (left_is k n) turned) ∙ ap (λ (l : ℕ). tabulate l f) same
