-- Lists that are changed by blocks of eight.
use Rattle.std.proofs.Common.{◌≡◌, ℕ, ℤ, pos, ◌+ℤ◌, zero, ◌+◌, ◌-◌, ◌≤◌, ◌<◌, List, [], ◌∷◌, ◌++◌, suc, length, take, drop, map, replicate, append_assoc, append-nil, refl, ap, sym, ◌∙◌, arith}
use Rattle.std.specs.List.{between}
use Rattle.std.proofs.lemmas.List.{take-append-drop, drop-drop, drop_all, length-map, map-append}
use Rattle.std.specs.Int.{w64}
use Rattle.std.proofs.lemmas.Int.{int_wrap-add_left}
use Rattle.std.proofs.Math.IntN.{+ℤ_assoc, +ℤ_idr}
use Rattle.std.proofs.lemmas.List.Edits.{length-between}
use Rattle.std.proofs.Math.Seq.{take-add}
use Rattle.std.proofs.lemmas.Slice.{take-put_mid, drop-put_mid}
use borrow.Rule.Slice.PartMut.{put_mid}
use Rattle.dd_kernels.specs.Lists.{wrapped, element, zip_with, tabulate, sum_below}
use Rattle.dd_kernels.proofs.ListsLemmas.{ap2}
use Rattle.dd_kernels.proofs.MatricesLemmas.{length_tabulate, length_zip_with, sum_below_same, tabulate_same}

-- what is left is a block and what is left after it
split_block : (xs : List ℤ) (n next : ℕ) → next ≡ n + 8 → drop n xs ≡ between n (n + 8) xs ++ drop next xs
split_block xs n next is =
    let width : n + 8 - n ≡ 8 = omega arith in
    sym (take-append-drop 8 (drop n xs)) ∙ ap2 ◌++◌ (ap (λ (w : ℕ). take w (drop n xs)) (sym width)) (drop-drop 8 n xs ∙ ap (λ (m : ℕ). drop m xs) (sym is))

-- one block more
pub map_block_more : (f : ℤ → ℤ) (n next k : ℕ) (xs ys all : List ℤ) → n + 8 ≤ length xs → next ≡ n + 8 → k ≡ 8 → ys ≡ map f (between n (n + 8) xs) → take n xs ++ map f (drop n xs) ≡ all → take next (put_mid n k xs ys) ++ map f (drop next (put_mid n k xs ys)) ≡ all
map_block_more f n next k xs ys all within is width block so_far =
    let long : length ys ≡ 8 = ap length block ∙ (length-map (between n (n + 8) xs) f ∙ omega (arith, length-between xs n (n + 8) within)) in
    let front = take-put_mid n k xs ys next (omega (arith, long)) (omega arith) in
    let later = drop-put_mid n k xs ys next (omega arith) (omega arith) (long ∙ sym width) in
    let split = ap (map f) (split_block xs n next is) ∙ map-append f (between n (n + 8) xs) (drop next xs) in
    let joined = append_assoc (take n xs) ys (map f (drop next xs)) in
    cc

zip_with-append : (f : ℤ → ℤ → ℤ) (us xs vs ys : List ℤ) → length us ≡ length vs → zip_with f (us ++ xs) (vs ++ ys) ≡ zip_with f us vs ++ zip_with f xs ys
zip_with-append f [] xs [] ys same = refl
zip_with-append f [] xs (v ∷ vs) ys same = absurd (omega arith)
zip_with-append f (u ∷ us) xs [] ys same = absurd (omega arith)
zip_with-append f (u ∷ us) xs (v ∷ vs) ys same = ap (λ (l : List ℤ). f u v ∷ l) (zip_with-append f us xs vs ys (omega arith))

-- the same for two lists
pub zip_block_more : (f : ℤ → ℤ → ℤ) (n next k : ℕ) (xs ys new all : List ℤ) → n + 8 ≤ length xs → n + 8 ≤ length ys → next ≡ n + 8 → k ≡ 8 → new ≡ zip_with f (between n (n + 8) xs) (between n (n + 8) ys) → take n xs ++ zip_with f (drop n xs) (drop n ys) ≡ all → take next (put_mid n k xs new) ++ zip_with f (drop next (put_mid n k xs new)) (drop next ys) ≡ all
zip_block_more f n next k xs ys new all in_xs in_ys is width block so_far =
    let long_x = length-between xs n (n + 8) in_xs in
    let long_y = length-between ys n (n + 8) in_ys in
    let same : length (between n (n + 8) xs) ≡ length (between n (n + 8) ys) = omega (arith, long_x, long_y) in
    let long : length new ≡ 8 = ap length block ∙ (length_zip_with f (between n (n + 8) xs) (between n (n + 8) ys) same ∙ omega (arith, long_x)) in
    let front = take-put_mid n k xs new next (omega (arith, long)) (omega arith) in
    let later = drop-put_mid n k xs new next (omega arith) (omega arith) (long ∙ sym width) in
    let split = ap2 (zip_with f) (split_block xs n next is) (split_block ys n next is) ∙ zip_with-append f (between n (n + 8) xs) (drop next xs) (between n (n + 8) ys) (drop next ys) same in
    let joined = append_assoc (take n xs) new (zip_with f (drop next xs) (drop next ys)) in
    cc

-- one number in each place
pub map_to_one : (k : ℤ) (xs : List ℤ) → map (λ _. k) xs ≡ replicate (length xs) k
map_to_one k [] = refl
map_to_one k (x ∷ xs) = ap (λ (l : List ℤ). k ∷ l) (map_to_one k xs)

-- a list that is written from a place to its end
pub put_end : (n k : ℕ) (xs ys : List ℤ) → length xs ≤ n + k → put_mid n k xs ys ≡ take n xs ++ ys
put_end n k xs ys whole =
    let none : drop k (drop n xs) ≡ [] = drop-drop k n xs ∙ drop_all (n + k) xs whole in
    ap (λ (l : List ℤ). take n xs ++ l) (ap (λ (l : List ℤ). ys ++ l) none ∙ append-nil ys)

-- a list that has a function at each place, in two parts
pub tabulate_split : (n m : ℕ) (f : ℕ → ℤ) → tabulate (n + m) f ≡ tabulate n f ++ tabulate m (λ i. f (n + i))
tabulate_split n zero f = let none : n + 0 ≡ n = omega arith in rw none (sym (append-nil (tabulate n f)))
tabulate_split n (suc m) f =
    let more : n + suc m ≡ suc (n + m) = omega arith in
    rw more (ap (λ (l : List ℤ). l ++ f (n + m) ∷ []) (tabulate_split n m f) ∙ append_assoc (tabulate n f) (tabulate m (λ i. f (n + i))) (f (n + m) ∷ []))

-- a sum in two parts
pub sum_split : (n m : ℕ) (f : ℕ → ℤ) → sum_below (n + m) f ≡ sum_below n f +ℤ sum_below m (λ i. f (n + i))
sum_split n zero f = let none : n + 0 ≡ n = omega arith in rw none (sym (+ℤ_idr (sum_below n f)))
sum_split n (suc m) f =
    let more : n + suc m ≡ suc (n + m) = omega arith in
    rw more (ap (λ (z : ℤ). z +ℤ f (n + m)) (sum_split n m f) ∙ +ℤ_assoc (sum_below n f) (sum_below m (λ i. f (n + i))) (f (n + m)))

-- the sum of a part added to that of what is before it
pub sum_part_more : (ys part : List ℤ) (n m : ℕ) (s r : ℤ) → length part ≡ m → ((i : ℕ) → i < m → element part i ≡ element ys (n + i)) → s ≡ wrapped (sum_below n (element ys)) → r ≡ wrapped (s +ℤ sum_below (length part) (element part)) → r ≡ wrapped (sum_below (n + m) (element ys))
sum_part_more ys part n m s r long each before added =
    let same : sum_below (length part) (element part) ≡ sum_below m (λ i. element ys (n + i)) = ap (λ (l : ℕ). sum_below l (element part)) long ∙ sum_below_same m (element part) (λ i. element ys (n + i)) each in
    added ∙ (ap2 (λ (a b : ℤ). wrapped (a +ℤ b)) before same ∙ (int_wrap-add_left w64 (sum_below n (element ys)) (sum_below m (λ i. element ys (n + i))) ∙ ap wrapped (sym (sum_split n m (element ys)))))

-- numbers that count on from a place
pub counted_part : (k first : ℤ) (n m : ℕ) → first ≡ wrapped (k +ℤ pos n) → tabulate m (λ i. wrapped (first +ℤ pos i)) ≡ tabulate m (λ i. wrapped (k +ℤ pos (n + i)))
counted_part k first n m is = tabulate_same m (λ i. wrapped (first +ℤ pos i)) (λ i. wrapped (k +ℤ pos (n + i))) (λ i below. ap (λ (z : ℤ). wrapped (z +ℤ pos i)) is ∙ (int_wrap-add_left w64 (k +ℤ pos n) (pos i) ∙ ap wrapped (+ℤ_assoc k (pos n) (pos i))))

pub count_parts : (k first : ℤ) (n m next : ℕ) (xs ys : List ℤ) → next ≡ n + m → first ≡ wrapped (k +ℤ pos n) → ys ≡ tabulate m (λ i. wrapped (first +ℤ pos i)) → xs ≡ tabulate n (λ i. wrapped (k +ℤ pos i)) → xs ++ ys ≡ tabulate next (λ i. wrapped (k +ℤ pos i))
count_parts k first n m next xs ys is from written so_far =
    ap2 ◌++◌ so_far (written ∙ counted_part k first n m from) ∙ (sym (tabulate_split n m (λ i. wrapped (k +ℤ pos i))) ∙ ap (λ (l : ℕ). tabulate l (λ i. wrapped (k +ℤ pos i))) (sym is))

pub count_more : (k first : ℤ) (n m next w : ℕ) (xs ys : List ℤ) → n ≤ length xs → next ≡ n + m → first ≡ wrapped (k +ℤ pos n) → ys ≡ tabulate m (λ i. wrapped (first +ℤ pos i)) → take n xs ≡ tabulate n (λ i. wrapped (k +ℤ pos i)) → take next (put_mid n w xs ys) ≡ tabulate next (λ i. wrapped (k +ℤ pos i))
count_more k first n m next w xs ys within is from written so_far =
    let long : length ys ≡ m = ap length written ∙ length_tabulate m (λ i. wrapped (first +ℤ pos i)) in
    take-put_mid n w xs ys next (omega (arith, long)) within ∙ count_parts k first n m next (take n xs) ys is from written so_far

-- a block that is taken from another list: the front up to its end is that list's, and what is past it stays
pub taken_block : (n next w : ℕ) (xs ys from old new : List ℤ) → n + 8 ≤ length xs → n + 8 ≤ length ys → next ≡ n + 8 → w ≡ 8 → new ≡ between n (n + 8) ys → (take n xs ≡ take n from) × (drop n xs ≡ drop n old) → drop n ys ≡ drop n from → (take next (put_mid n w xs new) ≡ take next from) × (drop next (put_mid n w xs new) ≡ drop next old)
taken_block n next w xs ys from old new in_xs in_ys is width block so_far same =
    let long : length new ≡ 8 = ap length block ∙ omega (arith, length-between ys n (n + 8) in_ys) in
    let on : n + 8 - n ≡ 8 = omega arith in
    let here : new ≡ take 8 (drop n from) = block ∙ ap2 (λ (k : ℕ) (l : List ℤ). take k l) on same in
    let whole : take next from ≡ take n from ++ take 8 (drop n from) = ap (λ (m : ℕ). take m from) is ∙ take-add n 8 from in
    let later : drop next xs ≡ drop next old = ap (λ (m : ℕ). drop m xs) is ∙ (sym (drop-drop 8 n xs) ∙ (ap (λ (l : List ℤ). drop 8 l) so_far.1 ∙ (drop-drop 8 n old ∙ ap (λ (m : ℕ). drop m old) (sym is)))) in
    (take-put_mid n w xs new next (omega (arith, long)) (omega arith) ∙ (ap2 ◌++◌ so_far.0 here ∙ sym whole), drop-put_mid n w xs new next (omega arith) (omega arith) (long ∙ sym width) ∙ later)
