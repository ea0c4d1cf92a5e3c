-- One column more of a triangle that is being solved.
use Rattle.std.proofs.Common.{◌≡◌, ℕ, zero, suc, ◌+◌, ◌-◌, ◌<◌, ◌≤◌, ℤ, pos, ◌+ℤ◌, ◌-ℤ◌, ◌*ℤ◌, neg_ℤ, List, [], ◌∷◌, ◌++◌, length, take, drop, append_assoc, add-one, refl, ap, sym, ◌∙◌, arith}
use Rattle.std.specs.Int.{w64}
use Rattle.std.specs.Int.RustNames.{FitsSigned}
use Rattle.std.proofs.lemmas.Int.{int_wrap_fits, int_wrap-add_same, SFits-int_wrap, ints}
use Rattle.std.proofs.lemmas.List.{get_or_append_left, get_or_push, get_or-drop, take_more, length_push, length-append, length-take, length-drop}
use Rattle.std.proofs.Math.IntN.{*ℤ_comm}
use Rattle.dd_kernels.specs.Lists.{wrapped, element, zip_with, tabulate, sum_below}
use Rattle.dd_kernels.specs.Packed.{packed, strictly_lower_pairs, solved, solution}
use Rattle.dd_kernels.proofs.ListsLemmas.{ap2, tabulated_whole}
use Rattle.dd_packed.proofs.PartsLemmas.{past, up_to}
use Rattle.dd_kernels.proofs.MatricesLemmas.{element_zip_with, length_zip_with, sum_below_same}

pub length_solved : (p : ℕ → ℕ → ℤ) (x : ℕ → ℤ) (n : ℕ) → length (solved p x n) ≡ n
length_solved p x zero = refl
length_solved p x (suc n) = length_push (solved p x n) (wrapped (x n -ℤ sum_below n (λ j. p n j *ℤ element (solved p x n) j))) ∙ omega (arith, length_solved p x n)

-- what a row still lacks once the first `c` elements are solved
abbrev pub left_of : (ℕ → ℕ → ℤ) → (ℕ → ℤ) → ℕ → ℕ → ℤ
left_of p x c i = x i -ℤ sum_below c (λ j. p i j *ℤ element (solved p x c) j)

-- the first `c` elements are solved, and the others lack what they have to
pub record SolvedUpTo (p : ℕ → ℕ → ℤ) (x : ℕ → ℤ) (c : ℕ) (xs : List ℤ) : Type 0 where
  pub front : take c xs ≡ solved p x c
  pub rest : (i : ℕ) → c ≤ i → i < length xs → wrapped (element xs i) ≡ wrapped (left_of p x c i)

-- the next element is solved
next_solved : (p : ℕ → ℕ → ℤ) (x : ℕ → ℤ) (c : ℕ) (xs : List ℤ) → c < length xs → FitsSigned w64 (element xs c) → SolvedUpTo p x c xs → solved p x (suc c) ≡ take c xs ++ element xs c ∷ []
next_solved p x c xs within fits so_far =
    let value : wrapped (left_of p x c c) ≡ element xs c = sym (so_far.rest c (omega arith) within) ∙ int_wrap_fits w64 (element xs c) fits in
    ap2 (λ (l : List ℤ) (z : ℤ). l ++ z ∷ []) (sym so_far.front) value

-- the sum over one element more
sum_more : (p : ℕ → ℕ → ℤ) (x : ℕ → ℤ) (c i : ℕ) (k : ℤ) → solved p x (suc c) ≡ solved p x c ++ k ∷ [] → sum_below (suc c) (λ j. p i j *ℤ element (solved p x (suc c)) j) ≡ sum_below c (λ j. p i j *ℤ element (solved p x c) j) +ℤ p i c *ℤ k
sum_more p x c i k next =
    let long = length_solved p x c in
    ap2 ◌+ℤ◌ (sum_below_same c (λ j. p i j *ℤ element (solved p x (suc c)) j) (λ j. p i j *ℤ element (solved p x c) j) (λ j below. ap (λ (z : ℤ). p i j *ℤ z) (ap (λ (l : List ℤ). element l j) next ∙ get_or_append_left (solved p x c) (k ∷ []) (pos 0) j (omega (arith, long)))))
    (ap (λ (z : ℤ). p i c *ℤ z) (ap (λ (l : List ℤ). element l c) next ∙ get_or_push (solved p x c) k (pos 0) c long))

regrouped : (x s a k : ℤ) → (x -ℤ s) -ℤ k *ℤ a ≡ x -ℤ (s +ℤ a *ℤ k)
regrouped x s a k = rw (*ℤ_comm k a) (omega (arith, ints))

-- a row takes one column more
row_more : (p : ℕ → ℕ → ℤ) (x : ℕ → ℤ) (c i : ℕ) (k e : ℤ) → solved p x (suc c) ≡ solved p x c ++ k ∷ [] → wrapped e ≡ wrapped (left_of p x c i) → wrapped (wrapped (e -ℤ k *ℤ p i c)) ≡ wrapped (left_of p x (suc c) i)
row_more p x c i k e next was =
    let s = sum_below c (λ j. p i j *ℤ element (solved p x c) j) in
    let t = neg_ℤ (k *ℤ p i c) in
    int_wrap_fits w64 (wrapped (e -ℤ k *ℤ p i c)) (SFits-int_wrap w64 (e -ℤ k *ℤ p i c)) ∙ (int_wrap-add_same w64 e (left_of p x c i) t was ∙ ap wrapped (regrouped (x i) s (p i c) k ∙ ap (λ (z : ℤ). x i -ℤ z) (sym (sum_more p x c i k next))))

-- one element more is solved
pub solved_more : (p : ℕ → ℕ → ℤ) (x : ℕ → ℤ) (c : ℕ) (xs column : List ℤ) → c < length xs → FitsSigned w64 (element xs c) → length column + (c + 1) ≡ length xs → ((t : ℕ) → t < length column → element column t ≡ p (c + 1 + t) c) → SolvedUpTo p x c xs → SolvedUpTo p x (c + 1) (take c xs ++ element xs c ∷ zip_with (λ a b. wrapped (a -ℤ element xs c *ℤ b)) (drop (c + 1) xs) column)
solved_more p x c xs column within fits long each so_far =
    let k = element xs c in
    let op : ℤ → ℤ → ℤ = λ a b. wrapped (a -ℤ k *ℤ b) in
    let ys = zip_with op (drop (c + 1) xs) column in
    let front : length (take c xs) ≡ c = omega (arith, length-take c xs) in
    let others : length (drop (c + 1) xs) ≡ length column = omega (arith, length-drop (c + 1) xs) in
    let long_ys = length_zip_with op (drop (c + 1) xs) column others in
    let next = next_solved p x c xs within fits so_far in
    let next_of : solved p x (suc c) ≡ solved p x c ++ k ∷ [] = next ∙ ap (λ (l : List ℤ). l ++ k ∷ []) so_far.front in
    record {
      front = up_to (take c xs) ys k c front ∙ (sym next ∙ rw add-one);
      rest = λ i beyond below.
          let t : ℕ = i - (c + 1) in
          let place : c + 1 + t ≡ i = omega arith in
          let small : t < length column = omega (arith, length-append (take c xs) (k ∷ ys)) in
          let there = past (take c xs) ys k c i front beyond ∙ (element_zip_with op (drop (c + 1) xs) column t (omega arith) others ∙ ap2 (λ (a b : ℤ). op a b) (get_or-drop (c + 1) xs t (pos 0) ∙ ap (element xs) place) (each t small ∙ ap (λ (r : ℕ). p r c) place)) in
          ap wrapped there ∙ rw add-one (row_more p x c i k (element xs i) next_of (so_far.rest i (omega arith) (omega arith)));
    }

-- the same where a column of the triangle has gone over the elements below its diagonal
pub column_solved : (p : ℕ → ℕ → ℤ) (x : ℕ → ℤ) (c : ℕ) (xs column new all : List ℤ) (k : ℤ) → c < length xs → FitsSigned w64 (element xs c) → length column + (c + 1) ≡ length xs → ((t : ℕ) → t < length column → element column t ≡ p (c + 1 + t) c) → k ≡ element xs c → new ≡ zip_with (λ a b. wrapped (a -ℤ k *ℤ b)) (drop (c + 1) xs) column → all ≡ take (c + 1) xs ++ new → SolvedUpTo p x c xs → SolvedUpTo p x (c + 1) all
column_solved p x c xs column new all k within fits long each k_is new_is all_is so_far =
    let written = new_is ∙ ap (λ (k : ℤ). zip_with (λ a b. wrapped (a -ℤ k *ℤ b)) (drop (c + 1) xs) column) k_is in
    let done = take_more xs c (pos 0) within in
    let joined = append_assoc (take c xs) (element xs c ∷ []) new in
    let whole : all ≡ take c xs ++ element xs c ∷ new = all_is ∙ (ap (λ (l : List ℤ). l ++ new) done ∙ joined) in
    rw (whole, written) (solved_more p x c xs column within fits long each so_far)

-- equal numbers have equal solutions
solved_same : (p : ℕ → ℕ → ℤ) (x y : ℕ → ℤ) (n : ℕ) → ((i : ℕ) → i < n → x i ≡ y i) → solved p x n ≡ solved p y n
solved_same p x y zero each = refl
solved_same p x y (suc n) each =
    let front = solved_same p x y n (λ i below. each i (omega arith)) in
    ap2 (λ (l : List ℤ) (a : ℤ). l ++ wrapped (a -ℤ sum_below n (λ j. p n j *ℤ element l j)) ∷ []) front (each n (omega arith))

-- a solution is the column of a matrix of solutions
pub solution_column : (p part ys : List ℤ) (x : ℕ → ℤ) (rows : ℕ) → length part ≡ rows → ((i : ℕ) → i < rows → element part i ≡ x i) → ys ≡ solution part p → ys ≡ tabulate rows (λ i. element (solved (packed (strictly_lower_pairs rows) p) x rows) i)
solution_column p part ys x rows long each is =
    let turned = rw long at is in
    let all = solved (packed (strictly_lower_pairs rows) p) x rows in
    turned ∙ (solved_same (packed (strictly_lower_pairs rows) p) (element part) x rows each ∙ (tabulated_whole (element all) all (λ i below. refl) ∙ ap (λ (n : ℕ). tabulate n (element all)) (length_solved (packed (strictly_lower_pairs rows) p) x rows)))
