-- One column more of a product of a triangle and a column, from the last column on.
use Rattle.std.proofs.Common.{◌≡◌, ℕ, zero, suc, ◌+◌, ◌-◌, ◌<◌, ◌≤◌, ℤ, pos, ◌+ℤ◌, ◌*ℤ◌, List, ◌∷◌, ◌++◌, length, take, drop, inl, inr, refl, ap, sym, ◌∙◌, arith}
use Rattle.std.specs.Int.{w64}
use Rattle.std.proofs.lemmas.Bool.{cases_lt}
use Rattle.std.proofs.lemmas.Int.{int_wrap-add_left, ints}
use Rattle.std.proofs.lemmas.List.{get_or-drop, get_or-take, take-take, length-append, length-take, length-drop}
use Rattle.std.proofs.Math.IntN.{+ℤ_comm, +ℤ_idr, *ℤ_comm}
use Rattle.dd_kernels.specs.Lists.{wrapped, element, zip_with, tabulate, sum_below}
use Rattle.dd_kernels.proofs.ListsLemmas.{ap2, tabulated_whole}
use Rattle.dd_kernels.proofs.MatricesLemmas.{element_zip_with, length_zip_with, sum_below_same}
use Rattle.dd_packed.proofs.PartsLemmas.{past, at_seam, before_rest}

-- the first term of a sum by itself
sum_first : (n : ℕ) (f : ℕ → ℤ) → sum_below (suc n) f ≡ f 0 +ℤ sum_below n (λ i. f (suc i))
sum_first zero f = omega (arith, ints)
sum_first (suc n) f = ap (λ (s : ℤ). s +ℤ f (suc n)) (sum_first n f) ∙ omega (arith, ints)

-- the terms from `c` on, before `e`
abbrev pub sum_from : ℕ → ℕ → (ℕ → ℤ) → ℤ
sum_from c e f = sum_below (e - c) (λ t. f (c + t))

sum_from_first : (c e : ℕ) (f : ℕ → ℤ) → c < e → sum_from c e f ≡ f c +ℤ sum_from (c + 1) e f
sum_from_first c e f some =
    let n : ℕ = e - (c + 1) in
    let count : e - c ≡ suc n = omega arith in
    ap (λ (m : ℕ). sum_below m (λ t. f (c + t))) count ∙ (sum_first n (λ t. f (c + t)) ∙ ap2 ◌+ℤ◌ (ap f (omega arith)) (sum_below_same n (λ t. f (c + suc t)) (λ t. f (c + 1 + t)) (λ t below. ap f (omega arith))))

-- the columns from `c` on are taken into the rows from there on
pub record ProductFrom (l : ℕ → ℕ → ℤ) (x : List ℤ) (c : ℕ) (xs : List ℤ) : Type 0 where
  pub front : take c xs ≡ take c x
  pub rest : (i : ℕ) → c ≤ i → i < length xs → element xs i ≡ wrapped (sum_from c (i + 1) (λ j. l i j *ℤ element x j))

pub nothing_taken : (l : ℕ → ℕ → ℤ) (x : List ℤ) (c : ℕ) → length x ≤ c → ProductFrom l x c x
nothing_taken l x c short = record { front = refl; rest = λ i low below. absurd (omega arith) }

-- an element that isn't written yet
as_before : (x xs : List ℤ) (b : ℕ) → take (b + 1) xs ≡ take (b + 1) x → element xs b ≡ element x b
as_before x xs b same =
    sym (get_or-take (b + 1) xs b (pos 0) (omega arith)) ∙ (ap (λ (l : List ℤ). element l b) same ∙ get_or-take (b + 1) x b (pos 0) (omega arith))

-- a row below the diagonal takes one column more
row_more : (f : ℕ → ℤ) (b i : ℕ) (k m e : ℤ) → b < i → e ≡ wrapped (sum_from (b + 1) (i + 1) f) → m *ℤ k ≡ f b → wrapped (e +ℤ k *ℤ m) ≡ wrapped (sum_from b (i + 1) f)
row_more f b i k m e below was is =
    let s = sum_from (b + 1) (i + 1) f in
    let term : k *ℤ m ≡ f b = *ℤ_comm k m ∙ is in
    ap2 (λ (a t : ℤ). wrapped (a +ℤ t)) was term ∙ (int_wrap-add_left w64 s (f b) ∙ ap wrapped (+ℤ_comm s (f b) ∙ sym (sum_from_first b (i + 1) f (omega arith))))

-- the row of the diagonal gets its one term
row_first : (f : ℕ → ℤ) (b : ℕ) (k m : ℤ) → m *ℤ k ≡ f b → wrapped (k *ℤ m) ≡ wrapped (sum_from b (b + 1) f)
row_first f b k m is =
    let count : b + 1 - (b + 1) ≡ zero = omega arith in
    let none : sum_from (b + 1) (b + 1) f ≡ pos 0 = ap (λ (n : ℕ). sum_below n (λ t. f (b + 1 + t))) count in
    ap wrapped (*ℤ_comm k m ∙ (is ∙ (sym (+ℤ_idr (f b)) ∙ (ap (λ (s : ℤ). f b +ℤ s) (sym none) ∙ sym (sum_from_first b (b + 1) f (omega arith))))))

pub product_more : (l : ℕ → ℕ → ℤ) (x : List ℤ) (b : ℕ) (xs part column new all : List ℤ) → b < length xs → length column + b ≡ length xs → ((t : ℕ) → t < length column → element column t ≡ l (b + t) b) → part ≡ drop b xs → new ≡ wrapped (element part 0 *ℤ element column 0) ∷ zip_with (λ a m. wrapped (a +ℤ element part 0 *ℤ m)) (drop 1 part) (drop 1 column) → all ≡ take b xs ++ new → ProductFrom l x (b + 1) xs → ProductFrom l x b all
product_more l x b xs part column new all within long each part_is new_is all_is so_far =
    let k = element part 0 in
    let v = wrapped (k *ℤ element column 0) in
    let op : ℤ → ℤ → ℤ = λ a m. wrapped (a +ℤ k *ℤ m) in
    let ys = zip_with op (drop 1 part) (drop 1 column) in
    let front : length (take b xs) ≡ b = omega (arith, length-take b xs) in
    let long_part : length part ≡ length xs - b = ap length part_is ∙ length-drop b xs in
    let others : length (drop 1 part) ≡ length (drop 1 column) = omega (arith, length-drop 1 part, length-drop 1 column) in
    let long_ys = length_zip_with op (drop 1 part) (drop 1 column) others in
    let factor : k ≡ element x b = ap (λ (l : List ℤ). element l 0) part_is ∙ (get_or-drop b xs 0 (pos 0) ∙ (ap (element xs) (omega arith) ∙ as_before x xs b so_far.front)) in
    let same : take b xs ≡ take b x = sym (take-take b (b + 1) xs (omega arith)) ∙ (ap (λ (l : List ℤ). take b l) so_far.front ∙ take-take b (b + 1) x (omega arith)) in
    let diagonal : element column 0 ≡ l b b = each 0 (omega arith) ∙ ap (λ (r : ℕ). l r b) (omega arith) in
    let whole : all ≡ take b xs ++ v ∷ ys = all_is ∙ ap (λ (l : List ℤ). take b xs ++ l) new_is in
    record {
      front = ap (λ (l : List ℤ). take b l) all_is ∙ (before_rest (take b xs) new b front ∙ same);
      rest = λ i low below.
          let f : ℕ → ℤ = λ j. l i j *ℤ element x j in
          elim (cases_lt b i) [
            | inl past_b ↦
                let t : ℕ = i - (b + 1) in
                let small : 1 + t < length column = omega (arith, ap length whole, length-append (take b xs) (v ∷ ys), length-drop 1 column) in
                let here : element (drop 1 part) t ≡ element xs i = get_or-drop 1 part t (pos 0) ∙ (ap (λ (l : List ℤ). element l (1 + t)) part_is ∙ (get_or-drop b xs (1 + t) (pos 0) ∙ ap (element xs) (omega arith))) in
                let term : element (drop 1 column) t ≡ l i b = get_or-drop 1 column t (pos 0) ∙ (each (1 + t) small ∙ ap (λ (r : ℕ). l r b) (omega arith)) in
                let there = ap (λ (l : List ℤ). element l i) whole ∙ (past (take b xs) ys v b i front (omega arith) ∙ (element_zip_with op (drop 1 part) (drop 1 column) t (omega (arith, length-drop 1 column)) others ∙ ap2 op here term)) in
                there ∙ row_more f b i k (l i b) (element xs i) past_b (so_far.rest i (omega arith) (omega (arith, long_part))) (ap (λ (z : ℤ). l i b *ℤ z) factor)
            | inr none ↦
                let at : i ≡ b = omega arith in
                rw at (ap (λ (l : List ℤ). element l b) whole ∙ (at_seam (take b xs) ys v b front ∙ row_first (λ j. l b j *ℤ element x j) b k (element column 0) (ap2 ◌*ℤ◌ diagonal factor)))
          ];
    }

-- all columns are taken
pub product_whole : (l : ℕ → ℕ → ℤ) (x xs : List ℤ) → length xs ≡ length x → ProductFrom l x 0 xs → xs ≡ tabulate (length x) (λ i. wrapped (sum_below (i + 1) (λ j. l i j *ℤ element x j)))
product_whole l x xs long done =
    let f : ℕ → ℤ = λ i. wrapped (sum_below (i + 1) (λ j. l i j *ℤ element x j)) in
    tabulated_whole f xs (λ i below. let count : i + 1 - 0 ≡ i + 1 = omega arith in done.rest i (omega arith) below ∙ ap wrapped (ap (λ (n : ℕ). sum_below n (λ t. l i (0 + t) *ℤ element x (0 + t))) count ∙ sum_below_same (i + 1) (λ t. l i (0 + t) *ℤ element x (0 + t)) (λ j. l i j *ℤ element x j) (λ t small. ap (λ (j : ℕ). l i j *ℤ element x j) (omega arith)))) ∙ ap (λ (n : ℕ). tabulate n f) long
