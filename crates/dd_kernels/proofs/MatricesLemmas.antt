-- Lemmas on lists that have a function at each place, and on columns of a matrix.
use Rattle.std.proofs.Common.{◌≡◌, ℕ, zero, suc, ◌+◌, ◌*◌, ◌<◌, ◌≤◌, ℤ, pos, ◌+ℤ◌, ◌*ℤ◌, List, [], ◌∷◌, ◌++◌, map, length, take, drop, inl, inr, add-one, refl, ap, sym, ◌∙◌, arith}
use Rattle.std.specs.Int.{w64}
use Rattle.std.specs.List.{between}
use Rattle.std.proofs.lemmas.Bool.{cases_lt}
use Rattle.std.proofs.lemmas.Int.{int_wrap-add_left}
use Rattle.std.proofs.lemmas.List.{get_or_append_left, get_or_push, get_or-drop, drop-drop, length_push, length-map, get_or-map}
use Rattle.std.proofs.lemmas.List.Edits.{get_or-between}
use Rattle.std.proofs.lemmas.Slice.{take-put_mid, drop-put_mid}
use Rattle.std.proofs.Math.IntN.{+ℤ_assoc, +ℤ_idr, *ℤ_comm}
use borrow.Rule.Slice.PartMut.{put_mid}
use Rattle.dd_kernels.specs.Lists.{wrapped, element, zip_with, tabulate, sum_below}
use Rattle.dd_kernels.specs.Matrices.{matrix}
use Rattle.dd_kernels.proofs.ListsLemmas.{tabulated_whole, ap2}

pub length_tabulate : (n : ℕ) (f : ℕ → ℤ) → length (tabulate n f) ≡ n
length_tabulate zero f = refl
length_tabulate (suc n) f = length_push (tabulate n f) (f n) ∙ omega (arith, length_tabulate n f)

pub element_tabulate : (n : ℕ) (f : ℕ → ℤ) (i : ℕ) → i < n → element (tabulate n f) i ≡ f i
element_tabulate zero f i below = absurd (omega arith)
element_tabulate (suc n) f i below =
    elim (cases_lt i n) [
      | inl less ↦ get_or_append_left (tabulate n f) (f n ∷ []) (pos 0) i (omega (arith, length_tabulate n f)) ∙ element_tabulate n f i less
      | inr last ↦ let at : i ≡ n = omega arith in rw at (get_or_push (tabulate n f) (f n) (pos 0) n (length_tabulate n f))
    ]

pub tabulate_same : (n : ℕ) (f g : ℕ → ℤ) → ((i : ℕ) → i < n → f i ≡ g i) → tabulate n f ≡ tabulate n g
tabulate_same zero f g each = refl
tabulate_same (suc n) f g each = ap2 (λ (l : List ℤ) (z : ℤ). l ++ z ∷ []) (tabulate_same n f g (λ i below. each i (omega arith))) (each n (omega arith))

pub sum_below_same : (n : ℕ) (f g : ℕ → ℤ) → ((i : ℕ) → i < n → f i ≡ g i) → sum_below n f ≡ sum_below n g
sum_below_same zero f g each = refl
sum_below_same (suc n) f g each = ap2 ◌+ℤ◌ (sum_below_same n f g (λ i below. each i (omega arith))) (each n (omega arith))

pub length_zip_with : (op : ℤ → ℤ → ℤ) (xs ys : List ℤ) → length xs ≡ length ys → length (zip_with op xs ys) ≡ length xs
length_zip_with op [] ys same = refl
length_zip_with op (x ∷ xs) [] same = absurd (omega arith)
length_zip_with op (x ∷ xs) (y ∷ ys) same = ap suc (length_zip_with op xs ys (omega arith))

pub element_zip_with : (op : ℤ → ℤ → ℤ) (xs ys : List ℤ) (i : ℕ) → i < length xs → length xs ≡ length ys → element (zip_with op xs ys) i ≡ op (element xs i) (element ys i)
element_zip_with op [] ys i below same = absurd (omega arith)
element_zip_with op (x ∷ xs) [] i below same = absurd (omega arith)
element_zip_with op (x ∷ xs) (y ∷ ys) zero below same = refl
element_zip_with op (x ∷ xs) (y ∷ ys) (suc i) below same = element_zip_with op xs ys i (omega arith) (omega arith)

pub zip_with_tabulated : (op : ℤ → ℤ → ℤ) (xs ys : List ℤ) (n : ℕ) (f : ℕ → ℤ) → length xs ≡ n → length ys ≡ n → ((i : ℕ) → i < n → op (element xs i) (element ys i) ≡ f i) → zip_with op xs ys ≡ tabulate n f
zip_with_tabulated op xs ys n f long_x long_y each =
    let long = length_zip_with op xs ys (omega arith) in
    tabulated_whole f (zip_with op xs ys) (λ i below. element_zip_with op xs ys i (omega (arith, long)) (omega arith) ∙ each i (omega (arith, long))) ∙ ap (λ (l : ℕ). tabulate l f) (long ∙ long_x)

-- an element of a part of a list
pub element_part : (xs : List ℤ) (from to i : ℕ) → from + i < to → element (between from to xs) i ≡ element xs (from + i)
element_part xs from to i below = get_or-between xs from to i (pos 0) below

-- the same where the list is another from there on
pub element_part_ahead : (xs ys : List ℤ) (from to i : ℕ) → drop from xs ≡ drop from ys → from + i < to → element (between from to xs) i ≡ element ys (from + i)
element_part_ahead xs ys from to i same below =
    element_part xs from to i below ∙ (sym (get_or-drop from xs i (pos 0)) ∙ (ap (λ (l : List ℤ). element l i) same ∙ get_or-drop from ys i (pos 0)))

-- what is added to what there is so far is added to the sum so far
adds_on : (old y : List ℤ) (f : ℕ → ℕ → ℤ) (n q : ℕ) → (0 < q → y ≡ tabulate n (λ i. wrapped (element old i +ℤ sum_below q (f i)))) → (q ≡ 0 → y ≡ old) → (i : ℕ) (t : ℤ) → i < n → wrapped (element y i +ℤ t) ≡ wrapped ((element old i +ℤ sum_below q (f i)) +ℤ t)
adds_on old y f n zero later first i t below =
    ap (λ (l : List ℤ). wrapped (element l i +ℤ t)) (first refl) ∙ ap (λ (o : ℤ). wrapped (o +ℤ t)) (sym (+ℤ_idr (element old i)))
adds_on old y f n (suc q) later first i t below =
    let before : ℕ → ℤ = λ i. element old i +ℤ sum_below (suc q) (f i) in
    let was : element y i ≡ wrapped (before i) = ap (λ (l : List ℤ). element l i) (later (omega arith)) ∙ element_tabulate n (λ i. wrapped (before i)) i below in
    ap (λ (o : ℤ). wrapped (o +ℤ t)) was ∙ int_wrap-add_left w64 (before i) t

-- one term more at each place of a column, each a multiple of an element of another column
pub terms_more : (old y column : List ℤ) (f : ℕ → ℕ → ℤ) (n q : ℕ) (k : ℤ) → length y ≡ n → length column ≡ n → ((i : ℕ) → i < n → k *ℤ element column i ≡ f i q) → (0 < q → y ≡ tabulate n (λ i. wrapped (element old i +ℤ sum_below q (f i)))) → (q ≡ 0 → y ≡ old) → zip_with (λ u v. wrapped (u +ℤ k *ℤ v)) y column ≡ tabulate n (λ i. wrapped (element old i +ℤ sum_below (q + 1) (f i)))
terms_more old y column f n q k long_y long each later first =
    zip_with_tabulated (λ u v. wrapped (u +ℤ k *ℤ v)) y column n (λ i. wrapped (element old i +ℤ sum_below (q + 1) (f i))) long_y long
    (λ i below.
    ap (λ (t : ℤ). wrapped (element y i +ℤ t)) (each i below) ∙ (adds_on old y f n q later first i (f i q) below ∙ rw add-one (ap wrapped (+ℤ_assoc (element old i) (sum_below q (f i)) (f i q)))))

-- one column more of a product with a column
pub column_product_more : (old a x y column : List ℤ) (n q : ℕ) (k : ℤ) → length y ≡ n → length column ≡ n → k ≡ element x q → ((i : ℕ) → i < n → element column i ≡ element a (q * n + i)) → (0 < q → y ≡ tabulate n (λ i. wrapped (element old i +ℤ sum_below q (λ p. element a (p * n + i) *ℤ element x p)))) → (q ≡ 0 → y ≡ old) → zip_with (λ u v. wrapped (u +ℤ k *ℤ v)) y column ≡ tabulate n (λ i. wrapped (element old i +ℤ sum_below (q + 1) (λ p. element a (p * n + i) *ℤ element x p)))
column_product_more old a x y column n q k long_y long factor each later first =
    terms_more old y column (λ i p. element a (p * n + i) *ℤ element x p) n q k long_y long (λ i below. ap2 ◌*ℤ◌ factor (each i below) ∙ *ℤ_comm (element x q) (element a (q * n + i))) later first

-- a column of a product of matrices
pub product_column : (old a b column part ys : List ℤ) (rows inner j : ℕ) → length column ≡ rows → length part ≡ inner → ((i : ℕ) → i < rows → element column i ≡ element old (j * rows + i)) → ((q : ℕ) → q < inner → element part q ≡ element b (j * inner + q)) → ys ≡ tabulate (length column) (λ i. wrapped (element column i +ℤ sum_below (length part) (λ q. element a (q * length column + i) *ℤ element part q))) → ys ≡ tabulate rows (λ i. wrapped (element old (j * rows + i) +ℤ sum_below inner (λ q. element a (q * rows + i) *ℤ element b (j * inner + q))))
product_column old a b column part ys rows inner j long_column long_part each_column each_part is =
    let turned = rw (long_column, long_part) at is in
    turned ∙ tabulate_same rows (λ i. wrapped (element column i +ℤ sum_below inner (λ q. element a (q * rows + i) *ℤ element part q))) (λ i. wrapped (element old (j * rows + i) +ℤ sum_below inner (λ q. element a (q * rows + i) *ℤ element b (j * inner + q))))
    (λ i below. ap2 (λ (o t : ℤ). wrapped (o +ℤ t)) (each_column i below) (sum_below_same inner (λ q. element a (q * rows + i) *ℤ element part q) (λ q. element a (q * rows + i) *ℤ element b (j * inner + q)) (λ q less. ap (λ (z : ℤ). element a (q * rows + i) *ℤ z) (each_part q less))))

-- one column more of a matrix that is written column by column
pub column_more : (f : ℕ → ℕ → ℤ) (rows j k : ℕ) (xs ys : List ℤ) → j * rows + rows ≤ length xs → k ≡ rows → ys ≡ tabulate rows (λ i. f i j) → take (j * rows) xs ≡ matrix rows j f → take ((j + 1) * rows) (put_mid (j * rows) k xs ys) ≡ matrix rows (j + 1) f
column_more f rows j k xs ys within width column so_far =
    let long = ap length column ∙ length_tabulate rows (λ i. f i j) in
    take-put_mid (j * rows) k xs ys ((j + 1) * rows) (omega arith) (omega arith) ∙ (ap2 ◌++◌ so_far column ∙ sym (rw add-one))

-- what is past the column stays
pub past_column : (f : ℕ → ℤ) (rows j k : ℕ) (xs ys old : List ℤ) → j * rows + rows ≤ length xs → k ≡ rows → ys ≡ tabulate rows f → drop (j * rows) xs ≡ drop (j * rows) old → drop ((j + 1) * rows) (put_mid (j * rows) k xs ys) ≡ drop ((j + 1) * rows) old
past_column f rows j k xs ys old within width column same =
    let long : length ys ≡ k = ap length column ∙ (length_tabulate rows f ∙ sym width) in
    let next : (j + 1) * rows ≡ j * rows + rows = omega arith in
    drop-put_mid (j * rows) k xs ys ((j + 1) * rows) (omega arith) (omega arith) long ∙ rw next (sym (drop-drop rows (j * rows) xs) ∙ (ap (λ (l : List ℤ). drop rows l) same ∙ drop-drop rows (j * rows) old))

-- a column with a product of no columns added
pub nothing_added : (xs : List ℤ) → map (λ a. wrapped (a +ℤ pos 0)) xs ≡ tabulate (length xs) (λ i. wrapped (element xs i +ℤ pos 0))
nothing_added xs =
    let long = length-map xs (λ (a : ℤ). wrapped (a +ℤ pos 0)) in
    tabulated_whole (λ i. wrapped (element xs i +ℤ pos 0)) (map (λ a. wrapped (a +ℤ pos 0)) xs) (λ i below. get_or-map (λ (a : ℤ). wrapped (a +ℤ pos 0)) xs i (pos 0) (pos 0) (omega (arith, long))) ∙ ap (λ (n : ℕ). tabulate n (λ i. wrapped (element xs i +ℤ pos 0))) long
