-- The sum of an array is that of the sums of its blocks.
use Rattle.std.proofs.Common.{◌≡◌, ◌≢◌, ℕ, zero, suc, ◌+◌, ◌<◌, ℤ, pos, ◌+ℤ◌, Bool, true, false, cond, eqb, List, length, map, refl, ap, sym, ◌∙◌, ⊎_elim, arith}
use Rattle.std.specs.Int.{w64, int_wrap}
use Rattle.std.specs.List.{range_with_len}
use Rattle.std.proofs.Math.IntN.{+ℤ_assoc, +ℤ_comm, +ℤ_idl}
use Rattle.std.proofs.lemmas.Bool.{cases_eq, eq-eqb, ne_eqb}
use Rattle.std.proofs.lemmas.Int.{int_wrap-add_left, int_wrap-add_right}
use Rattle.std.proofs.lemmas.List.FromFn.{get_or-map-range_with_len, length-map-range_with_len}
use Rattle.dd_blocks.specs.declared.grid.Grid.{Grid}
use Rattle.dd_blocks.specs.declared.plan.Plan.{Plan}
use Rattle.dd_blocks.specs.Grids.{IsGrid, block_count, block_of, block_size, element_count, place_in_block, pos_of}
use Rattle.dd_blocks.specs.Numbered.{IsNumberIn, array_row}
use Rattle.dd_blocks.specs.WellFormed.{IsWellFormed}
use Rattle.dd_blocks.proofs.GridLemmas.{block_back, block_within, in_block, place_back, pos_within, position_back}
use Rattle.dd_blocks.proofs.LayoutLemmas.{grid_stands}
use Rattle.dd_kernels.specs.Lists.{element, sum_below, wrapped}
use Rattle.dd_kernels.proofs.ListsLemmas.{ap2}
use Rattle.dd_machine.specs.States.{State}
use Rattle.dd_print.specs.Held.{block_values, list_sum, values_now}
use Rattle.dd_print.proofs.BlocksLemmas.{block_listed, value_of}

sum_same : (n : ℕ) (f g : ℕ → ℤ) → ((i : ℕ) → i < n → f i ≡ g i) → sum_below n f ≡ sum_below n g
sum_same zero f g same = refl
sum_same (suc n) f g same = ap2 (λ (x y : ℤ). x +ℤ y) (sum_same n f g (λ i lt. same i (omega (arith, lt)))) (same n (omega arith))

sum_zero : (n : ℕ) (f : ℕ → ℤ) → ((i : ℕ) → i < n → f i ≡ pos 0) → sum_below n f ≡ pos 0
sum_zero zero f none = refl
sum_zero (suc n) f none = ap2 (λ (x y : ℤ). x +ℤ y) (sum_zero n f (λ i lt. none i (omega (arith, lt)))) (none n (omega arith))

four : (a b c d : ℤ) → (a +ℤ b) +ℤ (c +ℤ d) ≡ (a +ℤ c) +ℤ (b +ℤ d)
four a b c d =
    +ℤ_assoc a b (c +ℤ d)
    ∙ ap (λ (x : ℤ). a +ℤ x) (sym (+ℤ_assoc b c d) ∙ ap (λ (x : ℤ). x +ℤ d) (+ℤ_comm b c) ∙ +ℤ_assoc c b d)
    ∙ sym (+ℤ_assoc a c (b +ℤ d))

sum_add : (n : ℕ) (f g : ℕ → ℤ) → sum_below n (λ i. f i +ℤ g i) ≡ sum_below n f +ℤ sum_below n g
sum_add zero f g = refl
sum_add (suc n) f g = ap (λ (x : ℤ). x +ℤ (f n +ℤ g n)) (sum_add n f g) ∙ four (sum_below n f) (sum_below n g) (f n) (g n)

sum_swap : (n m : ℕ) (f : ℕ → ℕ → ℤ) → sum_below n (λ i. sum_below m (λ j. f i j)) ≡ sum_below m (λ j. sum_below n (λ i. f i j))
sum_swap zero m f = sym (sum_zero m (λ j. pos 0) (λ i lt. refl))
sum_swap (suc n) m f = ap (λ (x : ℤ). x +ℤ sum_below m (λ j. f n j)) (sum_swap n m f) ∙ sym (sum_add m (λ j. sum_below n (λ i. f i j)) (λ j. f n j))

-- one term counts
sum_one : (n k : ℕ) (f : ℕ → ℤ) → k < n → ((i : ℕ) → i < n → i ≢ k → f i ≡ pos 0) → sum_below n f ≡ f k
sum_one zero k f lt none = absurd (omega (arith, lt))
sum_one (suc n) k f lt none = ⊎_elim
    (λ (e : k ≡ n).
    let rest = sum_zero n f (λ i i_lt. none i (omega (arith, i_lt)) (λ same. omega (arith, same, e, i_lt))) in
    ap (λ (x : ℤ). x +ℤ f n) rest ∙ +ℤ_idl (f n) ∙ ap f (sym e))
    (λ (e : k ≡ n → ⊥).
    ap2 (λ (x y : ℤ). x +ℤ y) (sum_one n k f (omega (arith, lt, e)) (λ i i_lt. none i (omega (arith, i_lt)))) (none n (omega arith) (λ same. e (sym same)))
    ∙ +ℤ_comm (f k) (pos 0) ∙ +ℤ_idl (f k))
    (cases_eq k n)

-- a number, where it is this one
only : Bool → ℤ → ℤ
only b z = cond b z (pos 0)

only_other : (b : Bool) (z : ℤ) → b ≡ false → only b z ≡ pos 0
unfolding only
only_other b z e = ap (λ (t : Bool). cond t z (pos 0)) e

only_this : (b : Bool) (z : ℤ) → b ≡ true → only b z ≡ z
unfolding only
only_this b z e = ap (λ (t : Bool). cond t z (pos 0)) e

-- a sum over all positions of a grid is one over the places of its blocks
by_blocks : (g : Grid) → IsGrid g → (f : ℕ → ℤ) → sum_below (element_count g) f ≡ sum_below (block_count g) (λ j. sum_below (block_size g j) (λ i. f (pos_of g j i)))
by_blocks g grid f =
    sum_same n f (λ p. sum_below blocks (λ j. sum_below (block_size g j) (λ i. only (eqb (pos_of g j i) p) (f p)))) (λ p lt. sym (one_place p lt))
    ∙ sum_swap n blocks (λ p j. sum_below (block_size g j) (λ i. only (eqb (pos_of g j i) p) (f p)))
    ∙ sum_same blocks (λ j. sum_below n (λ p. sum_below (block_size g j) (λ i. only (eqb (pos_of g j i) p) (f p)))) (λ j. sum_below (block_size g j) (λ i. f (pos_of g j i)))
    (λ j j_lt. sum_swap n (block_size g j) (λ p i. only (eqb (pos_of g j i) p) (f p))
    ∙ sum_same (block_size g j) (λ i. sum_below n (λ p. only (eqb (pos_of g j i) p) (f p))) (λ i. f (pos_of g j i)) (λ i i_lt.
    sum_one n (pos_of g j i) (λ p. only (eqb (pos_of g j i) p) (f p)) (pos_within g j i grid j_lt i_lt) (λ p p_lt ne. only_other (eqb (pos_of g j i) p) (f p) (ne_eqb (pos_of g j i) p (λ same. ne (sym same))))
    ∙ only_this (eqb (pos_of g j i) (pos_of g j i)) (f (pos_of g j i)) (eq-eqb (pos_of g j i) (pos_of g j i) refl)))
  where
    n : ℕ
    n = element_count g

    blocks : ℕ
    blocks = block_count g

    one_place : (p : ℕ) → p < n → sum_below blocks (λ j. sum_below (block_size g j) (λ i. only (eqb (pos_of g j i) p) (f p))) ≡ f p
    one_place p lt =
        let piece = block_of g p in
        let place = place_in_block g p in
        let few = block_within g p grid lt in
        sum_one blocks piece (λ j. sum_below (block_size g j) (λ i. only (eqb (pos_of g j i) p) (f p))) few
        (λ j j_lt ne. sum_zero (block_size g j) (λ i. only (eqb (pos_of g j i) p) (f p)) (λ i i_lt. only_other (eqb (pos_of g j i) p) (f p) (ne_eqb (pos_of g j i) p (λ same. ne (sym (block_back g j i grid j_lt i_lt) ∙ ap (block_of g) same)))))
        ∙ sum_one (block_size g piece) place (λ i. only (eqb (pos_of g piece i) p) (f p)) (in_block g p grid lt)
        (λ i i_lt ne. only_other (eqb (pos_of g piece i) p) (f p) (ne_eqb (pos_of g piece i) p (λ same. ne (sym (place_back g piece i grid few i_lt) ∙ ap (place_in_block g) same))))
        ∙ only_this (eqb (pos_of g piece place) p) (f p) (eq-eqb (pos_of g piece place) p (position_back g p grid lt))

-- sums that wrap
pub wrapped_none : wrapped (pos 0) ≡ pos 0
unfolding int_wrap
wrapped_none = refl

listed_sum : (f : ℕ → ℤ) (n : ℕ) → list_sum (map f (range_with_len 0 n)) ≡ wrapped (sum_below n f)
listed_sum f n =
    let xs = map f (range_with_len 0 n) in
    ap wrapped (ap (λ (m : ℕ). sum_below m (element xs)) (length-map-range_with_len f 0 n) ∙ sum_same n (element xs) f (λ i lt. get_or-map-range_with_len f 0 n i i (pos 0) lt (omega arith)))

wrapped_sum : (n : ℕ) (f : ℕ → ℤ) → wrapped (sum_below n (λ j. wrapped (f j))) ≡ wrapped (sum_below n f)
wrapped_sum zero f = refl
wrapped_sum (suc n) f =
    let so_far = sum_below n (λ j. wrapped (f j)) in
    int_wrap-add_right w64 so_far (f n) ∙ sym (int_wrap-add_left w64 so_far (f n)) ∙ ap (λ (z : ℤ). int_wrap w64 (z +ℤ f n)) (wrapped_sum n f) ∙ int_wrap-add_left w64 (sum_below n f) (f n)

-- of an array
pub array_sum : (plan : Plan) (st : State) (array : ℕ) → IsWellFormed plan → IsNumberIn plan.arrays array
    → list_sum (values_now plan st array) ≡ wrapped (sum_below (block_count (array_row plan array).grid) (λ j. list_sum (block_values plan st ((array_row plan array).first_block + j))))
array_sum plan st array well is =
    let g = (array_row plan array).grid in
    let first = (array_row plan array).first_block in
    let v = value_of plan st array in
    let of_block : ℕ → ℤ = λ j. sum_below (block_size g j) (λ i. v (pos_of g j i)) in
    listed_sum v (element_count g)
    ∙ ap wrapped (by_blocks g (grid_stands plan well.layout array is) v)
    ∙ sym (wrapped_sum (block_count g) of_block)
    ∙ ap wrapped (sum_same (block_count g) (λ j. wrapped (of_block j)) (λ j. list_sum (block_values plan st (first + j)))
    (λ j lt. sym (ap list_sum (block_listed plan st array j well is lt) ∙ listed_sum (λ i. v (pos_of g j i)) (block_size g j))))

-- one number that is printed as its sum
pub sum_of_one : (values : List ℤ) (z : ℤ) → z ≡ list_sum values → wrapped (sum_below 1 (λ i. z)) ≡ list_sum values
sum_of_one values z is =
    let total = sum_below (length values) (element values) in
    ap (λ (x : ℤ). wrapped (pos 0 +ℤ x)) is ∙ int_wrap-add_right w64 (pos 0) total ∙ ap wrapped (+ℤ_idl total)
