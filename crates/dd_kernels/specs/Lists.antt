-- Arithmetic of Int64 and of lists of it. Places in a list go from 0.
use Rattle.std.specs.Prelude.{◌≡◌, ℕ, suc, zero, ◌+◌, ℤ, pos, ◌+ℤ◌, ◌-ℤ◌, ◌*ℤ◌, List, [], ◌∷◌, ◌++◌, length, slice_index_or, unsigned_abs, if◌then◌else◌, int_lt}
use Rattle.std.specs.Int.{w64, int_wrap, int_rem_euclid}
use Rattle.std.specs.Int.RustNames.{FitsSigned}

-- a number in two's complement
abbrev pub wrapped : ℤ → ℤ
wrapped z = int_wrap w64 z

abbrev pub wrapping_sum : ℤ → ℤ → ℤ
wrapping_sum x y = wrapped (x +ℤ y)

abbrev pub wrapping_difference : ℤ → ℤ → ℤ
wrapping_difference x y = wrapped (x -ℤ y)

abbrev pub wrapping_product : ℤ → ℤ → ℤ
wrapping_product x y = wrapped (x *ℤ y)

-- the element at a place
abbrev pub element : List ℤ → ℕ → ℤ
element xs i = slice_index_or xs i (pos 0)

-- place by place, as far as both lists go
abbrev pub zip_with : (ℤ → ℤ → ℤ) → List ℤ → List ℤ → List ℤ
zip_with f [] ys = []
zip_with f (x ∷ xs) [] = []
zip_with f (x ∷ xs) (y ∷ ys) = f x y ∷ zip_with f xs ys

-- the list of n elements that has f i at each place i
abbrev pub tabulate : ℕ → (ℕ → ℤ) → List ℤ
tabulate zero f = []
tabulate (suc n) f = tabulate n f ++ f n ∷ []

-- the sum of f i over each i below n
abbrev pub sum_below : ℕ → (ℕ → ℤ) → ℤ
sum_below zero f = pos 0
sum_below (suc n) f = sum_below n f +ℤ f n

-- each place gets the sum of the elements up to it
abbrev pub sums : List ℤ → List ℤ
sums xs = tabulate (length xs) (λ i. wrapped (sum_below (i + 1) (element xs)))

-- each place gets the element k places further on, round the end
abbrev pub rotated : ℤ → List ℤ → List ℤ
rotated k xs = tabulate (length xs) (λ i. element xs (unsigned_abs (int_rem_euclid (pos i +ℤ k) (pos (length xs)))))

-- x stands before the first element that isn't less
abbrev pub insert_rising : ℤ → List ℤ → List ℤ
insert_rising x [] = x ∷ []
insert_rising x (y ∷ ys) = if int_lt y x then y ∷ insert_rising x ys else x ∷ y ∷ ys

-- the elements in rising order: the one sorted permutation (the law `rising_permutation`)
abbrev pub rising : List ℤ → List ℤ
rising [] = []
rising (x ∷ xs) = insert_rising x (rising xs)

-- calls with one number of Int64, or with two, answer as `f` does
abbrev pub ComputesOne : (ℤ → ℤ → Type 0) → (ℤ → ℤ) → Type 0
ComputesOne answers f = (x z : ℤ) → FitsSigned w64 x → answers x z → z ≡ f x

abbrev pub Computes : (ℤ → ℤ → ℤ → Type 0) → (ℤ → ℤ → ℤ) → Type 0
Computes answers f = (x y z : ℤ) → FitsSigned w64 x → FitsSigned w64 y → answers x y z → z ≡ f x y
