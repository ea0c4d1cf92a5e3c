-- Lists of numbers: which numbers are in one, and the sorted list of these.
use Rattle.std.specs.Prelude.{ℕ, ◌+◌, Bool, ◌==◌, nat_le, nat_lt, List, [], ◌∷◌, ◌++◌}
use Rattle.std.specs.List.{filter, list_any}

-- whether n is in the list
abbrev pub is_among : List ℕ → ℕ → Bool
is_among ns n = list_any (λ m. m == n) ns

-- the numbers of the list that are below n
abbrev pub numbers_below : ℕ → List ℕ → List ℕ
numbers_below n ns = filter (λ m. nat_lt m n) ns

-- the numbers of the list that are at least n
abbrev pub numbers_from : ℕ → List ℕ → List ℕ
numbers_from n ns = filter (λ m. nat_le n m) ns

-- a sorted list with n in it, once
unfoldable pub with_number : ℕ → List ℕ → List ℕ
with_number n ns = numbers_below n ns ++ n ∷ numbers_from (n + 1) ns

-- the numbers of the list in rising order, each once
unfoldable pub rising_numbers : List ℕ → List ℕ
rising_numbers [] = []
rising_numbers (n ∷ ns) = with_number n (rising_numbers ns)
