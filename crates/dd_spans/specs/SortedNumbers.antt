-- What is seen of `Runs`.
use Rattle.std.specs.Prelude.{◌≡◌, ℕ, ◌-◌, ◌^◌, ◌<◌, List}
use Rattle.std.specs.List.{All}
use Rattle.std.specs.List.Sorted.{IsStrictlyIncreasing}
use Rattle.std.specs.Coded.{Coded, coded_ℕ, coded_list, Π_prop, →_prop, le_prop, ×_prop}
use base.Stored.{coded_via}
use mathlib.Core.HLevel.{Σ_prop_path}

-- Numbers in rising order, none twice. Each is below the last number of 64 bits, so the one after it has 64 bits too.
pub record SortedNumbers : Type 0 where
  pub list : List ℕ
  pub rises : IsStrictlyIncreasing list
  pub below : All (λ n. n < 2 ^ 64 - 1) list

abbrev Facts : List ℕ → Type 0
Facts ns = IsStrictlyIncreasing ns × All (λ n. n < 2 ^ 64 - 1) ns

Facts-prop : (ns : List ℕ) → IsProp (Facts ns)
Facts-prop ns = ×_prop (Π_prop (λ _. →_prop le_prop)) (Π_prop (λ _. Π_prop (λ _. →_prop le_prop)))

-- the list tells two of them apart
pub same_sorted : (a b : SortedNumbers) → a.list ≡ b.list → a ≡ b
same_sorted a b e =
    let pairs : ◌≡◌ {A = (ns : List ℕ) × Facts ns} (a.list, (a.rises, a.below)) (b.list, (b.rises, b.below)) = Σ_prop_path Facts-prop e in
    λ i. record { list = (pairs i).0; rises = (pairs i).1.0; below = (pairs i).1.1 }

abbrev pub sorted_numbers_code : Coded SortedNumbers
sorted_numbers_code = coded_via (coded_list coded_ℕ) (λ s. s.list) same_sorted
