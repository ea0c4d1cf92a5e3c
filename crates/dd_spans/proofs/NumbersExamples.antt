-- Worked examples of the definitions: each computes.
use Rattle.std.proofs.Common.{◌≡◌, ℕ, not, List, [], ◌∷◌, ◌++◌, replicate, refl}
use Rattle.std.specs.List.{filter}
use Rattle.dd_spans.specs.Numbers.{is_among, numbers_below, numbers_from, rising_numbers, with_number}
use Rattle.dd_spans.specs.PlaceMap.{with_run}

abbrev ours : List ℕ
ours = 1 ∷ 2 ∷ 3 ∷ 7 ∷ []

abbrev theirs : List ℕ
theirs = 2 ∷ 3 ∷ 4 ∷ 7 ∷ []

both : filter (is_among theirs) ours ≡ 2 ∷ 3 ∷ 7 ∷ []
both = refl

alone : filter (λ n. not (is_among theirs n)) ours ≡ 1 ∷ []
alone = refl

either : rising_numbers (ours ++ theirs) ≡ 1 ∷ 2 ∷ 3 ∷ 4 ∷ 7 ∷ []
unfolding rising_numbers with_number
either = refl

sorted : rising_numbers (7 ∷ 1 ∷ 2 ∷ 3 ∷ 1 ∷ []) ≡ ours
unfolding rising_numbers with_number
sorted = refl

below : numbers_below 3 ours ≡ 1 ∷ 2 ∷ []
below = refl

from : numbers_from 3 ours ≡ 3 ∷ 7 ∷ []
from = refl

set : with_run 1 3 5 (replicate 6 0) ≡ 0 ∷ 5 ∷ 5 ∷ 5 ∷ 0 ∷ 0 ∷ []
set = refl
