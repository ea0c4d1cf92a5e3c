-- Worked examples of the definitions: each computes.
use Rattle.std.proofs.Common.{◌≡◌, ℕ, nat_eq, List, [], ◌∷◌, Some, None, refl}
use Rattle.std.specs.Set.{is_member}
use Rattle.dd_recency.specs.declared.policy.Policy.TheVariants.{Lru, Mru}
use Rattle.dd_recency.specs.Recency.{to_front, without}
use Rattle.dd_recency.specs.Victim.{victim}

-- 1, 2 and 3 were added
abbrev blocks : List ℕ
blocks = 3 ∷ 2 ∷ 1 ∷ []

used : to_front 1 blocks ≡ 1 ∷ 3 ∷ 2 ∷ []
used = refl

taken : without 2 blocks ≡ 3 ∷ 1 ∷ []
taken = refl

absent : without 4 blocks ≡ blocks
absent = refl

oldest : victim Lru (is_member nat_eq []) blocks ≡ Some 1
oldest = refl

newest : victim Mru (is_member nat_eq []) blocks ≡ Some 3
newest = refl

newest_but_one : victim Mru (is_member nat_eq (3 ∷ [])) blocks ≡ Some 2
newest_but_one = refl

oldest_but_two : victim Lru (is_member nat_eq (1 ∷ 2 ∷ [])) blocks ≡ Some 3
oldest_but_two = refl

none : victim Lru (is_member nat_eq (2 ∷ 3 ∷ 1 ∷ [])) blocks ≡ None
none = refl
