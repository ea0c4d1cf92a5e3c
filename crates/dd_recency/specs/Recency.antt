-- What an order is seen as, and what a use and a removal make of its list.
use Rattle.std.specs.Prelude.{ℕ, not, nat_eq, List, ◌∷◌, filter}

-- the blocks, the one used last first, and how many there may be
pub record Recency : Type 0 where
  pub blocks : List ℕ
  pub room : ℕ

-- the blocks but this one, in their order
abbrev pub without : ℕ → List ℕ → List ℕ
without block blocks = filter (λ other. not (nat_eq block other)) blocks

-- this block, and behind it the others in their order
abbrev pub to_front : ℕ → List ℕ → List ℕ
to_front block blocks = block ∷ without block blocks
