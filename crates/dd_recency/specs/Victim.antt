-- Which block goes first.
use Rattle.std.specs.Prelude.{ℕ, Bool, not, List, filter, Option, None, slice_get}
use Rattle.std.specs.List.{last_or}
use Rattle.dd_recency.specs.declared.policy.Policy.{Policy}
use Rattle.dd_recency.specs.declared.policy.Policy.TheVariants.{Lru, Mru}

-- the blocks that aren't pinned, in their order
abbrev pub unpinned : (ℕ → Bool) → List ℕ → List ℕ
unpinned is_pinned blocks = filter (λ block. not (is_pinned block)) blocks

-- of a list with the block used last first: the last that isn't pinned under `Lru`, and the first under `Mru`
abbrev pub victim : Policy → (ℕ → Bool) → List ℕ → Option ℕ
victim Lru is_pinned blocks = last_or None (unpinned is_pinned blocks)
victim Mru is_pinned blocks = slice_get (unpinned is_pinned blocks) 0
