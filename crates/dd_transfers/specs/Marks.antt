-- Marks of elements. A mark has a bit for each space that holds the element's current version, and 0 says that the
-- region has not come to the element, so that its home alone holds it.
use Rattle.std.specs.Prelude.{◌≡◌, ℕ, ◌-◌, ◌^◌, ◌≤◌, Bool, false, not, nat_eq, cond}
use Rattle.std.specs.Int.{bit_at}
use Rattle.std.specs.Int.RustNames.{bit_or}
use Rattle.dd_blocks.specs.Limits.{spaces_limit}
use Rattle.dd_transfers.specs.declared.mark.Visit.{Visit}
use Rattle.dd_transfers.specs.declared.mark.Visit.TheVariants.{Read, Write, Leave}

-- the number of a space that a mark has a bit for
abbrev pub IsMarked : ℕ → Type 0
IsMarked space = (1 ≤ space) × (space ≤ spaces_limit)

-- the mark that has the bit of one space
abbrev pub mark_of : ℕ → ℕ
mark_of space = 2 ^ (space - 1)

-- the space holds the element
abbrev pub has_space : ℕ → ℕ → Bool
has_space mark space = nat_eq (bit_at mark (space - 1)) 1

-- the mark of an element once the region has come to it
abbrev pub opened : ℕ → ℕ → ℕ
opened home mark = cond (nat_eq mark 0) (mark_of home) mark

-- a visit is of spaces that marks have bits for
abbrev pub IsMarkedVisit : Visit → Type 0
IsMarkedVisit (Read space) = IsMarked space
IsMarkedVisit (Write space) = IsMarked space
IsMarkedVisit Leave = Unit {0}

-- the mark after a visit: a space that reads holds the element too, and one that writes holds it alone
abbrev pub mark_after : Visit → ℕ → ℕ → ℕ
mark_after (Read space) home mark = bit_or (opened home mark) (mark_of space)
mark_after (Write space) home mark = mark_of space
mark_after Leave home mark = 0

-- how often the visit moves the element: once, where the space that reads does not hold it, or the home at the end
abbrev pub moves_at : Visit → ℕ → ℕ → ℕ
moves_at (Read space) home mark = cond (has_space (opened home mark) space) 0 1
moves_at (Write space) home mark = 0
moves_at Leave home mark = cond (has_space (opened home mark) home) 0 1

-- what the visit makes of the mark depends on the home
abbrev pub asks_home : Visit → ℕ → Bool
asks_home (Read space) mark = nat_eq mark 0
asks_home (Write space) mark = false
asks_home Leave mark = not (nat_eq mark 0)

-- two homes are the same to a visit of a mark
pub record AreSameTo (visit : Visit) (mark home other : ℕ) : Type 0 where
  pub after : mark_after visit home mark ≡ mark_after visit other mark
  pub moves : moves_at visit home mark ≡ moves_at visit other mark
