-- What the places of a block have once positions of a view got values, and the number of the task that wrote them.
use Rattle.std.specs.Prelude.{◌≡◌, ℕ, ◌<◌, ℤ, Bool, ◌&&◌, cond, List, length, slice_index}
use Rattle.std.specs.List.{list_any}
use Rattle.dd_kernels.specs.Lists.{element}
use Rattle.dd_spans.specs.Numbers.{is_among}
use Rattle.dd_blocks.specs.declared.grid.Grid.{Grid}
use Rattle.dd_blocks.specs.Grids.{block_size, pos_of}
use Rattle.dd_blocks.specs.declared.access_row.AccessRow.{AccessRow}
use Rattle.dd_blocks.specs.Elements.{Element, has, writes}
use Rattle.dd_meaning.specs.Written.{put_value, value_stored}

-- each place has the last value that was put at its position
pub record AreStored (g : Grid) (block : ℕ) (positions : List ℕ) (from old new : List ℤ) : Type 0 where
  pub count : length new ≡ length old
  pub each : (q : ℕ) → q < block_size g block → element new q ≡ put_value positions from (pos_of g block q) (element old q)

-- each place whose position is among them has the number
pub record AreStamped (g : Grid) (block : ℕ) (positions : List ℕ) (task : ℕ) (old new : List ℕ) : Type 0 where
  pub count : length new ≡ length old
  pub each : (q : ℕ) → q < block_size g block → slice_index new q ≡ cond (is_among positions (pos_of g block q)) task (slice_index old q)

-- one of the accesses writes the element
abbrev pub some_writes : List AccessRow → Element → Bool
some_writes accesses e = list_any (λ (a : AccessRow). writes a.mode && has a e) accesses

-- of all places of a block: the values after accesses were stored, and the number of the task where it writes
pub record HoldsOutputs (accesses : List AccessRow) (lists : List (List ℤ)) (at : ℕ → Element) (size : ℕ) (old new : List ℤ) : Type 0 where
  pub count : length new ≡ length old
  pub each : (q : ℕ) → q < size → element new q ≡ value_stored accesses lists (at q) (element old q)

pub record HoldsNumber (accesses : List AccessRow) (at : ℕ → Element) (size task : ℕ) (old new : List ℕ) : Type 0 where
  pub count : length new ≡ length old
  pub each : (q : ℕ) → q < size → slice_index new q ≡ cond (some_writes accesses (at q)) task (slice_index old q)
