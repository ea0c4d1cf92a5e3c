-- The rows that run regions, by how many rows stand above them.
use Rattle.std.specs.Prelude.{◌≡◌, ℕ, ◌+◌, ◌<◌, length, slice_index_or}
use Rattle.dd_blocks.specs.declared.plan.Plan.{Plan}
use Rattle.dd_blocks.specs.declared.what.What.{What}
use Rattle.dd_blocks.specs.declared.what.What.TheVariants.{Put, Region}
use Rattle.dd_meaning.specs.Text.{regions_above}

-- the statement that has so many rows above it
abbrev pub what_at : Plan → ℕ → What
what_at plan i = (slice_index_or plan.statements i (record { line = 0; what = Put 0 })).what

-- the row that has so many rows above it runs the region
pub record RunsAt (plan : Plan) (i region : ℕ) : Type 0 where
  pub within : i < length plan.statements
  pub what : what_at plan i ≡ Region region

-- the region that comes next below so many rows
abbrev pub next_region : Plan → ℕ → ℕ
next_region plan i = regions_above plan i + 1
