-- What keeps a charge small.
use Rattle.std.specs.Prelude.{◌*◌, ◌≤◌}
use Rattle.dd_views.specs.declared.shape.Shape.{Shape}
use Rattle.dd_views.specs.Views.{IsViewOf}
use Rattle.dd_blocks.specs.declared.access_row.AccessRow.{AccessRow}
use Rattle.dd_blocks.specs.Limits.{elements_limit}

-- the access has a view of an array that keeps the limit
abbrev pub IsSmallAccess : AccessRow → Type 0
IsSmallAccess access = (shape : Shape) × IsViewOf shape access.view × (shape.rows * shape.cols ≤ elements_limit)
