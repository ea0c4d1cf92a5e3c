-- Views and their columns over the values of an array.
use Rattle.std.specs.Prelude.{◌≡◌, ℕ, ◌*◌, ◌^◌, ◌<◌, pos, ◌≤ℤ◌}
use Rattle.dd_views.specs.declared.column.Column.{Column}
use Rattle.dd_views.specs.declared.shape.Shape.{Shape}
use Rattle.dd_views.specs.declared.view.View.{View}
use Rattle.dd_views.specs.Positions.{position_in, stepped}
use Rattle.dd_views.specs.Views.{IsViewOf}

-- the view is of an array with so many values
pub record IsOver (v : View) (size : ℕ) : Type 0 where
  pub shape : Shape
  pub view : IsViewOf shape v
  pub same : size ≡ shape.rows * shape.cols

-- the column keeps positions of an array with so many values
pub record IsColumnIn (size : ℕ) (c : Column) : Type 0 where
  pub whole : (i : ℕ) → i < c.count → pos 0 ≤ℤ stepped c i
  pub inside : (i : ℕ) → i < c.count → position_in c i < size
  pub none : c.count ≡ 0 → c.first ≡ 0
  pub small : size < 2 ^ 63
