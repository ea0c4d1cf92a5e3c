-- A view has as many elements as its shape as an argument of a kernel.
use Rattle.std.proofs.Common.{◌≡◌, ◌*◌, length, arith}
use Rattle.dd_kernels.specs.Shapes.{size_of}
use Rattle.dd_views.specs.declared.part.Part.{Part}
use Rattle.dd_views.specs.declared.part.Part.TheVariants.{All, Lower, Upper, UnitLower, UnitUpper, Diag}
use Rattle.dd_views.specs.declared.view.View.{View}
use Rattle.dd_views.specs.Columns.{size_by}
use Rattle.dd_views.specs.IndexList.{index_list}
use Rattle.dd_views.specs.Views.{IsView, shape_by}
use Rattle.dd_views.proofs.ViewLemmas.{length_view}
use Rattle.dd_blocks.specs.Tasks.{kernel_shape}

long_by : (p : Part) (v : View) → length (index_list v) ≡ size_by p v.rows.count v.cols.count → length (index_list v) ≡ (shape_by p v).rows * (shape_by p v).cols
long_by All v long = long
long_by Lower v long = omega arith
long_by Upper v long = omega arith
long_by UnitLower v long = omega arith
long_by UnitUpper v long = omega arith
long_by Diag v long = omega arith

pub long_view : (v : View) → IsView v → length (index_list v) ≡ size_of (kernel_shape v)
long_view v view = long_by v.part v (length_view v view)
