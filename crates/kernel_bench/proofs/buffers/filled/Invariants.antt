-- There is a buffer for each shape so far.
use Rattle.std.proofs.Common.{◌≡◌, map, take}
use Rattle.dd_kernels.specs.Shapes.{HaveShapes}
use Rattle.kernel_bench.proofs.buffers.filled.Given as goal

abbrev pub invariant-loop-shape : goal.invariant-loop-shape
invariant-loop-shape l = (l.args.shapes.items ≡ take l.shape-index l.shapes) × HaveShapes l.args.shapes.items (map (λ b. b.items) l.args.bufs.items)
