-- The buffers keep their shapes.
use Rattle.std.proofs.Common.{map}
use Rattle.dd_kernels.specs.Shapes.{HaveShapes, ShapesFit}
use Rattle.kernel_bench.proofs.buffers.run_times.Given as goal

abbrev pub invariant-loop : goal.invariant-loop
invariant-loop l = ShapesFit l.k l.args.shapes.items × HaveShapes l.args.shapes.items (map (λ b. b.items) l.args.bufs.items)
