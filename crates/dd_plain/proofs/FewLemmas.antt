-- How many accesses a kernel has.
use Rattle.std.proofs.Common.{◌≤◌, List, [], ◌∷◌, length, arith}
use Rattle.dd_kernels.specs.declared.kernel.Kernel.{Kernel}
use Rattle.dd_kernels.specs.declared.kernel.Kernel.TheVariants.{Fill, Addk, Scale, Copy, Copyt, Add, Sub, Mul, Axpy, Xor, Min, Max, Neg, Rev, Rot, Sort, Scan, Sum, Dot, Swap, Iota, Gemm, Gemv, Stencil5, Trmv, TrsvUnit, TrsmUnit, Mirror, SyrkPacked}
use Rattle.dd_kernels.specs.declared.shape.Shape.{Shape}
use Rattle.dd_blocks.specs.declared.access_row.AccessRow.{AccessRow}
use Rattle.dd_blocks.specs.declared.task_row.TaskRow.{TaskRow}
use Rattle.dd_blocks.specs.Tasks.{kernel_shape, shapes_in}
use Rattle.std.proofs.lemmas.List.{length-map}
use Rattle.dd_kernels.specs.Shapes.{OfOne, OfTwo, OfThree, ShapesFit}

abbrev pub AreFew : List Shape → Type 0
AreFew ss = (1 ≤ length ss) × (length ss ≤ 3)

one : (F : Shape → Type 0) (ss : List Shape) → OfOne F ss → AreFew ss
one F [] h = absurd h
one F (s ∷ []) h = (omega arith, omega arith)
one F (s ∷ t ∷ ss) h = absurd h

two : (F : Shape → Shape → Type 0) (ss : List Shape) → OfTwo F ss → AreFew ss
two F [] h = absurd h
two F (s ∷ []) h = absurd h
two F (s ∷ t ∷ []) h = (omega arith, omega arith)
two F (s ∷ t ∷ u ∷ ss) h = absurd h

three : (F : Shape → Shape → Shape → Type 0) (ss : List Shape) → OfThree F ss → AreFew ss
three F [] h = absurd h
three F (s ∷ []) h = absurd h
three F (s ∷ t ∷ []) h = absurd h
three F (s ∷ t ∷ u ∷ []) h = (omega arith, omega arith)
three F (s ∷ t ∷ u ∷ v ∷ ss) h = absurd h

few_shapes : (k : Kernel) (ss : List Shape) → ShapesFit k ss → AreFew ss
few_shapes Fill ss fit = one _ ss fit
few_shapes Addk ss fit = one _ ss fit
few_shapes Scale ss fit = one _ ss fit
few_shapes Copy ss fit = two _ ss fit
few_shapes Copyt ss fit = two _ ss fit
few_shapes Add ss fit = two _ ss fit
few_shapes Sub ss fit = two _ ss fit
few_shapes Mul ss fit = two _ ss fit
few_shapes Axpy ss fit = two _ ss fit
few_shapes Xor ss fit = two _ ss fit
few_shapes Min ss fit = two _ ss fit
few_shapes Max ss fit = two _ ss fit
few_shapes Neg ss fit = one _ ss fit
few_shapes Rev ss fit = one _ ss fit
few_shapes Rot ss fit = one _ ss fit
few_shapes Sort ss fit = one _ ss fit
few_shapes Scan ss fit = one _ ss fit
few_shapes Sum ss fit = two _ ss fit
few_shapes Dot ss fit = three _ ss fit
few_shapes Swap ss fit = two _ ss fit
few_shapes Iota ss fit = one _ ss fit
few_shapes Gemm ss fit = three _ ss fit
few_shapes Gemv ss fit = three _ ss fit
few_shapes Stencil5 ss fit = two _ ss fit
few_shapes Trmv ss fit = two _ ss fit
few_shapes TrsvUnit ss fit = two _ ss fit
few_shapes TrsmUnit ss fit = two _ ss fit
few_shapes Mirror ss fit = two _ ss fit
few_shapes SyrkPacked ss fit = two _ ss fit

pub few_accesses : (task : TaskRow) → ShapesFit task.kernel (shapes_in task.accesses) → (1 ≤ length task.accesses) × (length task.accesses ≤ 3)
few_accesses task fit =
    let few = few_shapes task.kernel (shapes_in task.accesses) fit in
    let count = length-map task.accesses (λ (a : AccessRow). kernel_shape a.view) in
    (omega (arith, few.0, count), omega (arith, few.1, count))
