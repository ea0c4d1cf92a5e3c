-- What a kernel takes: whether there is a scalar, and how each access is used.
use Rattle.std.specs.Prelude.{List, [], ◌∷◌}
use Rattle.dd_kernels.specs.declared.kernel.Kernel.{Kernel}
use Rattle.dd_kernels.specs.declared.kernel.Kernel.TheVariants.{Fill, Addk, Scale, Copy, Copyt, Add, Sub, Mul, Axpy, Xor, Min, Max, Neg, Rev, Rot, Sort, Scan, Sum, Dot, Swap, Iota, Gemm, Gemv, Stencil5, Trmv, TrsvUnit, TrsmUnit, Mirror, SyrkPacked}
use Rattle.dd_kernels.specs.declared.signature.Mode.{Mode}
use Rattle.dd_kernels.specs.declared.signature.Mode.TheVariants.{Read, Write, Both}

-- the kernels with a scalar
abbrev pub TakesScalar : Kernel → Type 0
TakesScalar Fill = Unit {0}
TakesScalar Addk = Unit {0}
TakesScalar Scale = Unit {0}
TakesScalar Axpy = Unit {0}
TakesScalar Rot = Unit {0}
TakesScalar Iota = Unit {0}
TakesScalar _ = ⊥

-- the modes of the accesses in order
abbrev pub modes_of : Kernel → List Mode
modes_of Fill = Write ∷ []
modes_of Addk = Both ∷ []
modes_of Scale = Both ∷ []
modes_of Copy = Write ∷ Read ∷ []
modes_of Copyt = Write ∷ Read ∷ []
modes_of Add = Both ∷ Read ∷ []
modes_of Sub = Both ∷ Read ∷ []
modes_of Mul = Both ∷ Read ∷ []
modes_of Axpy = Both ∷ Read ∷ []
modes_of Xor = Both ∷ Read ∷ []
modes_of Min = Both ∷ Read ∷ []
modes_of Max = Both ∷ Read ∷ []
modes_of Neg = Both ∷ []
modes_of Rev = Both ∷ []
modes_of Rot = Both ∷ []
modes_of Sort = Both ∷ []
modes_of Scan = Both ∷ []
modes_of Sum = Write ∷ Read ∷ []
modes_of Dot = Write ∷ Read ∷ Read ∷ []
modes_of Swap = Both ∷ Both ∷ []
modes_of Iota = Write ∷ []
modes_of Gemm = Both ∷ Read ∷ Read ∷ []
modes_of Gemv = Both ∷ Read ∷ Read ∷ []
modes_of Stencil5 = Write ∷ Read ∷ []
modes_of Trmv = Both ∷ Read ∷ []
modes_of TrsvUnit = Both ∷ Read ∷ []
modes_of TrsmUnit = Both ∷ Read ∷ []
modes_of Mirror = Read ∷ Write ∷ []
modes_of SyrkPacked = Both ∷ Read ∷ []
