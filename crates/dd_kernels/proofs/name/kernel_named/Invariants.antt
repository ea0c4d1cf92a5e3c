-- No kernel before the place has the word for its name.
use Rattle.std.proofs.Common.{◌≡◌, ℕ, ◌<◌, get_or}
use Rattle.dd_kernels.specs.declared.kernel.Kernel.TheVariants.{Fill}
use Rattle.dd_kernels.specs.Names.{name_of}
use Rattle.dd_kernels.proofs.name.kernel_named.Given as goal

abbrev pub invariant-loop-k : goal.invariant-loop-k
invariant-loop-k l = (i : ℕ) → i < l.k-index → l.word ≡ name_of (get_or l.k-items i Fill) → ⊥
