-- What the arguments of a task are where none of the kinds on them holds.
use Rattle.std.specs.Prelude.{◌≡◌, ℕ, ℤ, List, Option, length, map}
use Rattle.std.specs.List.{AllZip}
use Rattle.dd_kernels.specs.declared.kernel.Kernel.{Kernel}
use Rattle.dd_kernels.specs.Names.{name_of}
use Rattle.dd_kernels.specs.Signatures.{modes_of}
use Rattle.dd_blocks.specs.Tasks.{MayBe}
use Rattle.dd_script.specs.declared.piece.Piece.{Piece}
use Rattle.dd_script.specs.declared.statement.Statement.TheVariants.{Task}
use Rattle.dd_check.specs.Above.{Above}
use Rattle.dd_check.specs.Chain.{argument_kinds}
use Rattle.dd_check.specs.Faults.{AreClear}
use Rattle.dd_check.specs.Kinds.{TakesGiven}

-- the word names the kernel, and the scalar and the pieces are what it takes
pub record IsTaskOf (n : ℕ) (s : Above) (word : List ℕ) (scalar : Option ℤ) (pieces : List Piece) (k : Kernel) : Type 0 where
  pub kernel : word ≡ name_of k
  pub count : length pieces ≡ length (modes_of k)
  pub modes : AllZip MayBe (modes_of k) (map (λ (p : Piece). p.mode) pieces)
  pub scalar_given : TakesGiven k scalar
  pub clear : AreClear n s (Task word scalar pieces) argument_kinds
