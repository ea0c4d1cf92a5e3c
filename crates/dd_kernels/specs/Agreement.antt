-- What the modes of a kernel's accesses say of two lists of their lists.
use Rattle.std.specs.Prelude.{◌≡◌, ℤ, List, [], ◌∷◌}
use Rattle.dd_kernels.specs.declared.kernel.Kernel.{Kernel}
use Rattle.dd_kernels.specs.declared.signature.Mode.{Mode}
use Rattle.dd_kernels.specs.declared.signature.Mode.TheVariants.{Read, Write}
use Rattle.dd_kernels.specs.Signatures.{modes_of}

-- one mode, and one list in each of the two, for each access; `R` holds of the three
abbrev pub AtEach : (Mode → List ℤ → List ℤ → Type 0) → List Mode → List (List ℤ) → List (List ℤ) → Type 0
AtEach R [] [] [] = Unit {0}
AtEach R (m ∷ ms) (x ∷ xs) (y ∷ ys) = R m x y × AtEach R ms xs ys
AtEach R _ _ _ = ⊥

-- equal lists, unless the access is only written
abbrev pub SameIfRead : Mode → List ℤ → List ℤ → Type 0
SameIfRead Write x y = Unit {0}
SameIfRead _ x y = x ≡ y

-- equal lists, where the access is only read
abbrev pub SameIfOnlyRead : Mode → List ℤ → List ℤ → Type 0
SameIfOnlyRead Read x y = x ≡ y
SameIfOnlyRead _ x y = Unit {0}

-- the two are equal at each access of the kernel that isn't only written
abbrev pub AgreeWhereRead : Kernel → List (List ℤ) → List (List ℤ) → Type 0
AgreeWhereRead k = AtEach SameIfRead (modes_of k)

-- the two are equal at each access of the kernel that is only read
abbrev pub AgreeWhereOnlyRead : Kernel → List (List ℤ) → List (List ℤ) → Type 0
AgreeWhereOnlyRead k = AtEach SameIfOnlyRead (modes_of k)
