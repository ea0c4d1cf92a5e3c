-- What is left of modes and accesses that are gone through together, and what it says of all of them.
use Rattle.std.proofs.Common.{◌≡◌, ◌↔◌, ◌⊎◌, ◌+◌, true, false, IsTrue, List, [], ◌∷◌, map, length, refl, arith, inl, inr}
use Rattle.std.specs.List.{AllZip}
use Rattle.dd_kernels.specs.declared.signature.Mode.{Mode}
use Rattle.dd_blocks.specs.Tasks.{MayBe}
use Rattle.dd_script.specs.declared.piece.Piece.{Piece}

-- each of these accesses may be used as these modes say
abbrev pub AllMayBe : List Mode → List Piece → Type 0
AllMayBe modes pieces = AllZip MayBe modes (map (λ (p : Piece). p.mode) pieces)

-- there are as many left of both, and those say of all what is said
pub record IsLeft (modes : List Mode) (pieces : List Piece) (All : Type 0) : Type 0 where
  pub long : length modes ≡ length pieces
  pub same : AllMayBe modes pieces ↔ All

pub left_more : {All : Type 0} (modes modes' : List Mode) (pieces pieces' : List Piece) (m : Mode) (p : Piece) → modes ≡ m ∷ modes' → pieces ≡ p ∷ pieces' → MayBe m p.mode → IsLeft modes pieces All → IsLeft modes' pieces' All
left_more modes modes' pieces pieces' m p first second here left =
    let ones : length modes ≡ length modes' + 1 = rw first (omega arith) in
    let others : length pieces ≡ length pieces' + 1 = rw second (omega arith) in
    record {
      long = omega (arith, left.long);
      same = (λ rest. left.same.0 (rw (first, second) (here, rest)), λ all. (rw (first, second) at (left.same.1 all)).1);
    }

pub left_stop : {All : Type 0} (modes modes' : List Mode) (pieces pieces' : List Piece) (m : Mode) (p : Piece) → modes ≡ m ∷ modes' → pieces ≡ p ∷ pieces' → ¬ MayBe m p.mode → IsLeft modes pieces All → IsTrue false ↔ All
left_stop modes modes' pieces pieces' m p first second not left = (λ t. absurd (cc), λ all. absurd (not (rw (first, second) at (left.same.1 all)).0))

pub left_none : {All : Type 0} (modes : List Mode) (pieces : List Piece) → (modes ≡ []) ⊎ (pieces ≡ []) → IsLeft modes pieces All → IsTrue true ↔ All
left_none [] [] end left = (λ t. left.same.0 tt, λ all. refl)
left_none [] (p ∷ pieces) end left = absurd (omega (arith, left.long))
left_none (m ∷ modes) [] end left = absurd (omega (arith, left.long))
left_none (m ∷ modes) (p ∷ pieces) end left = absurd (elim end [ inl e ↦ cc | inr e ↦ cc ])
