-- How many lines a text has.
use Rattle.std.proofs.Common.{◌≡◌, ℕ, suc, ◌≤◌, true, false, List, [], ◌∷◌, length, ⊎_elim, arith}
use Rattle.std.specs.Prelude.{◌==◌}
use Rattle.std.proofs.lemmas.Bool.{cases_Bool}
use Rattle.dd_check.specs.Lines.{lengthen_first, lines_of}

-- a text has no more lines than bytes
pub few_lines : (text : List ℕ) → length (lines_of text) ≤ length text
few_lines [] = omega arith
few_lines (b ∷ bs) = ⊎_elim
    (λ (feed : (b == 10) ≡ true). rw feed (omega (arith, few_lines bs)))
    (λ (other : (b == 10) ≡ false). rw other (lengthened b (lines_of bs) bs (few_lines bs)))
    (cases_Bool (b == 10))
  where
    lengthened : (c : ℕ) (lines : List (List ℕ)) (rest : List ℕ) → length lines ≤ length rest → length (lengthen_first c lines) ≤ suc (length rest)
    lengthened c [] rest few = omega arith
    lengthened c (line ∷ lines) rest few = omega arith
