-- Signed numbers, by their bits.
use Rattle.std.proofs.Common.{◌≡◌, ℤ, pos, negsuc, ap, arith}
use Rattle.std.specs.Int.{w64, cast_unsigned}
use Rattle.std.specs.Int.RustNames.{FitsSigned}
use Rattle.std.proofs.lemmas.Int.{ints}

-- a step of 1, by its bits
pub one_step : (s : ℤ) → FitsSigned w64 s → cast_unsigned w64 s ≡ 1 → s ≡ pos 1
one_step (pos n) fits one = ap pos one
one_step (negsuc n) fits one = absurd (omega (arith, ints, one, fits))
