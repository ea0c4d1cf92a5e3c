-- The test for a number of 64 bits, and what it says.
use Rattle.std.proofs.Common.{◌≡◌, ℤ, pos, negsuc, true, FitsSigned}
use Rattle.std.specs.Int.{w64}
use Rattle.std.proofs.lemmas.Bool.{ltb-true, lt-ltb}
use Rattle.dd_script.specs.Int64.{fits_int64}

pub fits_from_test : (z : ℤ) → fits_int64 z ≡ true → FitsSigned w64 z
fits_from_test (pos n) e = record { sfits = ltb-true _ _ e }
fits_from_test (negsuc n) e = record { sfits = ltb-true _ _ e }

pub test_from_fits : (z : ℤ) → FitsSigned w64 z → fits_int64 z ≡ true
test_from_fits (pos n) f = lt-ltb _ _ f.sfits
test_from_fits (negsuc n) f = lt-ltb _ _ f.sfits
