-- The numbers of 64 bits.
use Rattle.std.specs.Prelude.{ℤ, pos, negsuc, Bool, ◌^◌, nat_lt}

-- from -2^63 to 2^63 - 1
abbrev pub fits_int64 : ℤ → Bool
fits_int64 (pos n) = nat_lt n (2 ^ 63)
fits_int64 (negsuc n) = nat_lt n (2 ^ 63)
